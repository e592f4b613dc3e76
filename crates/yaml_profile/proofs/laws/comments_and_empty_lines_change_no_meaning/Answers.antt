-- The places are the same, by the law of the lines.
use Rattle.yaml_lines.specs.LineLaws.{saying}
use Rattle.yaml_lines.specs.Lines.{line_texts}
use Rattle.yaml_profile.proofs.SayingTexts.{same_places}
use Rattle.yaml_profile.proofs.laws.comments_and_empty_lines_change_no_meaning.Goals as goal

pub returns : goal.returns
returns c =
    λ bytes others characters kept e f none are. same_places bytes others characters kept (saying (line_texts characters)) e f are
    (c.comments_and_empty_lines_say_nothing.ensures.text (line_texts characters) none)
