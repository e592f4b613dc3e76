use Rattle.std.proofs.Common.{rules, tests, ◌∙◌}
use Rattle.std.specs.Str.{bytes_eq}
use Rattle.std.proofs.lemmas.Iterator.{YieldsList-from_slice}
use Rattle.std.proofs.lemmas.Iterator.Search.{any_from_yields_List}
use Rattle.file_tags.proofs.TagLemmas.{has_tag-texts_of}
use Rattle.file_tags.proofs.tags.has_tag.Goals as goal

pub returns : goal.returns
returns c =
    any_from_yields_List (λ other. bytes_eq other.now c.args.tag.now) _ _ _ c.any.ensures.ran (YieldsList-from_slice c.args.tags.now c.iter.ensures.rest) (λ x b q k. search (rules, tests))
    ∙ has_tag-texts_of c.args.tag.now c.args.tags.now
