use Rattle.std.proofs.Common.{◌≡◌, ◌∷◌, length}
use denote.Text.{Utf8}
use denote.Shadow.{shadow}
use Rattle.file_tags.specs.Cuts.{before_dots}
use Rattle.file_tags.specs.TagTables.{interpreter_rows, tags_of_first}
use Rattle.file_tags.proofs.look_up.interpreter_tags.Given as goal

abbrev pub invariant-dots : goal.invariant-dots
invariant-dots l =
    shadow (Utf8 l.name)
    × (tags_of_first interpreter_rows (l.name ∷ before_dots l.name) ≡ tags_of_first interpreter_rows (l.interpreter ∷ before_dots l.interpreter))

abbrev pub decreases-dots : goal.decreases-dots
decreases-dots l = length l.name
