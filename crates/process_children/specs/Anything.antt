-- What children may answer of which nothing is known beforehand: any outcome, for any words and seen files.
use Rattle.std.specs.Prelude.{ℕ, List, ⊤}
use Rattle.child_port.specs.declared.answer.Outcome.{Outcome}
use Rattle.hook_base.specs.declared.file.File.{File}

abbrev pub TellsAnything : List (List ℕ) → List File → Outcome → Type 0
TellsAnything words seen outcome = ⊤
