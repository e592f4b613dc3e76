-- Two relations of words, seen files and outcomes hold for the same ones.
use Rattle.std.specs.Prelude.{ℕ, List}
use Rattle.child_port.specs.declared.answer.Outcome.{Outcome}
use Rattle.hook_base.specs.declared.file.File.{File}

pub record SameTells (before after : List (List ℕ) → List File → Outcome → Type 0) : Type 0 where
  pub kept : (words : List (List ℕ)) (seen : List File) (outcome : Outcome) → before words seen outcome
      → after words seen outcome
  pub added : (words : List (List ℕ)) (seen : List File) (outcome : Outcome) → after words seen outcome
      → before words seen outcome
