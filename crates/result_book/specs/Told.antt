-- Cached answers that children reported, and that change only files which their children have seen.
use Rattle.std.specs.Prelude.{◌≡◌, ◌⊎◌, ℕ, false, List}
use Rattle.child_port.specs.declared.answer.Answer.{Answer}
use Rattle.child_port.specs.declared.answer.Outcome.{Outcome}
use Rattle.child_port.specs.declared.answer.Outcome.TheVariants.{Done}
use Rattle.child_port.specs.Seen.{is_stray}
use Rattle.hook_base.specs.declared.file.File.{File}
use Rattle.result_book.specs.Contents.{Contents, Holds}

-- `tells` allows the answer for the words and the seen files, and the answer changes only these files
pub record IsToldAnswer (tells : List (List ℕ) → List File → Outcome → Type 0) (words : List (List ℕ))
    (seen : List File) (answer : Answer) : Type 0 where
  pub told : tells words seen (Done answer)
  pub keeps : is_stray answer seen ≡ false

-- each cached answer was reported
abbrev pub IsTold : (List (List ℕ) → List File → Outcome → Type 0) → Contents → Type 0
IsTold tells contents =
    (words : List (List ℕ)) (seen : List File) (answer : Answer) → Holds words seen answer contents
    → IsToldAnswer tells words seen answer

-- each answer that is cached afterwards was cached before, or was reported
abbrev pub AddsTold : (List (List ℕ) → List File → Outcome → Type 0) → Contents → Contents → Type 0
AddsTold tells before after =
    (words : List (List ℕ)) (seen : List File) (answer : Answer) → Holds words seen answer after
    → Holds words seen answer before ⊎ IsToldAnswer tells words seen answer
