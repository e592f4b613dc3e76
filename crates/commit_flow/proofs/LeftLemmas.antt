-- What a stop leaves remembered, over several calls.
use Rattle.std.proofs.Common.{ℕ, List, inl, inr}
use Rattle.hook_base.specs.declared.file.File.{File}
use Rattle.child_port.specs.declared.answer.Outcome.{Outcome}
use Rattle.child_port.specs.Telling.{SameTells}
use Rattle.result_book.specs.Contents.{Contents}
use Rattle.result_book.specs.Told.{AddsTold}
use Rattle.result_book.specs.ToldLemmas.{adds-then}
use Rattle.hook_run.specs.AnswerLemmas.{adds-back_to}
use Rattle.commit_flow.specs.Preparations.{LeavesTold}

-- nothing happens
pub left_same : (tells : List (List ℕ) → List File → Outcome → Type 0) (before : Contents) (could : Contents → Type 0) → LeavesTold tells before could could
left_same tells before could = λ left may. inl may

-- two calls in a row, over children that tell the same
pub left_then : (tells next : List (List ℕ) → List File → Outcome → Type 0) (before between : Contents) (first second third : Contents → Type 0) → SameTells tells next
    → AddsTold tells before between → LeavesTold tells before first second → LeavesTold next between second third → LeavesTold tells before first third
left_then tells next before between first second third same adds one two = λ left may.
    elim (two left may) [
      | inl earlier ↦ one left earlier
      | inr more ↦ inr (adds-then tells before between left adds (adds-back_to tells next same between left more))
    ]
