-- Which parts of a run are started, and what is cached of their answers. The words and seen files of each
-- part are looked up in what is cached at that moment, even if the run may use nothing. A found row moves
-- to the front, and a put may drop the last row. (docs/REFERENCE.md, "Cached results".)
use Rattle.std.specs.Prelude.{◌≡◌, ◌≢◌, ◌↔◌, ℕ, Bool, false, IsTrue, MatchBool, List, [], ◌∷◌, ◌++◌, Option, None, Some}
use Rattle.hook_base.specs.declared.file.File.{File}
use Rattle.child_port.specs.declared.answer.Answer.{Answer}
use Rattle.child_port.specs.declared.answer.Outcome.{Outcome}
use Rattle.child_port.specs.declared.answer.Outcome.TheVariants.{Done, Failed}
use Rattle.child_port.specs.Seen.{is_stray}
use Rattle.result_book.specs.Calls.{AfterFind, AfterPut}
use Rattle.result_book.specs.Contents.{Contents, Finds}
use Rattle.hook_run.specs.declared.reuse.Reuse.{Reuse}
use Rattle.hook_run.specs.Parts.{Part}
use Rattle.hook_run.specs.Reuses.{serves}

-- What is cached after a child with this outcome. A completed answer that changes only seen files is put in
-- front, and an earlier one for the same words and seen files is gone. No other outcome is put.
abbrev pub AfterOutcome : List (List ℕ) → List File → Outcome → Contents → Contents → Type 0
AfterOutcome words seen (Done answer) before after =
    MatchBool (is_stray answer seen) (after ≡ before) (AfterPut words seen answer before after)
AfterOutcome words seen (Failed fault) before after = after ≡ before

-- the mark says whether a completed answer differs from the one that was found
abbrev pub IsUnsteadyMark : Option Answer → Outcome → Bool → Type 0
IsUnsteadyMark (Some found) (Done answer) mark = IsTrue mark ↔ (answer ≢ found)
IsUnsteadyMark found outcome mark = mark ≡ false

-- a child is started for the part
pub record IsStarted (found : Option Answer) (before after : Contents) (part : Part) : Type 0 where
  pub marked : IsUnsteadyMark found part.outcome part.unsteady
  pub put : AfterOutcome part.words part.seen part.outcome before after

-- the part has the answer that was found, and nothing is put
pub record IsReplayed (found : Answer) (before after : Contents) (part : Part) : Type 0 where
  pub outcome : part.outcome ≡ Done found
  pub steady : part.unsteady ≡ false
  pub kept : after ≡ before

-- A child is started if nothing was found, or if the run may not use what was found. Then `started` has the
-- part.
abbrev pub StartsFor : Reuse → Option Answer → Contents → Contents → Part → List Part → Type 0
StartsFor reuse None before after part started = IsStarted None before after part × (started ≡ part ∷ [])
StartsFor reuse (Some found) before after part started =
    MatchBool (serves reuse found)
    (IsReplayed found before after part × (started ≡ []))
    (IsStarted (Some found) before after part × (started ≡ part ∷ []))

-- one part: it is looked up, and then started or not
pub record StartsOne (reuse : Reuse) (before after : Contents) (part : Part) (started : List Part) : Type 0 where
  pub found : Option Answer
  pub looked_up : Contents
  pub finds : Finds part.words part.seen before found
  pub look_up : AfterFind part.words part.seen before looked_up
  pub starts : StartsFor reuse found looked_up after part started

-- One part, and then more: `rest` says what is cached before these and which of them are started.
pub record StartsThen (reuse : Reuse) (before : Contents) (part : Part) (started : List Part)
    (rest : Contents → List Part → Type 0) : Type 0 where
  pub between : Contents
  pub first : List Part
  pub others : List Part
  pub one : StartsOne reuse before between part first
  pub more : rest between others
  pub joined : started ≡ first ++ others

-- The parts in order, each with what is cached at its moment. A child was started for those in `started`.
abbrev pub Starts : Reuse → Contents → Contents → List Part → List Part → Type 0
Starts reuse before after [] started = (after ≡ before) × (started ≡ [])
Starts reuse before after (part ∷ parts) started =
    StartsThen reuse before part started (λ between others. Starts reuse between after parts others)
