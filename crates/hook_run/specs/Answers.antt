-- How the parts of a run get their outcomes: from children, which count what they report, or from the cache.
use Rattle.std.specs.Prelude.{◌≡◌, ◌⊎◌, ◌+◌, ◌-◌, ◌^◌, ℕ, min, List, [], ◌∷◌, ◌++◌, length, Option, None, Some, IfSome}
use Rattle.std.proofs.Common.{inl, inr}
use Rattle.hook_base.specs.declared.file.File.{File}
use Rattle.child_port.specs.declared.answer.Answer.{Answer}
use Rattle.child_port.specs.declared.answer.Outcome.{Outcome}
use Rattle.result_book.specs.Calls.{AfterFind}
use Rattle.result_book.specs.Contents.{Finds}
use Rattle.hook_run.specs.declared.reuse.Reuse.{Reuse}
use Rattle.hook_run.specs.Moments.{Moment}
use Rattle.hook_run.specs.Parts.{AllTold, Part, faults_of}
use Rattle.hook_run.specs.Reuses.{NeedsStart}
use Rattle.hook_run.specs.Starts.{Starts}

-- the children reported the outcomes of these parts between two moments
pub record IsCounted (from to : Moment) (started : List Part) : Type 0 where
  pub called : to.calls ≡ from.calls + length started
  pub faulted : to.faults ≡ from.faults + faults_of started

-- Each of the parts has its outcome. The children reported and counted the parts in `started`, and nothing
-- else. What is cached changes as `Starts` says.
pub record AreAnswered (tells : List (List ℕ) → List File → Outcome → Type 0) (reuse : Reuse) (from to : Moment)
    (parts : List Part) : Type 0 where
  pub started : List Part
  pub starts : Starts reuse from.remembered to.remembered parts started
  pub told : AllTold tells started
  pub counted : IsCounted from to started

-- This many parts used a cached result, and the others were started. The number is capped at 2^64 - 1.
pub record AreReused (parts started : List Part) (reused : ℕ) : Type 0 where
  pub unstarted : ℕ
  pub others : unstarted + length started ≡ length parts
  pub counted : reused ≡ min unstarted (2 ^ 64 - 1)

-- A run is stopped at a part that needs a child. It was looked up, and the run may not use the cached result,
-- if there is one. Either no child reported it, and `last` is empty; or one did, its answer isn't put, and
-- `last` has the part.
pub record IsCutOff (tells : List (List ℕ) → List File → Outcome → Type 0) (reuse : Reuse) (from to : Moment)
    (part : Part) (last : List Part) : Type 0 where
  pub found : Option Answer
  pub finds : Finds part.words part.seen from.remembered found
  pub needs : NeedsStart reuse found
  pub look_up : AfterFind part.words part.seen from.remembered to.remembered
  pub this : (last ≡ []) ⊎ (last ≡ part ∷ [])
  pub told : AllTold tells last
  pub counted : IsCounted from to last

-- the part at which a run was stopped, if it wasn't stopped after a whole part
abbrev pub part_cut_off : {Whole : Type 0} {Cut : Part → Type 0} → Whole ⊎ ((part : Part) × Cut part) → Option Part
part_cut_off (inl whole) = None
part_cut_off (inr cut) = Some cut.0

-- The same of parts with which a run may be stopped: after a whole part, or at one that needs a child.
pub record AreAnsweredSoFar (tells : List (List ℕ) → List File → Outcome → Type 0) (reuse : Reuse) (from to : Moment)
    (parts : List Part) : Type 0 where
  pub done : List Part
  pub last : List Part
  pub between : Moment
  pub split : parts ≡ done ++ last
  pub answered : AreAnswered tells reuse from between done
  pub stopped : ((last ≡ []) × (to ≡ between)) ⊎ ((part : Part) × IsCutOff tells reuse between to part last)

-- This holds of the parts up to the one at which a run was stopped, with that one, if there is one.
abbrev pub HoldsCutOff : {Whole : Type 0} {Cut : Part → Type 0} → (List Part → Type 0) → List Part
    → Whole ⊎ ((part : Part) × Cut part) → Type 0
HoldsCutOff P done stopped = IfSome (part_cut_off stopped) (λ part. P (done ++ part ∷ []))
