-- A plan that children and cached results complete. Used only by private functions.
use Rattle.std.specs.Prelude.{◌≡◌, ◌≢◌, ◌⊎◌, ◌-◌, ◌^◌, ℕ, Bool, if◌then◌else◌, List, [], ◌∷◌, ◌++◌, Option}
use Rattle.hook_base.specs.declared.file.File.{File}
use Rattle.child_port.specs.declared.answer.Answer.{Answer}
use Rattle.child_port.specs.declared.answer.Outcome.{Outcome}
use Rattle.hook_run.specs.declared.part_outcome.PartOutcome.{PartOutcome}
use Rattle.hook_run.specs.declared.hooks_run.HooksRun.{HooksRun}
use Rattle.hook_run.specs.declared.reuse.Reuse.{Reuse}
use Rattle.hook_run.specs.declared.run_refusal.RunRefusal.{RunRefusal}
use Rattle.hook_run.specs.declared.run_refusal.RunRefusal.TheVariants.{NoSuchHook, Spent}
use Rattle.hook_run.specs.Answers.{AreAnswered, AreAnsweredSoFar, AreReused, HoldsCutOff, IsCounted}
use Rattle.hook_run.specs.Moments.{Moment}
use Rattle.hook_run.specs.Parts.{AllTold, Part}
use Rattle.hook_run.specs.Plans.{CanComplete, Completes, Plan, part_with, seen_of_plan, words_of_plan}
use Rattle.hook_run.specs.Reuses.{LacksServing}
use Rattle.hook_run.specs.Starts.{IsStarted}

-- the part that the plan needs, with its outcome
abbrev pub part_of : Plan → PartOutcome → Part
part_of plan came = part_with plan came.outcome came.unsteady

-- ---- a part for which a child is started

-- a child reported the outcome of the part, which is counted, and its answer is put
pub record IsPartStarted (tells : List (List ℕ) → List File → Outcome → Type 0) (found : Option Answer)
    (from to : Moment) (part : Part) : Type 0 where
  pub told : tells part.words part.seen part.outcome
  pub counted : IsCounted from to (part ∷ [])
  pub started : IsStarted found from.remembered to.remembered part

-- no child reported the part, or one did and its answer isn't put
pub record IsPartUnput (tells : List (List ℕ) → List File → Outcome → Type 0) (from to : Moment) (plan : Plan)
    (refusal : RunRefusal) : Type 0 where
  pub last : List Part
  pub outcome : Outcome
  pub unsteady : Bool
  pub this : (last ≡ []) ⊎ (last ≡ part_with plan outcome unsteady ∷ [])
  pub begins : CanComplete plan last
  pub told : AllTold tells last
  pub counted : IsCounted from to last
  pub kept : to.remembered ≡ from.remembered
  pub asked : refusal ≢ NoSuchHook
  pub spent : refusal ≡ Spent → (last ≡ []) × (to.calls ≡ 2 ^ 64 - 1)

-- ---- any part

-- how many parts used a cached result: one or none
abbrev pub one_if : Bool → ℕ
one_if reused = if reused then 1 else 0

-- the plan was stopped at the part that it needs
pub record IsPartStopped (tells : List (List ℕ) → List File → Outcome → Type 0) (reuse : Reuse) (from to : Moment)
    (plan : Plan) (refusal : RunRefusal) : Type 0 where
  pub last : List Part
  pub answered : AreAnsweredSoFar tells reuse from to last
  pub begins : CanComplete plan last
  pub cut_off : HoldsCutOff (CanComplete plan) answered.done answered.stopped
  pub asked : refusal ≢ NoSuchHook
  pub needs : refusal ≡ Spent → (last ≡ []) × (answered.last ≡ [])
      × LacksServing reuse (words_of_plan plan) (seen_of_plan plan) to.remembered
  pub spent : refusal ≡ Spent → to.calls ≡ 2 ^ 64 - 1

-- ---- all parts

-- parts complete the plan
pub record IsPlanRun (tells : List (List ℕ) → List File → Outcome → Type 0) (reuse : Reuse) (from to : Moment)
    (plan : Plan) (ran : HooksRun) : Type 0 where
  pub parts : List Part
  pub answered : AreAnswered tells reuse from to parts
  pub reused : AreReused parts answered.started ran.reused
  pub completes : Completes plan parts ran.out

-- a further part may come after these in the plan, and it needs a child
pub record NeedsFurther (reuse : Reuse) (at : Moment) (plan : Plan) (front : List Part) : Type 0 where
  pub part : Part
  pub begins : CanComplete plan (front ++ part ∷ [])
  pub lacks : LacksServing reuse part.words part.seen at.remembered

-- the plan was stopped after these parts, with which those that complete it begin
pub record IsPlanStopped (tells : List (List ℕ) → List File → Outcome → Type 0) (reuse : Reuse) (from to : Moment)
    (plan : Plan) (refusal : RunRefusal) : Type 0 where
  pub parts : List Part
  pub answered : AreAnsweredSoFar tells reuse from to parts
  pub begins : CanComplete plan parts
  pub cut_off : HoldsCutOff (CanComplete plan) answered.done answered.stopped
  pub asked : refusal ≢ NoSuchHook
  pub needs : refusal ≡ Spent → NeedsFurther reuse to plan parts
  pub untold : refusal ≡ Spent → answered.last ≡ []
  pub spent : refusal ≡ Spent → to.calls ≡ 2 ^ 64 - 1
