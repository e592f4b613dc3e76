-- A commit together with what its hooks were answered, and how far one came that is refused.
use Rattle.std.specs.Prelude.{◌≡◌, ◌⊎◌, ◌-◌, ◌^◌, ℕ, Bool, List, [], ◌++◌}
use Rattle.hook_base.specs.declared.change.Change.{Change}
use Rattle.hook_base.specs.declared.file.File.{File}
use Rattle.hook_base.specs.Trees.{changes_between}
use Rattle.child_port.specs.declared.answer.Outcome.{Outcome}
use Rattle.hook_config.specs.declared.configuration.Config.{Config}
use Rattle.hook_config.specs.declared.stage.Stage.{Stage}
use Rattle.hook_config.specs.declared.stage.Stage.TheVariants as stage
use Rattle.hook_run.specs.declared.reuse.Reuse.TheVariants as reuse
use Rattle.hook_run.specs.declared.run_refusal.RunRefusal.TheVariants as run
use Rattle.result_book.specs.Contents.{Contents}
use Rattle.result_book.specs.Told.{AddsTold, IsTold}
use Rattle.hook_run.specs.Answers.{AreAnswered, AreAnsweredSoFar}
use Rattle.hook_run.specs.Moments.{Moment}
use Rattle.hook_run.specs.Parts.{AllTold, Part}
use Rattle.hook_run.specs.RunOuts.{IsBegun, NeedsChild}
use Rattle.store_faults.specs.declared.fault.StoreFault.{StoreFault}
use Rattle.store_faults.specs.declared.fault.StoreFault.TheVariants.{Sql, TooLarge}
use Rattle.repo_store.specs.Kept.{FixCollides, Kept}
use Rattle.store_faults.specs.Limits.{IsSmall}
use Rattle.repo_store.specs.Repository.{Repository}
use Rattle.commit_flow.specs.declared.command.Command.TheVariants.{Commit}
use Rattle.commit_flow.specs.declared.commit_state.CommitState.{CommitState}
use Rattle.commit_flow.specs.declared.host_refusal.HostRefusal.TheVariants.{OutOfMemory, Store, Collision, Spent}
use Rattle.commit_flow.specs.declared.reply.PostCommit.TheVariants.{Stopped}
use Rattle.commit_flow.specs.declared.reply.Reply.{Reply}
use Rattle.commit_flow.specs.declared.reply.Reply.TheVariants.{Committed, Refused}
use Rattle.commit_flow.specs.CommitStages.{FailedAt, HaveBegun, HaveFurther, StageTold, ask_in, course_of, parts_of_stages, stages_before_commit}
use Rattle.commit_flow.specs.Commits.{IsVerifiedBut, MayCommit}
use Rattle.commit_flow.specs.Configured.{IsConfigured}
use Rattle.commit_flow.specs.Runs.{changed_paths}
use Rattle.commit_flow.specs.RunSteps.{IsUnrun, IsUnset}
use Rattle.commit_flow.specs.Steps.{Step}

-- A hook failed in a stage before the commit, with these parts of the stages up to it. What they did to the
-- staged files can't be the fixes for this reason.
pub record HasFailedBut (before : Repository) (message : List ℕ) (no_verify : Bool) (skip : List (List ℕ))
    (parts : List Part) (reason : List Change → Type 0) : Type 0 where
  pub config : Config
  pub told : List StageTold
  pub failed : Stage
  pub last : CommitState
  pub configured : IsConfigured before config
  pub run : FailedAt config (changed_paths before) skip (stages_before_commit no_verify) (course_of before message) told
      failed last
  pub traced : parts ≡ parts_of_stages told
  pub why : reason (changes_between before.staged last.tree)

-- the store refuses the commit with this fault: its cleaned message is too large, or it may be committed and
-- the database refuses
abbrev pub IsUnkept : Repository → StoreFault → List ℕ → Type 0
IsUnkept before TooLarge cleaned = ¬ IsSmall cleaned
IsUnkept before (Sql error) cleaned = MayCommit before cleaned
IsUnkept before fault cleaned = ⊥

-- the stages before the commit begin with these parts
pub record HasBegunBefore (before : Repository) (message : List ℕ) (no_verify : Bool) (skip : List (List ℕ))
    (parts : List Part) : Type 0 where
  pub config : Config
  pub configured : IsConfigured before config
  pub begun : HaveBegun config (changed_paths before) skip (stages_before_commit no_verify) (course_of before message)
      parts

-- they have a further part after these, and it needs a child
pub record HasFurtherBefore (before : Repository) (message : List ℕ) (no_verify : Bool) (skip : List (List ℕ))
    (remembered : Contents) (parts : List Part) : Type 0 where
  pub config : Config
  pub configured : IsConfigured before config
  pub further : HaveFurther remembered config (changed_paths before) skip (stages_before_commit no_verify)
      (course_of before message) parts

-- the hooks after the commit begin with these parts
pub record HasBegunBehind (before : Repository) (skip : List (List ℕ)) (parts : List Part) : Type 0 where
  pub config : Config
  pub configured : IsConfigured before config
  pub begun : IsBegun config (ask_in (changed_paths before) skip stage.PostCommit) before.staged parts

-- they have a further part after these, and it needs a child
pub record HasFurtherBehind (before : Repository) (skip : List (List ℕ)) (remembered : Contents)
    (parts : List Part) : Type 0 where
  pub config : Config
  pub configured : IsConfigured before config
  pub needs : NeedsChild remembered config (ask_in (changed_paths before) skip stage.PostCommit) before.staged parts

-- A commit was stopped by the store between two moments, with these parts of its stages. Either all of them
-- were answered, and it was stopped after the last for what they had done. Or it was stopped in the middle,
-- by what is cached of their answers.
abbrev pub StoreStopsCommit : (List (List ℕ) → List File → Outcome → Type 0) → Moment → Moment → Repository → List ℕ
    → Bool → List (List ℕ) → List Part → Type 0 → Type 0
StoreStopsCommit tells from to before message no_verify skip parts behind =
    (behind × AreAnswered tells reuse.All from to parts) ⊎ HasBegunBefore before message no_verify skip parts

-- The parts that the reply leaves out, between two moments. If memory is refused, nothing was run, or the
-- stages begin with them. If the children are spent, they are those before the one that is needed. If the
-- store refuses, the stages begin with them; if it refuses after the hooks, they are all parts that were run.
-- Contents that collide do so with those that are kept by then. If the hooks after a commit were stopped,
-- these hooks begin with them. Otherwise there are none.
abbrev pub AreLeftOut : (List (List ℕ) → List File → Outcome → Type 0) → Moment → Moment → Repository → List ℕ → Bool
    → List (List ℕ) → List Part → List (List ℕ) → Reply → Type 0
AreLeftOut tells from to before message no_verify skip parts contents (Refused OutOfMemory) =
    IsUnrun from to parts ⊎ HasBegunBefore before message no_verify skip parts
AreLeftOut tells from to before message no_verify skip parts contents (Refused Spent) =
    HasFurtherBefore before message no_verify skip to.remembered parts
AreLeftOut tells from to before message no_verify skip parts contents (Refused (Store fault)) =
    StoreStopsCommit tells from to before message no_verify skip parts
    (HasFailedBut before message no_verify skip parts (IsUnset fault)
    ⊎ IsVerifiedBut before message no_verify skip parts (IsUnkept before fault))
AreLeftOut tells from to before message no_verify skip parts contents (Refused Collision) =
    StoreStopsCommit tells from to before message no_verify skip parts
    (HasFailedBut before message no_verify skip parts (λ fixes. FixCollides fixes contents))
AreLeftOut tells from to before message no_verify skip parts contents (Committed number reports (Stopped run.Spent)) =
    HasFurtherBehind before skip to.remembered parts
AreLeftOut tells from to before message no_verify skip parts contents (Committed number reports (Stopped refusal)) =
    HasBegunBehind before skip parts
AreLeftOut tells from to before message no_verify skip parts contents reply = IsUnrun from to parts

-- the reply says that no more children can be counted
abbrev pub SaysSpent : Reply → Type 0
SaysSpent (Refused Spent) = Unit {0}
SaysSpent (Committed number reports (Stopped run.Spent)) = Unit {0}
SaysSpent reply = ⊥

-- The reply rests on all that its hooks were answered. None of them was stopped. Neither memory, nor the
-- store, nor other contents under the same digest refused what they had done or what was cached of them.
abbrev pub StandsOnAll : Reply → Type 0
StandsOnAll (Refused OutOfMemory) = ⊥
StandsOnAll (Refused (Store fault)) = ⊥
StandsOnAll (Refused Collision) = ⊥
StandsOnAll (Refused Spent) = ⊥
StandsOnAll (Committed number reports (Stopped refusal)) = ⊥
StandsOnAll reply = Unit {0}

-- The commit is a step of the machine between two moments. Its parts were answered, and after them, from the
-- moment `between`, some that the reply leaves out. The reply says that the children are spent only if they
-- have reported as many outcomes as can be counted, 2^64 - 1. Then what they reported is put, as `Starts`
-- says. If the children may report each result that was cached before, they may report each outcome. Each
-- result that is cached afterwards was cached before, or may be reported.
pub record IsCommitStep (tells : List (List ℕ) → List File → Outcome → Type 0) (from to : Moment)
    (before : Repository) (message : List ℕ) (no_verify : Bool) (skip : List (List ℕ)) (reply : Reply)
    (after : Kept) : Type 0 where
  pub parts : List Part
  pub left_out : List Part
  pub between : Moment
  pub step : Step before (Commit message no_verify skip) reply parts after.repo
  pub answered : AreAnswered tells reuse.All from between parts
  pub answered_then : AreAnsweredSoFar tells reuse.All between to left_out
  pub why : AreLeftOut tells between to before message no_verify skip left_out after.contents reply
  pub told : IsTold tells from.remembered → AllTold tells (parts ++ left_out)
  pub adds : AddsTold tells from.remembered to.remembered
  pub put : SaysSpent reply → answered_then.last ≡ []
  pub spent : SaysSpent reply → to.calls ≡ 2 ^ 64 - 1
