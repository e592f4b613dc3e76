-- What the calls within a commit do. Used only by private functions.
use Rattle.std.specs.Prelude.{◌≡◌, ◌≢◌, ◌⊎◌, ◌-◌, ◌^◌, ◌≤◌, ℕ, Bool, List, [], length, Result, OnOk}
use Rattle.sqlite_trees.specs.declared.store.Store.{Ghosts}
use Rattle.sqlite.specs.Held.{state}
use Rattle.sqlite.specs.State.{Survives}
use Rattle.hook_base.specs.declared.change.Change.{Change}
use Rattle.hook_base.specs.declared.file.File.{File}
use Rattle.child_port.specs.declared.answer.Outcome.{Outcome}
use Rattle.hook_config.specs.declared.configuration.Config.{Config}
use Rattle.hook_config.specs.declared.stage.Stage.{Stage}
use Rattle.hook_config.specs.declared.stage.Stage.TheVariants as stage
use Rattle.result_book.specs.declared.book_fault.BookFault.{BookFault}
use Rattle.repo_store.specs.StoreBooks.{RefusesAnswers}
use Rattle.hook_run.specs.declared.reuse.Reuse.{Reuse}
use Rattle.hook_run.specs.declared.reuse.Reuse.TheVariants as reuse
use Rattle.hook_run.specs.declared.run_ask.RunAsk.{RunAsk}
use Rattle.hook_run.specs.declared.run_refusal.RunRefusal.{RunRefusal}
use Rattle.hook_run.specs.declared.run_refusal.RunRefusal.TheVariants as run
use Rattle.hook_run.specs.Answers.{AreAnswered, AreAnsweredSoFar}
use Rattle.hook_run.specs.Moments.{Moment}
use Rattle.hook_run.specs.Parts.{Part, all_parts}
use Rattle.hook_run.specs.Refusals.{IsOfBook}
use Rattle.hook_run.specs.RunOuts.{IsBegun, IsRunOut, NeedsChild}
use Rattle.repo_store.specs.Kept.{FixCollides, Kept}
use Rattle.store_faults.specs.Limits.{IsSmall, most_commits}
use Rattle.repo_store.specs.Repository.{Repository}
use Rattle.repo_store.specs.Shown.{Leaves, LeavesOnly, Shown, Stands}
use Rattle.commit_flow.specs.declared.commit.Through.{Through}
use Rattle.commit_flow.specs.declared.commit_begun.CommitBegun.{CommitBegun}
use Rattle.commit_flow.specs.declared.commit_state.CommitState.{CommitState}
use Rattle.commit_flow.specs.declared.commit_stages.StageEnd.{StageEnd}
use Rattle.commit_flow.specs.declared.commit_stages.StagesEnd.{StagesEnd}
use Rattle.commit_flow.specs.declared.commit_stages.StagesEnd.TheVariants.{Passed, Failed}
use Rattle.commit_flow.specs.declared.host_refusal.HostRefusal.{HostRefusal}
use Rattle.commit_flow.specs.declared.host_refusal.HostRefusal.TheVariants.{OutOfMemory, Store, Spent, TooLarge, TooMany, NothingStaged, NoConfig, BadConfig, EmptyMessage, Collision}
use Rattle.commit_flow.specs.declared.reply.PostCommit.{PostCommit}
use Rattle.commit_flow.specs.declared.reply.PostCommit.TheVariants.{Told, Stopped}
use Rattle.commit_flow.specs.CommitStages.{FailedAt, HaveBegun, HaveFurther, HavePassed, IsStageTold, StageTold, ask_in, ask_with, course_after, course_of, parts_of_stages, reports_of, stages_before_commit, tree_in}
use Rattle.commit_flow.specs.Commits.{HasNothingNew, IsCommittable}
use Rattle.commit_flow.specs.Configured.{IsConfigured, IsMisconfigured, LacksConfig}
use Rattle.commit_flow.specs.Refusals.{of_run}
use Rattle.commit_flow.specs.RunRefusals.{IsOfFixes}
use Rattle.commit_flow.specs.RunSteps.{IsUnset}
use Rattle.commit_flow.specs.Runs.{changed_paths}
use Rattle.commit_flow.specs.CommitSteps.{IsUnkept}

-- ---- one run

-- the hooks of a stage were stopped; the book may refuse with these faults
pub record IsRunStopped (refuses : BookFault → Type 0) (tells : List (List ℕ) → List File → Outcome → Type 0)
    (from to : Moment) (config : Config) (ask : RunAsk) (tree : List File) (refusal : RunRefusal) : Type 0 where
  pub parts : List Part
  pub answered : AreAnsweredSoFar tells ask.reuse from to parts
  pub begun : IsBegun config ask tree parts
  pub not_named : refusal ≢ run.NoSuchHook
  pub of_book : IsOfBook refuses refusal
  pub needs : refusal ≡ run.Spent → NeedsChild to.remembered config ask tree parts
  pub put : refusal ≡ run.Spent → answered.last ≡ []
  pub spent : refusal ≡ run.Spent → to.calls ≡ 2 ^ 64 - 1

-- ---- the stages

-- what stops the hooks of a stage; the book may refuse with these faults
pub record IsHalt (refuses : BookFault → Type 0) (refusal : HostRefusal) : Type 0 where
  pub inner : RunRefusal
  pub not_named : inner ≢ run.NoSuchHook
  pub of_book : IsOfBook refuses inner
  pub is : refusal ≡ of_run inner

-- The hooks, which may use these cached results, were stopped. They begin with the parts that were answered by
-- then. If the children are spent, there is a further part.
pub record IsHalted (refuses : BookFault → Type 0) (tells : List (List ℕ) → List File → Outcome → Type 0)
    (reused : Reuse) (from to : Moment) (begins further : List Part → Type 0) (refusal : HostRefusal) : Type 0 where
  pub parts : List Part
  pub answered : AreAnsweredSoFar tells reused from to parts
  pub begun : begins parts
  pub why : IsHalt refuses refusal
  pub needs : refusal ≡ Spent → further parts
  pub put : refusal ≡ Spent → answered.last ≡ []
  pub spent : refusal ≡ Spent → to.calls ≡ 2 ^ 64 - 1

-- the hooks of a stage, which may use these cached results, were run, and this is passed on
pub record IsStageOver (tells : List (List ℕ) → List File → Outcome → Type 0) (reused : Reuse) (from to : Moment)
    (config : Config) (changed skip : List (List ℕ)) (stage : Stage) (course : CommitState)
    (end : StageEnd) : Type 0 where
  pub told : StageTold
  pub run : IsRunOut config (ask_with reused changed skip stage) (tree_in stage course) told.trace told.out
  pub answered : AreAnswered tells reused from to (all_parts told.trace)
  pub passed : end.passed ≡ told.out.passed
  pub reported : end.report ≡ told.out.report
  pub left : end.course ≡ course_after stage course told.out.tree

-- stages were run in this way, with these reports
pub record AreStagesOver (tells : List (List ℕ) → List File → Outcome → Type 0) (from to : Moment)
    (reports : List (List ℕ)) (ran : List StageTold → Type 0) : Type 0 where
  pub told : List StageTold
  pub ran_so : ran told
  pub answered : AreAnswered tells reuse.All from to (parts_of_stages told)
  pub reported : reports ≡ reports_of told

-- the stages were run in order, up to the first that failed
abbrev pub AreRunOver : (List (List ℕ) → List File → Outcome → Type 0) → Moment → Moment → Config → List (List ℕ)
    → List (List ℕ) → List Stage → CommitState → StagesEnd → Type 0
AreRunOver tells from to config changed skip stages course (Passed reports left) =
    AreStagesOver tells from to reports (λ told. HavePassed config changed skip stages course told left)
AreRunOver tells from to config changed skip stages course (Failed stage reports left) =
    AreStagesOver tells from to reports (λ told. FailedAt config changed skip stages course told stage left)

-- ---- the beginning

-- this is what a commit of the message begins with
pub record IsCommitBegun (repo : Repository) (message : List ℕ) (begun : CommitBegun) : Type 0 where
  pub committable : IsCommittable repo message
  pub configured : IsConfigured repo begun.config
  pub listed : begun.changed ≡ changed_paths repo
  pub passed : begun.course ≡ course_of repo message

-- why a commit isn't begun
abbrev pub IsUnbegun : Repository → List ℕ → HostRefusal → Type 0
IsUnbegun repo message TooLarge = ¬ IsSmall message
IsUnbegun repo message NothingStaged = IsSmall message × HasNothingNew repo
IsUnbegun repo message NoConfig = IsCommittable repo message × LacksConfig repo
IsUnbegun repo message (BadConfig fault) = IsCommittable repo message × IsMisconfigured repo fault
IsUnbegun repo message OutOfMemory = IsCommittable repo message
IsUnbegun repo message refusal = ⊥

-- the stages before the commit were run on what it began with
pub record IsThrough (tells : List (List ℕ) → List File → Outcome → Type 0) (from to : Moment)
    (repo : Repository) (message : List ℕ) (no_verify : Bool) (skip : List (List ℕ)) (through : Through) : Type 0 where
  pub committable : IsCommittable repo message
  pub configured : IsConfigured repo through.config
  pub run : AreRunOver tells from to through.config (changed_paths repo) skip (stages_before_commit no_verify)
      (course_of repo message) through.end

-- the hooks of a commit had begun, and were stopped
pub record IsStoppedIn (tells : List (List ℕ) → List File → Outcome → Type 0) (from to : Moment) (repo : Repository)
    (message : List ℕ) (no_verify : Bool) (skip : List (List ℕ)) (refusal : HostRefusal) : Type 0 where
  pub committable : IsCommittable repo message
  pub config : Config
  pub configured : IsConfigured repo config
  pub halted : IsHalted RefusesAnswers tells reuse.All from to
      (HaveBegun config (changed_paths repo) skip (stages_before_commit no_verify) (course_of repo message))
      (HaveFurther to.remembered config (changed_paths repo) skip (stages_before_commit no_verify)
      (course_of repo message)) refusal

-- nothing was looked up, no child was started, and the commit isn't begun
pub record IsNotBegun (from to : Moment) (repo : Repository) (message : List ℕ) (refusal : HostRefusal) : Type 0 where
  pub unmade : to ≡ from
  pub unbegun : IsUnbegun repo message refusal

-- why a commit doesn't get through the stages before it
abbrev pub IsUnthrough : (List (List ℕ) → List File → Outcome → Type 0) → Moment → Moment → Repository → List ℕ → Bool
    → List (List ℕ) → HostRefusal → Type 0
IsUnthrough tells from to repo message no_verify skip refusal =
    IsNotBegun from to repo message refusal ⊎ IsStoppedIn tells from to repo message no_verify skip refusal

-- ---- the commit

-- why the staged files aren't committed with the cleaned message
abbrev pub IsUncommitted : Repository → List ℕ → HostRefusal → Type 0
IsUncommitted repo cleaned EmptyMessage = cleaned ≡ []
IsUncommitted repo cleaned TooMany = (cleaned ≢ []) × IsSmall cleaned × (most_commits ≤ length repo.history)
IsUncommitted repo cleaned (Store fault) = IsOfFixes fault × IsUnkept repo fault cleaned
IsUncommitted repo cleaned OutOfMemory = Unit {0}
IsUncommitted repo cleaned refusal = ⊥

-- why these fixes aren't set if these contents are kept
abbrev pub IsUnfixed : List (List ℕ) → List Change → HostRefusal → Type 0
IsUnfixed contents fixes (Store fault) = IsOfFixes fault × IsUnset fault fixes
IsUnfixed contents fixes Collision = FixCollides fixes contents
IsUnfixed contents fixes OutOfMemory = Unit {0}
IsUnfixed contents fixes refusal = ⊥

-- a call asks the store for at most this one change
pub record IsOneChange {S A : Type 0} (g : Ghosts S) (old new : Shown S) (result : Result A HostRefusal)
    (after : Kept) : Type 0 where
  pub stands : Stands g old.conn old.kept → Stands g new.conn new.kept
  pub crash : Survives (state g old.conn) (state g new.conn) (Leaves after)
  pub durable : OnOk result (LeavesOnly g new.conn new.kept)

-- ---- after the commit (githooks(5), "post-commit")

-- the hooks after a commit were run on the staged files, and this is reported
pub record IsPostTold (tells : List (List ℕ) → List File → Outcome → Type 0) (from to : Moment) (config : Config)
    (staged : List File) (skip : List (List ℕ)) (report : List ℕ) : Type 0 where
  pub told : StageTold
  pub run : IsStageTold config [] skip stage.PostCommit (record { tree = staged; message = [] }) told
  pub answered : AreAnswered tells reuse.All from to (all_parts told.trace)
  pub reported : report ≡ told.out.report

-- what became of the hooks after a commit
abbrev pub IsPostOver : (List (List ℕ) → List File → Outcome → Type 0) → Moment → Moment → Config → List File
    → List (List ℕ) → PostCommit → Type 0
IsPostOver tells from to config staged skip (Told report) = IsPostTold tells from to config staged skip report
IsPostOver tells from to config staged skip (Stopped refusal) =
    IsRunStopped RefusesAnswers tells from to config (ask_in [] skip stage.PostCommit) staged refusal
