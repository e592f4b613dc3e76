-- What is prepared before the hooks of a run start, how that is refused, and how the prepared hooks run. Used
-- only by private functions.
use Rattle.std.specs.Prelude.{◌≡◌, ◌≢◌, ◌⊎◌, ℕ, true, false, List}
use Rattle.hook_base.specs.declared.file.File.{File}
use Rattle.hook_base.specs.Trees.{IsRising, changes_between}
use Rattle.child_port.specs.declared.answer.Outcome.{Outcome}
use Rattle.hook_config.specs.declared.configuration.Config.{Config}
use Rattle.result_book.specs.declared.book_fault.BookFault.{BookFault}
use Rattle.result_book.specs.Contents.{Contents}
use Rattle.result_book.specs.Told.{AddsTold}
use Rattle.hook_run.specs.Moments.{Moment}
use Rattle.hook_run.specs.declared.hooks_run.HooksRun.{HooksRun}
use Rattle.hook_run.specs.declared.run_ask.RunAsk.{RunAsk}
use Rattle.hook_run.specs.declared.run_out.RunOut.{RunOut}
use Rattle.hook_run.specs.declared.run_refusal.RunRefusal.{RunRefusal}
use Rattle.hook_run.specs.declared.run_refusal.RunRefusal.TheVariants as run
use Rattle.hook_run.specs.Answers.{AreReused}
use Rattle.hook_run.specs.Asks.{names_no_hook}
use Rattle.hook_run.specs.Parts.{all_parts}
use Rattle.hook_run.specs.Refusals.{IsOfBook}
use Rattle.hook_run.specs.RunOuts.{IsRunOver, IsStoppedRun}
use Rattle.repo_store.specs.Repository.{Repository}
use Rattle.commit_flow.specs.declared.host_ask.HostAsk.{HostAsk}
use Rattle.commit_flow.specs.declared.host_refusal.HostRefusal.{HostRefusal}
use Rattle.commit_flow.specs.declared.host_refusal.HostRefusal.TheVariants.{OutOfMemory, NoConfig, BadConfig}
use Rattle.commit_flow.specs.declared.prepared.Prepared.{Prepared}
use Rattle.commit_flow.specs.declared.staged_run.StagedRun.{StagedRun}
use Rattle.commit_flow.specs.Configured.{HasReadableConfig, IsConfiguredFor, IsMisconfigured, LacksConfig}
use Rattle.commit_flow.specs.Refusals.{of_run}
use Rattle.commit_flow.specs.Runs.{AreStagedPaths, IsNameRefusal, IsNamesRefusal, names_in, reuse_of, run_ask_of, stage_of_ask}

-- ---- what is prepared

-- why there is no staged configuration: none is staged, it can't be read, or memory is refused
abbrev pub IsConfigRefusal : Repository → HostRefusal → Type 0
IsConfigRefusal repo NoConfig = LacksConfig repo
IsConfigRefusal repo (BadConfig fault) = IsMisconfigured repo fault
IsConfigRefusal repo OutOfMemory = Unit {0}
IsConfigRefusal repo refusal = ⊥

-- why a name isn't taken as the path of a staged file: memory may be refused too
abbrev pub IsNameFault : Repository → List ℕ → HostRefusal → Type 0
IsNameFault repo name refusal = (refusal ≡ OutOfMemory) ⊎ IsNameRefusal repo name refusal

-- why names aren't taken as paths of staged files
abbrev pub IsNamesFault : Repository → List (List ℕ) → HostRefusal → Type 0
IsNamesFault repo names refusal = (refusal ≡ OutOfMemory) ⊎ IsNamesRefusal repo names refusal

-- what is asked of the hooks if they may get these files
abbrev pub run_ask_with : HostAsk → List (List ℕ) → RunAsk
run_ask_with ask candidates = record {
  stage = stage_of_ask ask.stage;
  candidates = candidates;
  only = ask.only;
  skip = ask.skip;
  reuse = reuse_of ask;
}

pub record IsPrepared (repo : Repository) (ask : HostAsk) (ready : Prepared) : Type 0 where
  pub configured : IsConfiguredFor ask.options repo ready.config
  pub named : AreStagedPaths repo (names_in ask.which)
  pub asked : ready.ask ≡ run_ask_of ask repo
  pub tree : ready.tree ≡ repo.staged
  pub rising : IsRising repo.staged

-- why a run isn't prepared: its configuration isn't, or it can be read and the names that are asked for
-- aren't taken
abbrev pub IsUnprepared : Repository → HostAsk → HostRefusal → Type 0
IsUnprepared repo ask refusal =
    IsConfigRefusal repo refusal ⊎ (HasReadableConfig repo × IsNamesFault repo (names_in ask.which) refusal)

-- ---- a run of hooks, between two moments

-- what a stop leaves cached afterwards it could leave before, or each result of it was cached before or was
-- reported
abbrev pub LeavesTold : (List (List ℕ) → List File → Outcome → Type 0) → Contents → (Contents → Type 0)
    → (Contents → Type 0) → Type 0
LeavesTold tells before could can = (left : Contents) → can left → could left ⊎ AddsTold tells before left

-- hooks of the stage have the name that is asked for, and were run
pub record HaveRun (tells : List (List ℕ) → List File → Outcome → Type 0) (from to : Moment) (config : Config)
    (ask : RunAsk) (tree : List File) (out : RunOut) : Type 0 where
  pub known : names_no_hook config ask ≡ false
  pub over : IsRunOver tells from to config ask tree out

-- the same, with how many of their parts used a cached result
pub record HaveRunCounted (tells : List (List ℕ) → List File → Outcome → Type 0) (from to : Moment) (config : Config)
    (ask : RunAsk) (tree : List File) (ran : HooksRun) : Type 0 where
  pub run : HaveRun tells from to config ask tree ran.out
  pub counted : AreReused (all_parts run.over.trace) run.over.answered.started ran.reused

-- their run was refused; the book may refuse with these faults
pub record HaveStopped (refuses : BookFault → Type 0) (tells : List (List ℕ) → List File → Outcome → Type 0)
    (from to : Moment) (config : Config) (ask : RunAsk) (tree : List File) (refusal : RunRefusal) : Type 0 where
  pub unknown : refusal ≡ run.NoSuchHook → names_no_hook config ask ≡ true
  pub known : refusal ≢ run.NoSuchHook → names_no_hook config ask ≡ false
  pub of_book : IsOfBook refuses refusal
  pub over : IsStoppedRun tells from to config ask tree refusal

-- what a run on the staged files gives
abbrev pub staged_run_of : List File → HooksRun → StagedRun
staged_run_of staged ran = record {
  passed = ran.out.passed;
  report = ran.out.report;
  changes = changes_between staged ran.out.tree;
  unsteady = ran.out.unsteady;
  reused = ran.reused;
}

-- the prepared hooks were run, and this is the result
pub record HasRunReady (tells : List (List ℕ) → List File → Outcome → Type 0) (from to : Moment) (ready : Prepared)
    (ran : StagedRun) : Type 0 where
  pub hooks : HooksRun
  pub run : HaveRun tells from to ready.config ready.ask ready.tree hooks.out
  pub counted : AreReused (all_parts run.over.trace) run.over.answered.started hooks.reused
  pub gives : ran ≡ staged_run_of ready.tree hooks

-- a run on the staged files was prepared, its hooks were run, and this is the result
pub record HasRunOnStaged (tells : List (List ℕ) → List File → Outcome → Type 0) (from to : Moment) (repo : Repository)
    (ask : HostAsk) (ran : StagedRun) : Type 0 where
  pub prepared : Prepared
  pub ready : IsPrepared repo ask prepared
  pub run : HasRunReady tells from to prepared ran

-- the run of the prepared hooks was refused with this refusal
pub record HasStoppedReady (refuses : BookFault → Type 0) (tells : List (List ℕ) → List File → Outcome → Type 0)
    (from to : Moment) (ready : Prepared) (refusal : HostRefusal) : Type 0 where
  pub inner : RunRefusal
  pub stopped : HaveStopped refuses tells from to ready.config ready.ask ready.tree inner
  pub is : refusal ≡ of_run inner
