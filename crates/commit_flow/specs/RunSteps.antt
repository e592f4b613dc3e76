-- A run on the staged files over children: which step it is, together with what the children reported.
use Rattle.std.specs.Prelude.{◌≡◌, ◌⊎◌, ◌-◌, ◌^◌, ℕ, List, []}
use Rattle.hook_base.specs.declared.change.Change.{Change}
use Rattle.hook_base.specs.declared.file.File.{File}
use Rattle.hook_base.specs.Trees.{changes_between}
use Rattle.child_port.specs.declared.answer.Outcome.{Outcome}
use Rattle.hook_config.specs.declared.configuration.Config.{Config}
use Rattle.result_book.specs.Contents.{Contents}
use Rattle.result_book.specs.Told.{AddsTold, IsTold}
use Rattle.hook_run.specs.declared.run_out.RunOut.{RunOut}
use Rattle.hook_run.specs.Answers.{AreAnswered, AreAnsweredSoFar, AreReused}
use Rattle.hook_run.specs.Moments.{Moment}
use Rattle.hook_run.specs.Parts.{AllTold, Part, all_parts}
use Rattle.hook_run.specs.RunOuts.{IsBegun, IsRunOut, NeedsChild}
use Rattle.store_faults.specs.declared.fault.StoreFault.{StoreFault}
use Rattle.store_faults.specs.declared.fault.StoreFault.TheVariants.{TooLarge}
use Rattle.repo_store.specs.Kept.{FixCollides, HasLarge, Kept}
use Rattle.repo_store.specs.Repository.{Repository}
use Rattle.commit_flow.specs.declared.command.Command.TheVariants.{Run}
use Rattle.commit_flow.specs.declared.host_ask.HostAsk.{HostAsk}
use Rattle.commit_flow.specs.declared.host_refusal.HostRefusal.{HostRefusal}
use Rattle.commit_flow.specs.declared.host_refusal.HostRefusal.TheVariants.{OutOfMemory, Store, Collision, Spent}
use Rattle.commit_flow.specs.declared.reply.Reply.{Reply}
use Rattle.commit_flow.specs.declared.reply.Reply.TheVariants.{Ran, Refused}
use Rattle.commit_flow.specs.declared.staged_run.StagedRun.{StagedRun}
use Rattle.commit_flow.specs.Runs.{IsRunnable, reuse_of, run_ask_of}
use Rattle.commit_flow.specs.Steps.{Step}

-- the reply for what a run gave
abbrev pub reply_of_run : StagedRun → Reply
reply_of_run ran = Ran ran.passed ran.report ran.changes ran.unsteady

-- The run is a step of the machine, with parts that were answered between two moments. If the children may
-- report each result that was cached before, they may report each outcome. Each result that is cached
-- afterwards was cached before, or may be reported. As many parts as the run says used a cached result.
pub record IsRunStep (tells : List (List ℕ) → List File → Outcome → Type 0) (from to : Moment) (before : Repository)
    (ask : HostAsk) (ran : StagedRun) (after : Repository) : Type 0 where
  pub parts : List Part
  pub step : Step before (Run ask) (reply_of_run ran) parts after
  pub answered : AreAnswered tells (reuse_of ask) from to parts
  pub told : IsTold tells from.remembered → AllTold tells parts
  pub adds : AddsTold tells from.remembered to.remembered
  pub reused : AreReused parts answered.started ran.reused

-- ---- a run that is refused

-- a run that is possible begins with these parts
pub record HasRunBegun (before : Repository) (ask : HostAsk) (parts : List Part) : Type 0 where
  pub config : Config
  pub runnable : IsRunnable before ask config
  pub begun : IsBegun config (run_ask_of ask before) before.staged parts

-- the run has a further part after these, and it needs a child
pub record HasFurther (before : Repository) (ask : HostAsk) (remembered : Contents) (parts : List Part) : Type 0 where
  pub config : Config
  pub runnable : IsRunnable before ask config
  pub needs : NeedsChild remembered config (run_ask_of ask before) before.staged parts

-- the run has these parts, and what they did to the staged files can't be the fixes for this reason
pub record HasRunBut (before : Repository) (ask : HostAsk) (parts : List Part)
    (reason : List Change → Type 0) : Type 0 where
  pub config : Config
  pub trace : List (List Part)
  pub out : RunOut
  pub runnable : IsRunnable before ask config
  pub run : IsRunOut config (run_ask_of ask before) before.staged trace out
  pub traced : parts ≡ all_parts trace
  pub why : reason (changes_between before.staged out.tree)

-- the store refuses these fixes with this fault: one is too large, or the database refuses
abbrev pub IsUnset : StoreFault → List Change → Type 0
IsUnset TooLarge fixes = HasLarge fixes
IsUnset fault fixes = Unit {0}

-- nothing was run, and nothing looked up
abbrev pub IsUnrun : Moment → Moment → List Part → Type 0
IsUnrun from to parts = (parts ≡ []) × (to ≡ from)

-- The store stopped hooks with these parts between two moments. Either all of them were answered, and what
-- they did to the staged files can't be the fixes for this reason. Or it stopped them in the middle, by what
-- is cached of their answers.
abbrev pub StoreStopsRun : (List (List ℕ) → List File → Outcome → Type 0) → Moment → Moment → Repository → HostAsk
    → List Part → (List Change → Type 0) → Type 0
StoreStopsRun tells from to before ask parts reason =
    (HasRunBut before ask parts reason × AreAnswered tells (reuse_of ask) from to parts) ⊎ HasRunBegun before ask parts

-- How far a run came that is refused in this way, with these parts, between two moments. It is spent if a
-- further part needs a child and no more calls can be counted. The store and lack of memory may stop it
-- anywhere. The other refusals come before any part. Contents that collide do so with those that are kept by
-- then.
abbrev pub IsStoppedAt : (List (List ℕ) → List File → Outcome → Type 0) → Moment → Moment → Repository → HostAsk
    → List Part → List (List ℕ) → HostRefusal → Type 0
IsStoppedAt tells from to before ask parts contents Spent =
    HasFurther before ask to.remembered parts × (to.calls ≡ 2 ^ 64 - 1)
IsStoppedAt tells from to before ask parts contents Collision =
    StoreStopsRun tells from to before ask parts (λ fixes. FixCollides fixes contents)
IsStoppedAt tells from to before ask parts contents (Store fault) =
    StoreStopsRun tells from to before ask parts (IsUnset fault)
IsStoppedAt tells from to before ask parts contents OutOfMemory = IsUnrun from to parts ⊎ HasRunBegun before ask parts
IsStoppedAt tells from to before ask parts contents refusal = IsUnrun from to parts

-- The refused run is a step of the machine that leaves the repository as it was. Its parts so far were
-- answered. If the children are spent, what they reported is put, as `Starts` says.
pub record IsStoppedStep (tells : List (List ℕ) → List File → Outcome → Type 0) (from to : Moment) (before : Repository)
    (ask : HostAsk) (after : Kept) (refusal : HostRefusal) : Type 0 where
  pub parts : List Part
  pub step : Step before (Run ask) (Refused refusal) [] after.repo
  pub answered : AreAnsweredSoFar tells (reuse_of ask) from to parts
  pub told : IsTold tells from.remembered → AllTold tells parts
  pub adds : AddsTold tells from.remembered to.remembered
  pub stopped : IsStoppedAt tells from to before ask parts after.contents refusal
  pub put : refusal ≡ Spent → answered.last ≡ []
