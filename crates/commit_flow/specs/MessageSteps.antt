-- Hooks about a message as a step of the machine, together with what the children reported, and how far they
-- came if they are refused.
use Rattle.std.specs.Prelude.{◌≡◌, ◌⊎◌, ◌-◌, ◌^◌, ℕ, List, [], ◌++◌}
use Rattle.hook_base.specs.declared.file.File.{File}
use Rattle.child_port.specs.declared.answer.Outcome.{Outcome}
use Rattle.hook_config.specs.declared.configuration.Config.{Config}
use Rattle.result_book.specs.Contents.{Contents}
use Rattle.result_book.specs.Told.{AddsTold, IsTold}
use Rattle.hook_run.specs.Answers.{AreAnswered, AreAnsweredSoFar}
use Rattle.hook_run.specs.Moments.{Moment}
use Rattle.hook_run.specs.Parts.{AllTold, Part}
use Rattle.hook_run.specs.RunOuts.{IsBegun, NeedsChild}
use Rattle.repo_store.specs.Repository.{Repository}
use Rattle.commit_flow.specs.declared.command.Command.TheVariants.{Message}
use Rattle.commit_flow.specs.declared.host_refusal.HostRefusal.TheVariants.{OutOfMemory, Store, Collision, Spent}
use Rattle.commit_flow.specs.declared.message_ask.MessageAsk.{MessageAsk}
use Rattle.commit_flow.specs.declared.reply.Reply.{Reply}
use Rattle.commit_flow.specs.declared.reply.Reply.TheVariants.{MessageRan, Refused}
use Rattle.commit_flow.specs.CommitSteps.{SaysSpent}
use Rattle.commit_flow.specs.Configured.{IsConfiguredFor}
use Rattle.commit_flow.specs.MessageRuns.{ask_about, reuse_about, tree_about}
use Rattle.commit_flow.specs.RunSteps.{IsUnrun}
use Rattle.commit_flow.specs.Steps.{Step}

-- the hooks of the stage begin with these parts
pub record HasMessageBegun (before : Repository) (ask : MessageAsk) (message : List ℕ)
    (parts : List Part) : Type 0 where
  pub config : Config
  pub configured : IsConfiguredFor ask.options before config
  pub begun : IsBegun config (ask_about ask) (tree_about before ask.stage message) parts

-- they have a further part after these, and it needs a child
pub record HasMessageFurther (before : Repository) (ask : MessageAsk) (message : List ℕ)
    (remembered : Contents) (parts : List Part) : Type 0 where
  pub config : Config
  pub configured : IsConfiguredFor ask.options before config
  pub needs : NeedsChild remembered config (ask_about ask) (tree_about before ask.stage message) parts

-- The parts that the reply leaves out, between two moments. If memory is refused, nothing was run, or the hooks
-- begin with them. If the children are spent, they are those before the one that is needed. If the store
-- refuses, the hooks begin with them. Otherwise there are none.
abbrev pub AreLeftOutOfMessage : Moment → Moment → Repository → MessageAsk → List ℕ → List Part
    → Reply → Type 0
AreLeftOutOfMessage from to before ask message parts (Refused OutOfMemory) =
    IsUnrun from to parts ⊎ HasMessageBegun before ask message parts
AreLeftOutOfMessage from to before ask message parts (Refused Spent) =
    HasMessageFurther before ask message to.remembered parts
AreLeftOutOfMessage from to before ask message parts (Refused (Store fault)) =
    HasMessageBegun before ask message parts
AreLeftOutOfMessage from to before ask message parts (Refused Collision) =
    HasMessageBegun before ask message parts
AreLeftOutOfMessage from to before ask message parts (Refused refusal) = IsUnrun from to parts
AreLeftOutOfMessage from to before ask message parts (MessageRan passed report left) = IsUnrun from to parts
AreLeftOutOfMessage from to before ask message parts reply = ⊥

-- The hooks about a message are a step of the machine between two moments. Its parts were answered, and after
-- them, from the moment `between`, some that the reply leaves out. The reply says that the children are spent
-- only if they have reported as many outcomes as can be counted, 2^64 - 1. Then what they reported is put, as
-- `Starts` says. If the children may report each result that was cached before, they may report each outcome.
-- Each result that is cached afterwards was cached before, or may be reported.
pub record IsMessageStep (tells : List (List ℕ) → List File → Outcome → Type 0) (from to : Moment)
    (before : Repository) (ask : MessageAsk) (message : List ℕ) (reply : Reply)
    (after : Repository) : Type 0 where
  pub parts : List Part
  pub left_out : List Part
  pub between : Moment
  pub step : Step before (Message ask message) reply parts after
  pub answered : AreAnswered tells (reuse_about ask) from between parts
  pub answered_then : AreAnsweredSoFar tells (reuse_about ask) between to left_out
  pub why : AreLeftOutOfMessage between to before ask message left_out reply
  pub told : IsTold tells from.remembered → AllTold tells (parts ++ left_out)
  pub adds : AddsTold tells from.remembered to.remembered
  pub put : SaysSpent reply → answered_then.last ≡ []
  pub spent : SaysSpent reply → to.calls ≡ 2 ^ 64 - 1
