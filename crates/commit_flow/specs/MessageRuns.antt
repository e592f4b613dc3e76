-- The hooks of a stage about a message, without a commit: what they answer, and why they are refused. They get
-- the staged files, and the message in its file as in a commit, and change nothing of the repository.
use Rattle.std.specs.Prelude.{◌≡◌, ℕ, Bool, List, []}
use Rattle.hook_base.specs.declared.file.File.{File}
use Rattle.hook_config.specs.declared.configuration.Config.{Config}
use Rattle.hook_config.specs.declared.stage.Stage.{Stage}
use Rattle.hook_config.specs.declared.stage.Stage.TheVariants as stage
use Rattle.hook_run.specs.declared.reuse.Reuse.{Reuse}
use Rattle.hook_run.specs.declared.run_ask.RunAsk.{RunAsk}
use Rattle.hook_run.specs.Parts.{Part, all_parts}
use Rattle.hook_run.specs.RunOuts.{IsRunOut}
use Rattle.store_faults.specs.Limits.{IsSmall}
use Rattle.repo_store.specs.Repository.{Repository}
use Rattle.commit_flow.specs.declared.commit_state.CommitState.{CommitState}
use Rattle.commit_flow.specs.declared.host_refusal.HostRefusal.{HostRefusal}
use Rattle.commit_flow.specs.declared.host_refusal.HostRefusal.TheVariants.{OutOfMemory, TooLarge, NoConfig, BadConfig}
use Rattle.commit_flow.specs.declared.message_ask.MessageAsk.{MessageAsk}
use Rattle.commit_flow.specs.declared.message_stage.MessageStage.{MessageStage}
use Rattle.commit_flow.specs.declared.message_stage.MessageStage.TheVariants.{PrepareCommitMsg, CommitMsg}
use Rattle.commit_flow.specs.CommitStages.{StageTold, ask_with, message_in, tree_in}
use Rattle.commit_flow.specs.Configured.{HasReadableConfig, IsConfiguredFor, IsMisconfigured, LacksConfig}
use Rattle.commit_flow.specs.RunRefusals.{IsStop}
use Rattle.commit_flow.specs.Runs.{reuse_with}

abbrev pub stage_of_message : MessageStage → Stage
stage_of_message PrepareCommitMsg = stage.PrepareCommitMsg
stage_of_message CommitMsg = stage.CommitMsg

-- The hooks begin with the staged files and with these very bytes as the message. A commit ends its own with a
-- line feed first.
abbrev pub course_of_message : Repository → List ℕ → CommitState
course_of_message repo message = record { tree = repo.staged; message = message }

-- the files with which they begin: the staged ones, and that of the message
abbrev pub tree_about : Repository → MessageStage → List ℕ → List File
tree_about repo stage message = tree_in (stage_of_message stage) (course_of_message repo message)

-- which cached results they may use, as in a run
abbrev pub reuse_about : MessageAsk → Reuse
reuse_about ask = reuse_with ask.fresh ask.options

abbrev pub ask_about : MessageAsk → RunAsk
ask_about ask = ask_with (reuse_about ask) [] ask.skip (stage_of_message ask.stage)

-- The hooks of the stage were run on the staged files and the message, which is the only file that they may
-- get. This is the answer, with the message that they leave. The repository stays.
pub record IsMessageRan (before : Repository) (ask : MessageAsk) (message : List ℕ) (passed : Bool)
    (report left : List ℕ) (parts : List Part) (after : Repository) : Type 0 where
  pub config : Config
  pub told : StageTold
  pub small : IsSmall message
  pub configured : IsConfiguredFor ask.options before config
  pub run : IsRunOut config (ask_about ask) (tree_about before ask.stage message) told.trace told.out
  pub verdict : passed ≡ told.out.passed
  pub reported : report ≡ told.out.report
  pub message_left : left ≡ message_in told.out.tree
  pub traced : parts ≡ all_parts told.trace
  pub same : after ≡ before

-- Why hooks about a message are refused, in this order. Before hooks: the message is too large, no
-- configuration is staged, it can't be read. Then comes what stops hooks. Lack of memory comes only if the
-- message isn't too large.
abbrev pub IsMessageRefusal : Repository → List ℕ → HostRefusal → Type 0
IsMessageRefusal before message TooLarge = ¬ IsSmall message
IsMessageRefusal before message NoConfig = IsSmall message × LacksConfig before
IsMessageRefusal before message (BadConfig fault) = IsSmall message × IsMisconfigured before fault
IsMessageRefusal before message OutOfMemory = IsSmall message
IsMessageRefusal before message refusal = IsSmall message × HasReadableConfig before × IsStop refusal
