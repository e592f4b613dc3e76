-- What laws say: a commit by the hooks about its message, run without it, and by what is made of the message that
-- they leave.
use Rattle.std.specs.Prelude.{◌≡◌, ◌+◌, ℕ, true, false, List, [], ◌∷◌, ◌++◌, None, length}
use Rattle.hook_base.specs.Paths.{message_path}
use Rattle.hook_base.specs.Trees.{IsRising, entry_of}
use Rattle.hook_config.specs.declared.configuration.Config.{Config}
use Rattle.hook_config.specs.declared.stage.Stage.TheVariants.{PreCommit}
use Rattle.hook_run.specs.Asks.{hooks_of_run}
use Rattle.hook_run.specs.Parts.{Part}
use Rattle.store_faults.specs.Limits.{IsSmall}
use Rattle.repo_store.specs.Repository.{Repository, with_new_commit}
use Rattle.commit_flow.specs.declared.command.Command.TheVariants.{Message}
use Rattle.commit_flow.specs.declared.message_ask.MessageAsk.{MessageAsk}
use Rattle.commit_flow.specs.declared.message_stage.MessageStage.{MessageStage}
use Rattle.commit_flow.specs.declared.message_stage.MessageStage.TheVariants.{PrepareCommitMsg, CommitMsg}
use Rattle.commit_flow.specs.declared.reply.PostCommit.{PostCommit}
use Rattle.commit_flow.specs.declared.reply.Reply.TheVariants.{MessageRan}
use Rattle.commit_flow.specs.CommitStages.{ask_in}
use Rattle.commit_flow.specs.Commits.{HasNothingNew, IsPost, MayCommit}
use Rattle.commit_flow.specs.Configured.{IsConfigured}
use Rattle.commit_flow.specs.Messages.{begun_message, cleaned_message}
use Rattle.commit_flow.specs.Steps.{Step}

-- what is asked of the hooks about a message in a commit: they may use all cached results, and no option is set
abbrev pub plain_ask : MessageStage → List (List ℕ) → MessageAsk
plain_ask stage skip = record {
  stage = stage;
  skip = skip;
  fresh = false;
  options = record { cautious = false; verbose = false };
}

-- The staged files, which aren't those of the last commit, are committed with this message, cleaned. Then the
-- hooks after the commit were run, or stopped.
pub record IsMadeOf (before : Repository) (last : List ℕ) (skip : List (List ℕ)) (number : ℕ) (post : PostCommit)
    (parts : List Part) (after : Repository) : Type 0 where
  pub config : Config
  pub configured : IsConfigured before config
  pub new : ¬ HasNothingNew before
  pub may : MayCommit before (cleaned_message last)
  pub counted : number ≡ length before.history + 1
  pub behind : IsPost config before skip post parts
  pub made : after ≡ with_new_commit (cleaned_message last) before

-- The hooks that may prepare the message pass, run without a commit, on the message with which a commit begins.
-- One is made of the message that they leave.
pub record IsPreparedThenMade (before : Repository) (message : List ℕ) (skip : List (List ℕ)) (number : ℕ)
    (reports : List (List ℕ)) (post : PostCommit) (parts : List Part) (after : Repository) : Type 0 where
  pub report : List ℕ
  pub last : List ℕ
  pub own : List Part
  pub further : List Part
  pub prepared : Step before (Message (plain_ask PrepareCommitMsg skip) (begun_message message))
      (MessageRan true report last) own before
  pub made : IsMadeOf before last skip number post further after
  pub reported : reports ≡ report ∷ []
  pub joined : parts ≡ own ++ further

-- The hooks that may prepare the message fail, run without a commit, on the message with which a commit begins.
pub record IsNotPrepared (before : Repository) (message : List ℕ) (skip : List (List ℕ)) (reports : List (List ℕ))
    (parts : List Part) : Type 0 where
  pub report : List ℕ
  pub last : List ℕ
  pub prepared : Step before (Message (plain_ask PrepareCommitMsg skip) (begun_message message))
      (MessageRan false report last) parts before
  pub reported : reports ≡ report ∷ []

-- The staged configuration has no hook of `pre-commit`, and the staged files are a tree without the message's file.
pub record HasNoEarlierHook (before : Repository) : Type 0 where
  pub config : Config
  pub configured : IsConfigured before config
  pub none : hooks_of_run config (ask_in [] [] PreCommit) ≡ []
  pub rising : IsRising before.staged
  pub apart : entry_of message_path before.staged ≡ None

-- Both stages about the message pass, each run without a commit. The first gets the message with which a commit
-- begins. The second gets the message that the first leaves, unless that is too large. A commit is made of the
-- message that the second leaves.
pub record IsCheckedThenMade (before : Repository) (message : List ℕ) (skip : List (List ℕ)) (number : ℕ)
    (reports : List (List ℕ)) (post : PostCommit) (parts : List Part) (after : Repository) : Type 0 where
  pub report : List ℕ
  pub between : List ℕ
  pub checked_report : List ℕ
  pub last : List ℕ
  pub own : List Part
  pub checked_parts : List Part
  pub further : List Part
  pub prepared : Step before (Message (plain_ask PrepareCommitMsg skip) (begun_message message))
      (MessageRan true report between) own before
  pub checked : IsSmall between → Step before (Message (plain_ask CommitMsg skip) between)
      (MessageRan true checked_report last) checked_parts before
  pub made : IsMadeOf before last skip number post further after
  pub reported : reports ≡ [] ∷ report ∷ checked_report ∷ []
  pub joined : parts ≡ own ++ (checked_parts ++ further)
