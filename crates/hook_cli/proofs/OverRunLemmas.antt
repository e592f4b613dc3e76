-- How a run of hooks over a repository ends.
use Rattle.std.proofs.Common.{◌≡◌, ℕ, Bool, Option, Result, List, Ok, Err}
use Rattle.sqlite_trees.specs.declared.store.Store.{Ghosts}
use Rattle.hook_base.specs.declared.file.File.{File}
use Rattle.child_port.specs.declared.answer.Outcome.{Outcome}
use Rattle.repo_store.specs.StoreBooks.{IsAtRest}
use Rattle.commit_flow.specs.declared.command.Command.TheVariants as command
use Rattle.commit_flow.specs.declared.commit_ending.CommitEnding.{CommitEnding}
use Rattle.commit_flow.specs.declared.staged_run.StagedRun.{StagedRun}
use Rattle.commit_flow.specs.declared.host_ask.HostAsk.{HostAsk}
use Rattle.commit_flow.specs.declared.host_refusal.HostRefusal.{HostRefusal}
use Rattle.commit_flow.specs.declared.message_run.MessageRun.{MessageRun}
use Rattle.commit_flow.specs.declared.message_ask.MessageAsk.{MessageAsk}
use Rattle.commit_flow.specs.Commands.{reply_of, reply_of_ending, reply_of_message}
use Rattle.commit_flow.specs.MessageSteps.{IsMessageStep}
use Rattle.commit_flow.specs.Stops.{IsPlayedSafely}
use Rattle.commit_flow.specs.KeptByHooks.{KeepsForCommit, KeepsForRun}
use Rattle.commit_flow.specs.declared.host.Host.{Host}
use Rattle.commit_flow.specs.declared.reply.Reply.TheVariants.{Refused}
use Rattle.commit_flow.specs.RunSteps.{IsRunStep, IsStoppedStep, reply_of_run}
use Rattle.commit_flow.specs.CommitSteps.{IsCommitStep}
use Rattle.hook_cli.specs.declared.command_ending.CommandEnding.{CommandEnding}
use Rattle.hook_cli.specs.declared.command_ending.CommandEnding.TheVariants as ends
use Rattle.hook_cli.specs.CommandOver.{Counts, IsCommitOverHost, IsMessageOverHost, IsReplied, IsRunOverHost, message_left, moment_after, moment_before}
use Rattle.text_output.specs.Outputs.{IsSilent, Output}
use Rattle.hook_cli.specs.Printing.{IsSaid, IsPrintedOnStandardError, ending_of, untaken_line}
use Rattle.hook_cli.specs.RefusalText.{refusal_text}
use Rattle.hook_cli.specs.RunText.{run_text}

module _ {S : Type 0} (g : Ghosts S) (tells : List (List ℕ) → List File → Outcome → Type 0) (counts : Counts) (old new : Host S) (ask : HostAsk) (out err : Output) (ending : CommandEnding) where
  pub run-said : (ran : StagedRun)
      → IsRunStep tells (moment_before counts old) (moment_after counts new) old.store.kept.repo ask ran new.store.kept.repo
      → KeepsForRun old.store.kept new.store.kept (Ok ran)
      → IsPlayedSafely g tells (moment_before counts old) (moment_after counts new) old.store new.store (command.Run ask) (reply_of_run ran)
      → IsSaid (ending_of ran.passed) out (run_text ask.options.verbose ran) err untaken_line ending
      → IsRunOverHost g tells counts old new ask out err ending
  run-said ran step change safe said = record {
    answer = Ok ran;
    step = step;
    stopped = tt;
    change = change;
    safe = safe;
    said = said;
  }

  pub run-refused : (refusal : HostRefusal)
      → IsStoppedStep tells (moment_before counts old) (moment_after counts new) old.store.kept.repo ask new.store.kept refusal
      → KeepsForRun old.store.kept new.store.kept (Err refusal)
      → IsPlayedSafely g tells (moment_before counts old) (moment_after counts new) old.store new.store (command.Run ask) (Refused refusal)
      → IsPrintedOnStandardError ends.Refused err (refusal_text refusal) ending → IsSilent out
      → IsRunOverHost g tells counts old new ask out err ending
  run-refused refusal stopped change safe told silent = record {
    answer = Err refusal;
    step = tt;
    stopped = stopped;
    change = change;
    safe = safe;
    said = (silent, told);
  }

-- a commit whose answer is printed
pub commit-answered : {S : Type 0} (g : Ghosts S) (tells : List (List ℕ) → List File → Outcome → Type 0) (counts : Counts) (old new : Host S) (message : List ℕ) (no_verify : Bool)
    (skip : List (List ℕ)) (out err : Output) (ending : CommandEnding)
    (answer : Result CommitEnding HostRefusal)
    → IsCommitStep tells (moment_before counts old) (moment_after counts new) old.store.kept.repo message no_verify skip (reply_of reply_of_ending answer) new.store.kept
    → KeepsForCommit old.store.kept new.store.kept answer
    → IsPlayedSafely g tells (moment_before counts old) (moment_after counts new) old.store new.store (command.Commit message no_verify skip) (reply_of reply_of_ending answer)
    → IsReplied out err (reply_of reply_of_ending answer) ending
    → IsCommitOverHost g tells counts old new message no_verify skip out err ending
commit-answered g tells counts old new message no_verify skip out err ending answer step change safe replied =
    record { answer = answer; step = step; change = change; safe = safe; replied = replied }

-- hooks about a message whose answer is printed
pub message-answered : {S : Type 0} (g : Ghosts S) (tells : List (List ℕ) → List File → Outcome → Type 0) (counts : Counts) (old new : Host S) (ask : MessageAsk) (message : List ℕ)
    (out err : Output) (left : Option (List ℕ)) (ending : CommandEnding)
    (answer : Result MessageRun HostRefusal)
    → IsMessageStep tells (moment_before counts old) (moment_after counts new) old.store.kept.repo ask message (reply_of reply_of_message answer) new.store.kept.repo
    → IsAtRest g old.store new.store
    → IsPlayedSafely g tells (moment_before counts old) (moment_after counts new) old.store new.store (command.Message ask message) (reply_of reply_of_message answer)
    → IsReplied out err (reply_of reply_of_message answer) ending → left ≡ message_left answer ending
    → IsMessageOverHost g tells counts old new ask message out err left ending
message-answered g tells counts old new ask message out err left ending answer step rest safe replied given =
    record { answer = answer; step = step; rest = rest; safe = safe; replied = replied; given = given }
