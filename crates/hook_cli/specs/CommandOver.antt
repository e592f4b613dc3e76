-- The commands and look-ups over a repository: what each changes, which children it starts, what it prints,
-- and the exit status.
use Rattle.std.specs.Prelude.{◌≡◌, ◌⊎◌, ℕ, Bool, List, [], length, Option, None, Some, IsSome, option_map, Result, Ok, Err, IfErr, IfOk, OnOk}
use Rattle.sqlite_trees.specs.declared.store.Store.{Ghosts}
use Rattle.hook_base.specs.declared.file.File.{File}
use Rattle.hook_base.specs.declared.file.FileEntry.{FileEntry}
use Rattle.hook_base.specs.declared.file.Mode.{Mode}
use Rattle.hook_base.specs.Paths.{path_fault}
use Rattle.hook_base.specs.Trees.{entry_of}
use Rattle.child_port.specs.declared.answer.Outcome.{Outcome}
use Rattle.hook_run.specs.Moments.{Moment, moment}
use Rattle.repo_store.specs.AllOrNothing.{IsAllOrNothing}
use Rattle.repo_store.specs.Contents.{Collides}
use Rattle.repo_store.specs.Kept.{Kept, accepting, forgetting, limiting, staging, unstaging}
use Rattle.repo_store.specs.Repository.{Repository, commit_at, fixed_bytes, last_tree, tree_at}
use Rattle.repo_store.specs.Shown.{IsOneTransaction}
use Rattle.result_book.specs.Contents.{count_of}
use Rattle.repo_store.specs.StoreBooks.{IsAtRest, remembered_by}
use Rattle.repo_store.specs.declared.staging_edit.StagingEdit.{StagingEdit}
use Rattle.commit_flow.specs.declared.command.Command.{Command}
use Rattle.commit_flow.specs.declared.command.Command.TheVariants as command
use Rattle.commit_flow.specs.declared.commit_ending.CommitEnding.{CommitEnding}
use Rattle.commit_flow.specs.declared.host_ask.HostAsk.{HostAsk}
use Rattle.commit_flow.specs.declared.host_refusal.HostRefusal.{HostRefusal}
use Rattle.commit_flow.specs.declared.host_refusal.HostRefusal.TheVariants.{OutOfMemory, BadPath, NotStaged, Collision}
use Rattle.commit_flow.specs.declared.message_run.MessageRun.{MessageRun}
use Rattle.commit_flow.specs.declared.message_ask.MessageAsk.{MessageAsk}
use Rattle.commit_flow.specs.declared.reply.Reply.{Reply}
use Rattle.commit_flow.specs.declared.reply.Reply.TheVariants.{Added, Removed, Staged, Accepted, Ran, MessageRan, Committed, HooksFailed, Forgot, Limited, EditRefused, Refused}
use Rattle.commit_flow.specs.declared.staged_run.StagedRun.{StagedRun}
use Rattle.commit_flow.specs.AnswerLimits.{IsLimitRefusal}
use Rattle.commit_flow.specs.Commands.{reply_of, reply_of_ending, reply_of_message}
use Rattle.commit_flow.specs.Stops.{IsOneCommand, IsPlayedSafely}
use Rattle.commit_flow.specs.KeptByHooks.{KeepsForCommit, KeepsForRun}
use Rattle.commit_flow.specs.declared.host.Host.{Host}
use Rattle.commit_flow.specs.MessageSteps.{IsMessageStep}
use Rattle.commit_flow.specs.Plays.{HasForgotten}
use Rattle.commit_flow.specs.RunSteps.{IsRunStep, IsStoppedStep, reply_of_run}
use Rattle.commit_flow.specs.StagedPaths.{IsLegal}
use Rattle.commit_flow.specs.Steps.{Step, entry_to_add}
use Rattle.commit_flow.specs.CommitSteps.{IsCommitStep}
use Rattle.command_line.specs.declared.line.FileVersion.{FileVersion}
use Rattle.command_line.specs.declared.line.FileVersion.TheVariants.{Staged, Fixed}
use Rattle.command_line.specs.declared.line.FileVersion.TheVariants as versions
use Rattle.command_line.specs.declared.line.LookUp.{LookUp}
use Rattle.command_line.specs.declared.line.LookUp.TheVariants.{Status, Fixes, Cat, Log, Show, Memory}
use Rattle.hook_cli.specs.declared.command_ending.CommandEnding.{CommandEnding}
use Rattle.hook_cli.specs.declared.command_ending.CommandEnding.TheVariants as ends
use Rattle.text_output.specs.Outputs.{IsSilent, Output}
use Rattle.hook_cli.specs.MemoryText.{forgotten_text, remembered_text}
use Rattle.hook_cli.specs.Printing.{IsSaid, IsPrintedOnStandardError, ending_of, status_of, untaken_line}
use Rattle.repository_text.specs.FixesText.{accepted_text, fixes_text}
use Rattle.repository_text.specs.LogText.{log_text}
use Rattle.hook_cli.specs.RefusalText.{no_commit_text, no_file_text, no_fixed_text, refusal_text}
use Rattle.hook_cli.specs.RunText.{IsCommitSaid, failure_text, run_text}
use Rattle.hook_cli.specs.StagingOver.{AreStaged}
use Rattle.repository_text.specs.ShowText.{show_text}
use Rattle.repository_text.specs.StatusText.{status_text}
use Rattle.configuration_run.specs.TryOver.{NoneCalled}

-- ---- the commands that change the repository

-- What each reply prints. A file that was added or removed prints nothing. Accepted fixes and removed cached
-- results print how many there were. Hooks about a message print what is reported of them. A commit prints
-- what is reported of its hooks, and its number if it was made. A refusal prints why. If standard output
-- doesn't take the text, standard error says so, and that a commit was made. A run prints more than its reply
-- has: `IsRunSaid`.
abbrev pub IsReplied : Output → Output → Reply → CommandEnding → Type 0
IsReplied out err Added ending = IsSilent out × IsSilent err × (ending ≡ ends.Done)
IsReplied out err Removed ending = IsSilent out × IsSilent err × (ending ≡ ends.Done)
IsReplied out err Staged ending = IsSilent out × IsSilent err × (ending ≡ ends.Done)
IsReplied out err (Accepted number) ending = IsSaid ends.Done out (accepted_text number) err untaken_line ending
IsReplied out err (Ran passed report changes unsteady) ending = ⊥
IsReplied out err (MessageRan passed report left) ending = IsSaid (ending_of passed) out report err untaken_line ending
IsReplied out err (Committed number reports post) ending = IsCommitSaid number reports post out err ending
IsReplied out err (HooksFailed stage reports) ending =
    IsSaid ends.Failed out (failure_text reports) err untaken_line ending
IsReplied out err (Forgot number) ending = IsSaid ends.Done out (forgotten_text number) err untaken_line ending
IsReplied out err (Limited number) ending = IsSaid ends.Done out (remembered_text number) err untaken_line ending
IsReplied out err (EditRefused stop) ending = ⊥
IsReplied out err (Refused refusal) ending =
    IsSilent out × IsPrintedOnStandardError ends.Refused err (refusal_text refusal) ending

-- One call of the host that runs no hooks, and whose answer is printed. If it is done, its reply is `reply`,
-- the host keeps `after`, and it may bring contents that collide. The repository takes a step of the host's
-- machine, as a whole or not at all, even if a crash stops it. A writer's error undoes none of it.
pub record IsChanged {S : Type 0} (g : Ghosts S) (old new : Host S) (command : Command) (reply : Reply) (after : Kept)
    (BringsCollision : Type 0) (out err : Output) (ending : CommandEnding) : Type 0 where
  pub answer : Result (Unit {0}) HostRefusal
  pub step : Step old.store.kept.repo command (reply_of (λ _. reply) answer) [] new.store.kept.repo
  pub change : IsAllOrNothing old.store.kept new.store.kept answer after
  pub one : IsOneCommand g old.store new.store command (reply_of (λ _. reply) answer)
  pub apart : OnOk answer (¬ BringsCollision)
  pub collides : IfErr answer (λ refusal. refusal ≡ Collision → BringsCollision)
  pub replied : IsReplied out err (reply_of (λ _. reply) answer) ending

-- the bytes are staged at the path
abbrev pub IsAddOver : {S : Type 0} → Ghosts S → Host S → Host S → List ℕ → List ℕ → Option Mode → Output → Output
    → CommandEnding → Type 0
IsAddOver g old new path bytes mode out err ending =
    IsChanged g old new (command.Add path bytes mode) Added
    (staging path (entry_to_add old.store.kept.repo path bytes mode) old.store.kept)
    (Collides bytes old.store.kept.contents) out err ending

-- the path is removed from the staged files
abbrev pub IsRemoveOver : {S : Type 0} → Ghosts S → Host S → Host S → List ℕ → Output → Output → CommandEnding → Type 0
IsRemoveOver g old new path out err ending =
    IsChanged g old new (command.Remove path) Removed (unstaging path old.store.kept) ⊥ out err ending

-- the fixes are accepted
abbrev pub IsAcceptOver : {S : Type 0} → Ghosts S → Host S → Host S → Output → Output → CommandEnding → Type 0
IsAcceptOver g old new out err ending =
    IsChanged g old new command.Accept (Accepted (length old.store.kept.repo.fixes)) (accepting old.store.kept) ⊥ out
    err ending

-- The changes of the staged files are made together, all or none. Nothing is printed on standard output.
abbrev pub AreStagedOver : {S : Type 0} → Ghosts S → Host S → Host S → List StagingEdit → Output → Output
    → CommandEnding → Type 0
AreStagedOver g old new edits out err ending = IsSilent out × AreStaged g old new edits err ending

-- ---- the cached results

-- One call of the host removes all cached results, and prints how many there were. If it is refused, all of
-- them stay. The repository and the contents that the host keeps don't change in either case. A writer's
-- error undoes none of it.
pub record IsForgetOver {S : Type 0} (g : Ghosts S) (old new : Host S) (out err : Output)
    (ending : CommandEnding) : Type 0 where
  pub answer : Result ℕ HostRefusal
  pub step : Step old.store.kept.repo command.Forget (reply_of Forgot answer) [] new.store.kept.repo
  pub change : IsAllOrNothing old.store.kept new.store.kept answer (forgetting old.store.kept)
  pub one : IsOneCommand g old.store new.store command.Forget (reply_of Forgot answer)
  pub forgotten : HasForgotten (remembered_by old.store.kept) (remembered_by new.store.kept) (reply_of Forgot answer)
  pub replied : IsReplied out err (reply_of Forgot answer) ending

-- prints how many cached results are left, or why the call is refused
abbrev pub IsLeftSaid : Output → Output → Result ℕ HostRefusal → CommandEnding → Type 0
IsLeftSaid out err (Ok number) ending = IsSaid ends.Done out (remembered_text number) err untaken_line ending
IsLeftSaid out err (Err refusal) ending =
    IsSilent out × IsPrintedOnStandardError ends.Refused err (refusal_text refusal) ending

-- One call of the host sets how many results are cached at most, in one transaction, and prints how many are
-- left: those that were used last. If it is refused, all results stay, and so does the limit. The repository
-- and the contents that the host keeps don't change in either case: this too is a step of the host's machine.
-- A writer's error undoes none of it.
pub record IsLimitOver {S : Type 0} (g : Ghosts S) (old new : Host S) (limit : ℕ) (out err : Output)
    (ending : CommandEnding) : Type 0 where
  pub answer : Result ℕ HostRefusal
  pub step : Step old.store.kept.repo (command.Limit limit) (reply_of Limited answer) [] new.store.kept.repo
  pub change : IsAllOrNothing old.store.kept new.store.kept answer (limiting limit old.store.kept)
  pub one : IsOneCommand g old.store new.store (command.Limit limit) (reply_of Limited answer)
  pub transaction : IsOneTransaction g old.store new.store answer (limiting limit old.store.kept)
  pub left : IfOk answer (λ number. number ≡ count_of (remembered_by new.store.kept))
  pub refused : IfErr answer IsLimitRefusal
  pub said : IsLeftSaid out err answer ending

-- ---- runs of hooks

-- how many outcomes children had reported before a command and after it, and how many of these were faults
pub record Counts : Type 0 where
  pub calls : ℕ
  pub calls_after : ℕ
  pub faults : ℕ
  pub faults_after : ℕ

-- the counts of children before a command and after it
abbrev pub counts_over : {C : Type 0} → (C → ℕ) → (C → ℕ) → C → C → Counts
counts_over call_count fault_count before after = record {
  calls = call_count before;
  calls_after = call_count after;
  faults = fault_count before;
  faults_after = fault_count after;
}

-- the counts with the results that the host has cached, before the command and after it
abbrev pub moment_before : {S : Type 0} → Counts → Host S → Moment
moment_before counts host = moment counts.calls counts.faults (remembered_by host.store.kept)

abbrev pub moment_after : {S : Type 0} → Counts → Host S → Moment
moment_after counts host = moment counts.calls_after counts.faults_after (remembered_by host.store.kept)

-- What a run prints: what is reported of its hooks, which of them are unsteady, and if it is verbose how many
-- commands were answered from the cache. A refused run prints why.
abbrev pub IsRunSaid : Output → Output → Bool → Result StagedRun HostRefusal → CommandEnding → Type 0
IsRunSaid out err verbose (Ok ran) ending =
    IsSaid (ending_of ran.passed) out (run_text verbose ran) err untaken_line ending
IsRunSaid out err verbose (Err refusal) ending =
    IsSilent out × IsPrintedOnStandardError ends.Refused err (refusal_text refusal) ending

-- One call of the host runs hooks on the staged files, and its answer is printed. The repository takes a step
-- of the host's machine over the children, or stays as it was. A writer's error undoes none of it.
pub record IsRunOverHost {S : Type 0} (g : Ghosts S) (tells : List (List ℕ) → List File → Outcome → Type 0)
    (counts : Counts) (old new : Host S) (ask : HostAsk) (out err : Output) (ending : CommandEnding) : Type 0 where
  pub answer : Result StagedRun HostRefusal
  pub step : IfOk answer (λ ran. IsRunStep tells (moment_before counts old) (moment_after counts new)
      old.store.kept.repo ask ran new.store.kept.repo)
  pub stopped : IfErr answer (IsStoppedStep tells (moment_before counts old) (moment_after counts new)
      old.store.kept.repo ask new.store.kept)
  pub change : KeepsForRun old.store.kept new.store.kept answer
  pub safe : IsPlayedSafely g tells (moment_before counts old) (moment_after counts new) old.store new.store
      (command.Run ask) (reply_of reply_of_run answer)
  pub said : IsRunSaid out err ask.options.verbose answer ending

-- the message is given if the hooks passed and their report is out
abbrev pub message_given : List ℕ → CommandEnding → Option (List ℕ)
message_given message ends.Done = Some message
message_given message ending = None

-- the message that hooks leave, if it is given; a refusal leaves none
abbrev pub message_left : Result MessageRun HostRefusal → CommandEnding → Option (List ℕ)
message_left (Ok ran) ending = message_given ran.message ending
message_left (Err refusal) ending = None

-- One call of the host runs the hooks of a stage about a message, and its answer is printed. It is a step of
-- the host's machine over the children, and the repository stays as it was. The message is given that the hooks
-- leave, if it may be used.
pub record IsMessageOverHost {S : Type 0} (g : Ghosts S) (tells : List (List ℕ) → List File → Outcome → Type 0)
    (counts : Counts) (old new : Host S) (ask : MessageAsk) (message : List ℕ) (out err : Output)
    (left : Option (List ℕ)) (ending : CommandEnding) : Type 0 where
  pub answer : Result MessageRun HostRefusal
  pub step : IsMessageStep tells (moment_before counts old) (moment_after counts new) old.store.kept.repo ask message
      (reply_of reply_of_message answer) new.store.kept.repo
  pub rest : IsAtRest g old.store new.store
  pub safe : IsPlayedSafely g tells (moment_before counts old) (moment_after counts new) old.store new.store
      (command.Message ask message) (reply_of reply_of_message answer)
  pub replied : IsReplied out err (reply_of reply_of_message answer) ending
  pub given : left ≡ message_left answer ending

-- One call of the host commits the staged files through their hooks, and its answer is printed. The
-- repository takes a step of the host's machine over the children, or stays as it was. A writer's error
-- undoes none of it.
pub record IsCommitOverHost {S : Type 0} (g : Ghosts S) (tells : List (List ℕ) → List File → Outcome → Type 0)
    (counts : Counts) (old new : Host S) (message : List ℕ) (no_verify : Bool) (skip : List (List ℕ)) (out err : Output)
    (ending : CommandEnding) : Type 0 where
  pub answer : Result CommitEnding HostRefusal
  pub step : IsCommitStep tells (moment_before counts old) (moment_after counts new) old.store.kept.repo message
      no_verify skip (reply_of reply_of_ending answer) new.store.kept
  pub change : KeepsForCommit old.store.kept new.store.kept answer
  pub safe : IsPlayedSafely g tells (moment_before counts old) (moment_after counts new) old.store new.store
      (command.Commit message no_verify skip) (reply_of reply_of_ending answer)
  pub replied : IsReplied out err (reply_of reply_of_ending answer) ending

-- ---- the commands that look something up

-- the bytes that a version of a path has, if it has any
abbrev pub bytes_in : Repository → FileVersion → List ℕ → Option (List ℕ)
bytes_in repo Staged path = option_map (λ (entry : FileEntry). entry.bytes) (entry_of path repo.staged)
bytes_in repo Fixed path = fixed_bytes path repo.fixes
bytes_in repo (versions.Committed number) path =
    option_map (λ (entry : FileEntry). entry.bytes) (entry_of path (tree_at number repo.history))

-- the text that a look-up prints: for `memory` without a limit how many results are cached, for others
-- something of the repository
abbrev pub IsAnswer : Kept → LookUp → List ℕ → Type 0
IsAnswer kept Status text = text ≡ status_text kept.repo.staged (last_tree kept.repo.history)
IsAnswer kept Fixes text = text ≡ fixes_text kept.repo.fixes
IsAnswer kept (Cat path version) text = IsLegal path × (bytes_in kept.repo version path ≡ Some text)
IsAnswer kept Log text = text ≡ log_text kept.repo.history
IsAnswer kept (Show number) text = option_map show_text (commit_at number kept.repo.history) ≡ Some text
IsAnswer kept Memory text = text ≡ remembered_text (count_of (remembered_by kept))

-- why a text isn't a path, or that memory was refused, which comes only if the path has no fault
abbrev pub IsPathRefusal : List ℕ → HostRefusal → Type 0
IsPathRefusal path (BadPath fault) = path_fault path ≡ Some fault
IsPathRefusal path OutOfMemory = IsLegal path
IsPathRefusal path refusal = ⊥

-- what is printed if a version has no bytes of a path. The path isn't staged, no fix gives it bytes, there is
-- no such commit, or the commit has no such file
abbrev pub IsMissingText : Repository → FileVersion → List ℕ → List ℕ → Type 0
IsMissingText repo Staged path text = text ≡ refusal_text NotStaged
IsMissingText repo Fixed path text = text ≡ no_fixed_text path
IsMissingText repo (versions.Committed number) path text =
    ((commit_at number repo.history ≡ None) × (text ≡ no_commit_text number))
    ⊎ (IsSome (commit_at number repo.history) × (text ≡ no_file_text number path))

-- why `cat` prints no bytes, in this order: the text isn't a path, or the version has no bytes of it
abbrev pub IsCatText : Repository → FileVersion → List ℕ → List ℕ → Type 0
IsCatText repo version path text =
    ((refusal : HostRefusal) × IsPathRefusal path refusal × (text ≡ refusal_text refusal))
    ⊎ (IsLegal path × (bytes_in repo version path ≡ None) × IsMissingText repo version path text)

-- the text that a refused look-up prints; `memory` without a limit is never refused
abbrev pub IsRefusalText : Repository → LookUp → List ℕ → Type 0
IsRefusalText repo Status text = text ≡ refusal_text OutOfMemory
IsRefusalText repo Fixes text = text ≡ refusal_text OutOfMemory
IsRefusalText repo (Cat path version) text = IsCatText repo version path text
IsRefusalText repo Log text = text ≡ refusal_text OutOfMemory
IsRefusalText repo (Show number) text =
    ((commit_at number repo.history ≡ None) × (text ≡ no_commit_text number))
    ⊎ (IsSome (commit_at number repo.history) × (text ≡ refusal_text OutOfMemory))
IsRefusalText repo Memory text = ⊥

-- the look-up's text is printed
pub record Answers (kept : Kept) (look_up : LookUp) (out err : Output) (ending : CommandEnding) : Type 0 where
  pub text : List ℕ
  pub answer : IsAnswer kept look_up text
  pub said : IsSaid ends.Done out text err untaken_line ending

-- the look-up is refused, and nothing is printed on standard output
pub record Refuses (kept : Kept) (look_up : LookUp) (out err : Output) (ending : CommandEnding) : Type 0 where
  pub text : List ℕ
  pub refusal : IsRefusalText kept.repo look_up text
  pub told : IsPrintedOnStandardError ends.Refused err text ending
  pub silent : IsSilent out

abbrev pub IsLookUp : Kept → LookUp → Output → Output → CommandEnding → Type 0
IsLookUp kept look_up out err ending = Answers kept look_up out err ending ⊎ Refuses kept look_up out err ending

-- the look-up ends in one of these ways, and has the exit status of that ending
pub record IsLookUpOver (kept : Kept) (look_up : LookUp) (out err : Output) (status : ℕ) : Type 0 where
  pub ending : CommandEnding
  pub looked_up : IsLookUp kept look_up out err ending
  pub exits : status ≡ status_of ending

-- ---- all commands

-- the command is done in this way
abbrev pub IsDoneOver : {S : Type 0} → Ghosts S → (List (List ℕ) → List File → Outcome → Type 0) → Counts → Host S
    → Host S → Command → Output → Output → CommandEnding → Type 0
IsDoneOver g tells counts old new (command.Add path bytes mode) out err ending =
    IsAddOver g old new path bytes mode out err ending
IsDoneOver g tells counts old new (command.Remove path) out err ending = IsRemoveOver g old new path out err ending
IsDoneOver g tells counts old new (command.Stage edits) out err ending = AreStagedOver g old new edits out err ending
IsDoneOver g tells counts old new command.Accept out err ending = IsAcceptOver g old new out err ending
IsDoneOver g tells counts old new (command.Run ask) out err ending =
    IsRunOverHost g tells counts old new ask out err ending
IsDoneOver g tells counts old new (command.Message ask message) out err ending =
    (left : Option (List ℕ)) × IsMessageOverHost g tells counts old new ask message out err left ending
IsDoneOver g tells counts old new (command.Commit message no_verify skip) out err ending =
    IsCommitOverHost g tells counts old new message no_verify skip out err ending
IsDoneOver g tells counts old new command.Forget out err ending = IsForgetOver g old new out err ending
IsDoneOver g tells counts old new (command.Limit most) out err ending = IsLimitOver g old new most out err ending

-- the command runs no hooks
abbrev pub IsHookless : Command → Type 0
IsHookless (command.Run ask) = ⊥
IsHookless (command.Message ask message) = ⊥
IsHookless (command.Commit message no_verify skip) = ⊥
IsHookless done = Unit {0}

-- children are started only by a command that runs hooks
abbrev pub IsCalledBy : Command → Counts → Type 0
IsCalledBy done counts =
    IsHookless done → NoneCalled counts.calls counts.calls_after counts.faults counts.faults_after

-- the hooks about a message end in one of these ways, and have the exit status of that ending
pub record IsMessageOver {S : Type 0} (g : Ghosts S) (tells : List (List ℕ) → List File → Outcome → Type 0)
    (counts : Counts) (old new : Host S) (ask : MessageAsk) (message : List ℕ) (out err : Output)
    (left : Option (List ℕ)) (status : ℕ) : Type 0 where
  pub ending : CommandEnding
  pub over : IsMessageOverHost g tells counts old new ask message out err left ending
  pub exits : status ≡ status_of ending

-- the command ends in one of these ways, and has the exit status of that ending
pub record IsCommandOver {S : Type 0} (g : Ghosts S) (tells : List (List ℕ) → List File → Outcome → Type 0)
    (counts : Counts) (old new : Host S) (done : Command) (out err : Output) (status : ℕ) : Type 0 where
  pub ending : CommandEnding
  pub over : IsDoneOver g tells counts old new done out err ending
  pub called : IsCalledBy done counts
  pub exits : status ≡ status_of ending

-- ---- commands in turn

-- each command that ends in one of these ways was played, with some reply and the promise on stops
abbrev pub EachIsPlayed : {S : Type 0} → Ghosts S → (List (List ℕ) → List File → Outcome → Type 0) → Type 0
EachIsPlayed {S} g tells =
    (counts : Counts) (old new : Host S) (done : Command) (out err : Output) (status : ℕ)
    → IsCommandOver g tells counts old new done out err status
    → (reply : Reply) × IsPlayedSafely g tells (moment_before counts old) (moment_after counts new) old.store new.store
    done reply
