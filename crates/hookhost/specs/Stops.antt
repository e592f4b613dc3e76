-- The exit status with which the program ends for each reason to stop, and which reason an error of a library
-- is.
use Rattle.std.specs.Prelude.{◌≡◌, ◌≢◌, ◌⊎◌, ◌++◌, ◌∷◌, ℕ, Bool, true, false, List, None, codes}
use Rattle.std.specs.IoError.{error_kind, raw_os_error}
use Rattle.std.specs.declared.io.Error.{Error}
use Rattle.std.specs.declared.io.ErrorKind.TheVariants.{OutOfMemory as MemoryKind}
use Rattle.clap.specs.Values.{kind_of}
use Rattle.clap.specs.declared.error.Error.{Error as WordsError}
use Rattle.clap.specs.declared.error.kind.ErrorKind.TheVariants.{OutOfMemory as WordsMemory}
use Rattle.configuration_run.specs.declared.try_fault.TryFault.{TryFault}
use Rattle.configuration_run.specs.declared.try_fault.TryFault.TheVariants.{Read, Config, Write, OutOfMemory, Spent}
use Rattle.hook_config.specs.declared.config_fault.ConfigKind.TheVariants.{OutOfMemory as NoMemory}
use Rattle.commit_flow.specs.declared.host_refusal.HostRefusal.TheVariants.{OutOfMemory as NoMemoryOfHost}
use Rattle.command_line.specs.declared.line.CommitHook.{CommitHook}
use Rattle.command_line.specs.declared.line.CommitHook.TheVariants.{PrepareCommitMsg, CommitMsg}
use Rattle.command_line.specs.declared.line.FileChoice.{FileChoice}
use Rattle.command_line.specs.declared.line.FileChoice.TheVariants.{Listed as ListedFiles}
use Rattle.command_line.specs.declared.line.PathSource.{PathSource}
use Rattle.command_line.specs.declared.line.PathSource.TheVariants.{Words, Listed}
use Rattle.command_line.specs.declared.line.Update.{Update}
use Rattle.command_line.specs.declared.line.Update.TheVariants.{Add, Remove, Run, Hook, Accept, Commit, Forget, Limit}
use Rattle.hook_base.specs.declared.file.File.{File}
use Rattle.repository_files.specs.RepositoryFaults.{IsFaultOfOpening}
use Rattle.text_output.specs.QuotedPaths.{told_path}
use Rattle.hookhost.specs.FileTrees.{AreFilesOf}
use Rattle.hookhost.specs.declared.stop.CommandStop.{CommandStop}
use Rattle.hookhost.specs.declared.stop.CommandStop.TheVariants.{Usage, NotText, CannotUse, Refused, NoConfiguration, NoRepository, NoNewRepository, RefusedCommand}

-- 2 for words that name no command, 3 for a refusal
abbrev pub status_of_stop : CommandStop → ℕ
status_of_stop (Usage error) = 2
status_of_stop NotText = 2
status_of_stop (CannotUse word) = 3
status_of_stop (Refused fault) = 3
status_of_stop (NoConfiguration fault) = 3
status_of_stop (NoRepository fault) = 3
status_of_stop (NoNewRepository fault) = 3
status_of_stop (RefusedCommand refusal) = 3

-- the line that says that a file or a folder can't be used
abbrev pub unusable_line : List ℕ → List ℕ
unusable_line name = codes "hookhost: cannot use " ++ told_path name ++ codes "\n"

-- 0 if every hook passed, and 1 if one failed
abbrev pub status_of_run : Bool → ℕ
status_of_run true = 0
status_of_run false = 1

-- the program itself was refused memory: the system's own want of memory has an error number
pub record IsNoMemory (error : Error) : Type 0 where
  pub kind : error_kind error ≡ MemoryKind
  pub numbered : raw_os_error error ≡ None

-- the program stops for want of memory if an error is that, and otherwise for this reason
pub record StopsFor (reason : CommandStop) (error : Error) (stop : CommandStop) : Type 0 where
  pub memory : IsNoMemory error → stop ≡ Refused OutOfMemory
  pub other : ¬ IsNoMemory error → stop ≡ reason

-- the file of a word stops the program because it can't be used, or because memory was refused
abbrev pub IsStopOfFile : List ℕ → CommandStop → Type 0
IsStopOfFile word stop = (stop ≡ CannotUse word) ⊎ (stop ≡ Refused OutOfMemory)

-- the files of the words before this one were read, and its file stops the program
pub record StopsAtFile (words : List (List ℕ)) (stop : CommandStop) : Type 0 where
  pub before : List (List ℕ)
  pub word : List ℕ
  pub others : List (List ℕ)
  pub one : words ≡ before ++ word ∷ others
  pub files : List File
  pub read : AreFilesOf before files
  pub stops : IsStopOfFile word stop

-- the files of words stop the program at one of them, or because memory was refused
abbrev pub IsStopOfFiles : List (List ℕ) → CommandStop → Type 0
IsStopOfFiles words stop = StopsAtFile words stop ⊎ (stop ≡ Refused OutOfMemory)

-- what `StopsFor` says, for an error of the command line's parser
pub record IsUsageOf (error : WordsError) (stop : CommandStop) : Type 0 where
  pub memory : kind_of error ≡ WordsMemory → stop ≡ Refused OutOfMemory
  pub other : kind_of error ≢ WordsMemory → stop ≡ Usage error

-- a run's refusal when a configuration is read alone: want of memory is the configuration's refusal
abbrev pub of_check_fault : TryFault → CommandStop
of_check_fault Read = Refused Read
of_check_fault (Config fault) = Refused (Config fault)
of_check_fault Write = Refused Write
of_check_fault OutOfMemory = NoConfiguration (record { kind = NoMemory; at = 0 })
of_check_fault Spent = Refused Spent

abbrev pub of_check : CommandStop → CommandStop
of_check (Usage error) = Usage error
of_check NotText = NotText
of_check (CannotUse word) = CannotUse word
of_check (Refused fault) = of_check_fault fault
of_check (NoConfiguration fault) = NoConfiguration fault
of_check (NoRepository fault) = NoRepository fault
of_check (NoNewRepository fault) = NoNewRepository fault
of_check (RefusedCommand refusal) = RefusedCommand refusal

-- a run's refusal when a command on the repository is asked for: want of memory is the host's refusal
abbrev pub of_command_fault : TryFault → CommandStop
of_command_fault Read = Refused Read
of_command_fault (Config fault) = Refused (Config fault)
of_command_fault Write = Refused Write
of_command_fault OutOfMemory = RefusedCommand NoMemoryOfHost
of_command_fault Spent = Refused Spent

abbrev pub of_command : CommandStop → CommandStop
of_command (Usage error) = Usage error
of_command NotText = NotText
of_command (CannotUse word) = CannotUse word
of_command (Refused fault) = of_command_fault fault
of_command (NoConfiguration fault) = NoConfiguration fault
of_command (NoRepository fault) = NoRepository fault
of_command (NoNewRepository fault) = NoNewRepository fault
of_command (RefusedCommand refusal) = RefusedCommand refusal

-- the store's file can't be used, or the store can't be opened
abbrev pub IsStopOfOpening : CommandStop → Type 0
IsStopOfOpening (NoRepository fault) = IsFaultOfOpening fault
IsStopOfOpening _ = ⊥

-- a file or a folder can't be used, or memory was refused
abbrev pub IsStopOfReading : CommandStop → Type 0
IsStopOfReading (CannotUse word) = Unit {0}
IsStopOfReading (Refused fault) = fault ≡ OutOfMemory
IsStopOfReading stop = ⊥

-- the file that lists names can't be used, or the names aren't UTF-8
abbrev pub IsStopOfNames : List ℕ → CommandStop → Type 0
IsStopOfNames from stop = (stop ≡ NotText) ⊎ IsStopOfFile from stop

-- a file or a folder that a line stages can't be used, or memory was refused, which is then the host's
-- refusal
abbrev pub IsStopOfStaging : CommandStop → Type 0
IsStopOfStaging (CannotUse word) = Unit {0}
IsStopOfStaging (RefusedCommand refusal) = refusal ≡ NoMemoryOfHost
IsStopOfStaging stop = ⊥

-- the same for a file that lists names
abbrev pub IsStopOfList : List ℕ → CommandStop → Type 0
IsStopOfList from stop = (stop ≡ NotText) ⊎ (stop ≡ CannotUse from) ⊎ (stop ≡ RefusedCommand NoMemoryOfHost)

-- what stops a line for the file that lists its paths
abbrev pub IsStopOfSource : PathSource → CommandStop → Type 0
IsStopOfSource (Words words) stop = ⊥
IsStopOfSource (Listed from) stop = IsStopOfList from stop

abbrev pub IsStopOfChoice : FileChoice → CommandStop → Type 0
IsStopOfChoice (ListedFiles from) stop = IsStopOfList from stop
IsStopOfChoice files stop = ⊥

-- the file of a message can't be used, or memory was refused, which is then the host's refusal
abbrev pub IsStopOfMessage : List ℕ → CommandStop → Type 0
IsStopOfMessage name stop = (stop ≡ CannotUse name) ⊎ (stop ≡ RefusedCommand NoMemoryOfHost)

-- what stops the hooks of a stage for the file of their message
abbrev pub IsStopOfHook : CommitHook → CommandStop → Type 0
IsStopOfHook (PrepareCommitMsg name) stop = IsStopOfMessage name stop
IsStopOfHook (CommitMsg name) stop = IsStopOfMessage name stop
IsStopOfHook hook stop = ⊥

-- what stops an update for the file that lists its paths, or that holds its message
abbrev pub IsStopOfItsFile : Update → CommandStop → Type 0
IsStopOfItsFile (Add paths mode) stop = IsStopOfSource paths stop
IsStopOfItsFile (Remove paths) stop = IsStopOfSource paths stop
IsStopOfItsFile (Run files only stage fresh options) stop = IsStopOfChoice files stop
IsStopOfItsFile (Hook hook fresh options) stop = IsStopOfHook hook stop
IsStopOfItsFile Accept stop = ⊥
IsStopOfItsFile (Commit message no_verify color jobs) stop = ⊥
IsStopOfItsFile Forget stop = ⊥
IsStopOfItsFile (Limit limit) stop = ⊥

-- a variable which names a file of calls, the folder of children, what links in this folder lead to, or the
-- file that represents Git's state
abbrev pub IsVariable : List ℕ → Type 0
IsVariable word =
    (word ≡ codes "HOOKHOST_GIT_CALLS") ⊎ (word ≡ codes "HOOKHOST_SCRATCH") ⊎ (word ≡ codes "HOOKHOST_LINKS")
    ⊎ (word ≡ codes "HOOKHOST_GIT_STATE") ⊎ (word ≡ codes "HOOKHOST_AHEAD")

-- the variable isn't UTF-8 or names what can't be, or memory was refused
abbrev pub IsStopOfVariable : List ℕ → CommandStop → Type 0
IsStopOfVariable variable (CannotUse word) = word ≡ variable
IsStopOfVariable variable (Refused fault) = fault ≡ OutOfMemory
IsStopOfVariable variable stop = ⊥

-- a variable that children depend on can't be used, or memory was refused
abbrev pub IsStopOfChildren : CommandStop → Type 0
IsStopOfChildren (CannotUse word) = IsVariable word
IsStopOfChildren (Refused fault) = fault ≡ OutOfMemory
IsStopOfChildren stop = ⊥

-- the same for a command on the repository: want of memory is then the host's refusal
abbrev pub IsStopOfHooks : CommandStop → Type 0
IsStopOfHooks (CannotUse word) = IsVariable word
IsStopOfHooks (RefusedCommand refusal) = refusal ≡ NoMemoryOfHost
IsStopOfHooks stop = ⊥

-- what stops an update for what it needs besides the store: the files that it stages, or what runs of hooks
-- need, can't be used. Or memory was refused for these, which is then the host's refusal
abbrev pub IsStopOfCall : Update → CommandStop → Type 0
IsStopOfCall (Add paths mode) stop = IsStopOfStaging stop
IsStopOfCall (Remove paths) stop = ⊥
IsStopOfCall (Run files only stage fresh options) stop = IsStopOfHooks stop
IsStopOfCall (Hook hook fresh options) stop = IsStopOfHooks stop
IsStopOfCall Accept stop = ⊥
IsStopOfCall (Commit message no_verify color jobs) stop = IsStopOfHooks stop
IsStopOfCall Forget stop = ⊥
IsStopOfCall (Limit limit) stop = ⊥

-- what stops a look-up: the store can't be used, or its lock
abbrev pub IsStopOfLookUp : CommandStop → Type 0
IsStopOfLookUp (NoRepository fault) = Unit {0}
IsStopOfLookUp stop = ⊥

-- what stops an update: that, the file that lists its paths or holds its message, or what it needs besides
-- the store
abbrev pub IsStopOfUpdate : Update → CommandStop → Type 0
IsStopOfUpdate update stop = IsStopOfLookUp stop ⊎ IsStopOfItsFile update stop ⊎ IsStopOfCall update stop
