-- What a line asks of the store, with all that it needs of the working folder.
use Rattle.std.specs.Prelude.{◌≡◌, ℕ, Bool, true, false, List, [], ◌∷◌, Option, None, Result, Ok, Err, String, string_bytes}
use Rattle.std.specs.declared.env.VarError.{VarError}
use Rattle.hook_base.specs.declared.file.Mode.{Mode}
use Rattle.run_options.specs.declared.options.RunOptions.{RunOptions}
use Rattle.commit_flow.specs.declared.command.Command.{Command}
use Rattle.commit_flow.specs.declared.command.Command.TheVariants as command
use Rattle.commit_flow.specs.declared.host_ask.AskStage.{AskStage}
use Rattle.commit_flow.specs.declared.host_ask.AskStage.TheVariants as ask_stage
use Rattle.commit_flow.specs.declared.host_ask.Which.{Which}
use Rattle.commit_flow.specs.declared.host_ask.Which.TheVariants as which
use Rattle.commit_flow.specs.declared.message_ask.MessageAsk.{MessageAsk}
use Rattle.commit_flow.specs.declared.message_stage.MessageStage.{MessageStage}
use Rattle.commit_flow.specs.declared.message_stage.MessageStage.TheVariants as message_stage
use Rattle.command_line.specs.declared.line.CommitHook.{CommitHook}
use Rattle.command_line.specs.declared.line.CommitHook.TheVariants as commit_hook
use Rattle.command_line.specs.declared.line.FileChoice.{FileChoice}
use Rattle.command_line.specs.declared.line.FileChoice.TheVariants.{Changed, All, Named, Listed as ListedFiles}
use Rattle.command_line.specs.declared.line.HookChoice.{HookChoice}
use Rattle.command_line.specs.declared.line.PathSource.{PathSource}
use Rattle.command_line.specs.declared.line.PathSource.TheVariants.{Words, Listed}
use Rattle.command_line.specs.declared.line.RunChoice.{RunChoice}
use Rattle.command_line.specs.declared.line.StageChoice.{StageChoice}
use Rattle.command_line.specs.declared.line.StageChoice.TheVariants.{PreCommit, Manual}
use Rattle.command_line.specs.declared.line.Update.{Update}
use Rattle.command_line.specs.declared.line.Update.TheVariants.{Add, Remove, Run, Hook, Accept, Commit, Forget, Limit}
use Rattle.configuration_run.specs.SkipList.{skip_list}
use Rattle.hookhost.specs.declared.store_call.StoreCall.{StoreCall}
use Rattle.hookhost.specs.declared.store_call.StoreCall.TheVariants as call

-- the files of a run, of which those that a file lists are given by their names
abbrev pub which_of : FileChoice → List (List ℕ) → Which
which_of Changed names = which.Changed
which_of All names = which.All
which_of (Named paths) names = which.Named paths
which_of (ListedFiles from) names = which.Named names

abbrev pub ask_stage_of_choice : StageChoice → AskStage
ask_stage_of_choice PreCommit = ask_stage.PreCommit
ask_stage_of_choice Manual = ask_stage.Manual

abbrev pub options_of : RunChoice → RunOptions
options_of choice = record { cautious = choice.cautious; verbose = choice.verbose }

abbrev pub options_of_hook : HookChoice → RunOptions
options_of_hook choice = record { cautious = choice.cautious; verbose = false }

-- the words of a line, or the names that its file lists
abbrev pub words_of_source : PathSource → List (List ℕ) → List (List ℕ)
words_of_source (Words words) names = words
words_of_source (Listed from) names = names

-- whether a file lists the paths
abbrev pub is_listed : PathSource → Bool
is_listed (Words words) = false
is_listed (Listed from) = true

-- The call that stages files: one word that is no folder is a command of its own. It is left open which bytes
-- are staged, and what several changes are.
abbrev pub IsAddCall : PathSource → Option Mode → StoreCall → Type 0
IsAddCall paths mode (call.Command (command.Add path bytes asked)) = (paths ≡ Words (path ∷ [])) × (asked ≡ mode)
IsAddCall paths mode (call.Command (command.Stage edits)) = Unit {0}
IsAddCall paths mode call.Nothing = Unit {0}
IsAddCall paths mode other = ⊥

-- the call that unstages what the words name, of the line or of its file
abbrev pub IsUnstageCall : PathSource → List (List ℕ) → StoreCall → Type 0
IsUnstageCall paths names (call.Unstage words listed) =
    (words ≡ words_of_source paths names) × (listed ≡ is_listed paths)
IsUnstageCall paths names other = ⊥

-- the run of these files and hooks, with these options; it is left open which hooks are skipped
abbrev pub IsRunOf : FileChoice → List (List ℕ) → Option (List ℕ) → StageChoice → Bool → RunChoice → Command → Type 0
IsRunOf files names only stage fresh choice (command.Run ask) =
    (ask.which ≡ which_of files names) × (ask.only ≡ only) × (ask.stage ≡ ask_stage_of_choice stage)
    × (ask.fresh ≡ fresh) × (ask.options ≡ options_of choice)
IsRunOf files names only stage fresh choice other = ⊥

-- the commit with this message; it is left open which hooks are skipped
abbrev pub IsCommitOf : List ℕ → Bool → Command → Type 0
IsCommitOf message no_verify (command.Commit said bypassed skip) = (said ≡ message) × (bypassed ≡ no_verify)
IsCommitOf message no_verify other = ⊥

-- the run of all hooks of a stage on these files, with these options; it is left open which hooks are skipped
abbrev pub IsRunAtStage : Which → AskStage → Bool → HookChoice → Command → Type 0
IsRunAtStage files stage fresh choice (command.Run ask) =
    (ask.which ≡ files) × (ask.only ≡ None) × (ask.stage ≡ stage) × (ask.fresh ≡ fresh)
    × (ask.options ≡ options_of_hook choice)
IsRunAtStage files stage fresh choice other = ⊥

-- the hooks of a stage about a message, with these options; it is left open which hooks are skipped
abbrev pub IsStageAsk : MessageStage → Bool → HookChoice → MessageAsk → Type 0
IsStageAsk stage fresh choice ask =
    (ask.stage ≡ stage) × (ask.fresh ≡ fresh) × (ask.options ≡ options_of_hook choice)

-- the call that makes the run of a stage's hooks on these files, and how its report is shown
abbrev pub IsStageCall : Which → AskStage → Bool → HookChoice → StoreCall → Type 0
IsStageCall files stage fresh choice (call.HookCommand asked shown children) =
    IsRunAtStage files stage fresh choice asked × (shown.color ≡ choice.color) × (shown.has_durations ≡ false)
IsStageCall files stage fresh choice other = ⊥

-- the call that runs a stage's hooks on the message in the file of this name
abbrev pub IsMessageCall : MessageStage → Bool → HookChoice → List ℕ → List ℕ → StoreCall → Type 0
IsMessageCall stage fresh choice name message (call.MessageHooks ask file color children) =
    IsStageAsk stage fresh choice ask × (file.name ≡ name) × (file.bytes ≡ message) × (color ≡ choice.color)
IsMessageCall stage fresh choice name message other = ⊥

-- What the hooks of a stage of a commit ask of the store. Those of `pre-commit` run on the files that differ from
-- the last commit, those of `post-commit` on none, and the others on the message in their file.
abbrev pub IsHookCall : CommitHook → Bool → HookChoice → List ℕ → StoreCall → Type 0
IsHookCall commit_hook.PreCommit fresh choice message asked =
    IsStageCall which.Changed ask_stage.PreCommit fresh choice asked
IsHookCall commit_hook.PostCommit fresh choice message asked =
    IsStageCall (which.Named []) ask_stage.PostCommit fresh choice asked
IsHookCall (commit_hook.PrepareCommitMsg name) fresh choice message asked =
    IsMessageCall message_stage.PrepareCommitMsg fresh choice name message asked
IsHookCall (commit_hook.CommitMsg name) fresh choice message asked =
    IsMessageCall message_stage.CommitMsg fresh choice name message asked

-- What an update asks of the store: its command, with children if hooks run in it. What `rm` unstages depends
-- on what is staged, so these are words. `names` are those that the file of the line lists, and `message` is what
-- the file of the message holds.
abbrev pub IsCallOf : Update → List (List ℕ) → List ℕ → StoreCall → Type 0
IsCallOf (Add paths mode) names message asked = IsAddCall paths mode asked
IsCallOf (Remove paths) names message asked = IsUnstageCall paths names asked
IsCallOf (Run files only stage fresh choice) names message (call.HookCommand asked shown children) =
    IsRunOf files names only stage fresh choice asked
IsCallOf (Hook hook fresh choice) names message asked = IsHookCall hook fresh choice message asked
IsCallOf Accept names message (call.Command asked) = asked ≡ command.Accept
IsCallOf (Commit text no_verify color jobs) names message (call.HookCommand asked shown children) =
    IsCommitOf text no_verify asked
IsCallOf Forget names message (call.Command asked) = asked ≡ command.Forget
IsCallOf (Limit limit) names message (call.Command asked) = asked ≡ command.Limit limit
IsCallOf update names message other = ⊥

-- the hooks that a variable of the environment skips: none if it isn't set or isn't UTF-8
abbrev pub skipped_by : {A : Type 0} → Result (String A) VarError → List (List ℕ)
skipped_by (Ok text) = skip_list (string_bytes text)
skipped_by (Err error) = []
