-- The command line of the program, as `clap` sees it, and what a line of words asks for.
use Rattle.std.specs.Prelude.{◌≡◌, Bool, ◌-◌, ◌^◌, ℕ, List, [], ◌∷◌, Option, Some, None, Result, MatchResult, true, false, codes, fold, option_and_then, option_map, unwrap_or, if◌then◌else◌}
use Rattle.std.specs.List.{list_any}
use Rattle.std.specs.Str.{bytes_eq}
use Rattle.std.specs.Str.Parse.{digits_value, without_leading_plus}
use Rattle.clap.specs.Words.{App, HasKind, Row, Rule, Text, all_of, fault_of, first_of, new_app, new_rule, subcommand_of, with_rule, with_subcommand}
use Rattle.clap.specs.Kinds.{Kinds, or_else}
use Rattle.clap.specs.Simple.{on_top}
use Rattle.clap.specs.Lexer.{usize_max}
use Rattle.clap.specs.ValueTests.{is_unsigned_in}
use Rattle.clap.specs.declared.builder.action.ArgAction.TheVariants.{SetTrue}
use Rattle.clap.specs.declared.error.Error.{Error}
use Rattle.clap.specs.declared.error.kind.ErrorKind.TheVariants.{InvalidValue}
use Rattle.hook_base.specs.declared.file.Mode.{Mode}
use Rattle.hook_base.specs.declared.file.Mode.TheVariants.{Executable}
use Rattle.store_faults.specs.Limits.{most_answers}
use Rattle.command_line.specs.MessageWords.{words_for_clap}
use Rattle.command_line.specs.declared.line.ColorChoice.{ColorChoice}
use Rattle.command_line.specs.declared.line.ColorChoice.TheVariants.{Auto, Always, Never}
use Rattle.command_line.specs.declared.line.CommitHook.{CommitHook}
use Rattle.command_line.specs.declared.line.CommitHook.TheVariants.{PrepareCommitMsg, CommitMsg, PostCommit, PreCommit as PreCommitHook}
use Rattle.command_line.specs.declared.line.FileChoice.{FileChoice}
use Rattle.command_line.specs.declared.line.FileChoice.TheVariants.{Changed, All, Named, Listed as ListedFiles}
use Rattle.command_line.specs.declared.line.FileVersion.{FileVersion}
use Rattle.command_line.specs.declared.line.FileVersion.TheVariants.{Staged, Fixed, Committed}
use Rattle.command_line.specs.declared.line.HookChoice.{HookChoice}
use Rattle.command_line.specs.declared.line.CommandLine.{CommandLine}
use Rattle.command_line.specs.declared.line.PathSource.{PathSource}
use Rattle.command_line.specs.declared.line.PathSource.TheVariants.{Words, Listed}
use Rattle.command_line.specs.declared.line.RunChoice.{RunChoice}
use Rattle.command_line.specs.declared.line.StageChoice.{StageChoice}
use Rattle.command_line.specs.declared.line.StageChoice.TheVariants.{PreCommit, Manual}
use Rattle.command_line.specs.declared.line.CommandLine.TheVariants as line
use Rattle.command_line.specs.declared.line.LookUp.TheVariants.{Status, Fixes, Cat, Log, Show, Memory}
use Rattle.command_line.specs.declared.line.Standalone.TheVariants.{Init, Try, Check, Explain}
use Rattle.command_line.specs.declared.line.Update.TheVariants.{Add, Remove, Run, Hook, Accept, Commit, Forget, Limit}

-- ---- the commands and their values, as `clap` takes them

-- a value of one word
abbrev pub word_rule : Text → Rule
word_rule id = record (new_rule id) { required = true }

-- a value of one word or more
abbrev pub words_rule : Text → Rule
words_rule id = record (word_rule id) {
  range = Some (record { start_inclusive = 1; end_inclusive = usize_max });
}

-- a value of any number of words
abbrev pub optional_words_rule : Text → Rule
optional_words_rule id = record (new_rule id) {
  range = Some (record { start_inclusive = 1; end_inclusive = usize_max });
}

-- `--paths-from=FILE`, which may be left out
abbrev pub paths_from_rule : Rule
paths_from_rule = record (new_rule (codes "paths-from")) { long = Some (codes "paths-from"); value_names = 1 }

-- `--chmod=MODE`, which may be left out
abbrev pub chmod_rule : Rule
chmod_rule = record (new_rule (codes "chmod")) { long = Some (codes "chmod"); value_names = 1 }

-- `--NAME`, which takes no value
abbrev pub flag_rule : Text → Rule
flag_rule name = record (new_rule name) { long = Some name; action = Some SetTrue }

-- `--hook-stage=STAGE`, which may be left out
abbrev pub stage_rule : Rule
stage_rule = record (new_rule (codes "hook-stage")) { long = Some (codes "hook-stage"); value_names = 1 }

-- `--color=WHEN`, which may be left out
abbrev pub color_rule : Rule
color_rule = record (new_rule (codes "color")) { long = Some (codes "color"); value_names = 1 }

-- `--jobs=N`, which may be left out
abbrev pub jobs_rule : Rule
jobs_rule = record (new_rule (codes "jobs")) { long = Some (codes "jobs"); value_names = 1 }

-- `--only=ID`, which may be left out
abbrev pub only_rule : Rule
only_rule = record (new_rule (codes "only")) { long = Some (codes "only"); value_names = 1 }

-- `--commit=N`, which may be left out
abbrev pub commit_rule : Rule
commit_rule = record (new_rule (codes "commit")) { long = Some (codes "commit"); value_names = 1 }

-- `--limit=N`, which may be left out
abbrev pub limit_rule : Rule
limit_rule = record (new_rule (codes "limit")) { long = Some (codes "limit"); value_names = 1 }

-- `-m TEXT`: 109 is the character `m`
abbrev pub message_rule : Rule
message_rule = record (new_rule (codes "message")) { short = Some 109; value_names = 1; required = true }

abbrev pub init_app : App
init_app = new_app (codes "init")

-- `try [--color=WHEN] [--jobs=N] CONFIG PATH..`
abbrev pub try_app : App
try_app =
    with_rule (with_rule (with_rule (with_rule (new_app (codes "try")) color_rule) jobs_rule)
    (word_rule (codes "CONFIG"))) (words_rule (codes "PATH"))

abbrev pub check_app : App
check_app = new_app (codes "check")

-- `explain [FILE]`
abbrev pub explain_app : App
explain_app = with_rule (new_app (codes "explain")) (new_rule (codes "FILE"))

-- `add [--chmod=MODE] [--paths-from=FILE] [PATH..]`
abbrev pub add_app : App
add_app =
    with_rule (with_rule (with_rule (new_app (codes "add")) chmod_rule) paths_from_rule)
    (optional_words_rule (codes "PATH"))

-- `rm [--paths-from=FILE] [PATH..]`
abbrev pub remove_app : App
remove_app = with_rule (with_rule (new_app (codes "rm")) paths_from_rule) (optional_words_rule (codes "PATH"))

abbrev pub status_app : App
status_app = new_app (codes "status")

-- after the options of a run `[--cautious] [--verbose] [--color=WHEN] [--jobs=N]`
abbrev pub with_choice : App → App
with_choice app =
    with_rule (with_rule (with_rule (with_rule app (flag_rule (codes "cautious"))) (flag_rule (codes "verbose")))
    color_rule) jobs_rule

-- `run [--all-files] [--hook-stage=STAGE] [--fresh] [--cautious] [--verbose] [--color=WHEN] [--jobs=N]`
abbrev pub run_with_options_app : App
run_with_options_app =
    with_choice (with_rule (with_rule (with_rule (new_app (codes "run")) (flag_rule (codes "all-files"))) stage_rule)
    (flag_rule (codes "fresh")))

-- after them `[ID]`
abbrev pub run_app : App
run_app = with_rule run_with_options_app (new_rule (codes "ID"))

-- `run-files [--only=ID] [--hook-stage=STAGE] [--fresh] [--cautious] [--verbose] [--color=WHEN] [--jobs=N]`
abbrev pub run_files_with_options_app : App
run_files_with_options_app =
    with_choice (with_rule (with_rule (with_rule (new_app (codes "run-files")) only_rule) stage_rule)
    (flag_rule (codes "fresh")))

-- after them `[--paths-from=FILE] [PATH..]`
abbrev pub run_files_app : App
run_files_app = with_rule (with_rule run_files_with_options_app paths_from_rule) (optional_words_rule (codes "PATH"))

-- `hook [--fresh] [--cautious] [--color=WHEN] [--jobs=N]`
abbrev pub hook_with_options_app : App
hook_with_options_app =
    with_rule (with_rule (with_rule (with_rule (new_app (codes "hook")) (flag_rule (codes "fresh")))
    (flag_rule (codes "cautious"))) color_rule) jobs_rule

-- after them `STAGE [FILE]`
abbrev pub hook_app : App
hook_app = with_rule (with_rule hook_with_options_app (word_rule (codes "STAGE"))) (new_rule (codes "FILE"))

abbrev pub fixes_app : App
fixes_app = new_app (codes "fixes")

abbrev pub accept_app : App
accept_app = new_app (codes "accept")

-- `commit [--no-verify] [--color=WHEN] [--jobs=N] -m TEXT`
abbrev pub commit_app : App
commit_app =
    with_rule (with_rule (with_rule (with_rule (new_app (codes "commit")) (flag_rule (codes "no-verify"))) color_rule)
    jobs_rule) message_rule

-- `cat [--fixed] [--commit=N] PATH`
abbrev pub cat_app : App
cat_app =
    with_rule (with_rule (with_rule (new_app (codes "cat")) (flag_rule (codes "fixed"))) commit_rule)
    (word_rule (codes "PATH"))

abbrev pub log_app : App
log_app = new_app (codes "log")

-- `show N`
abbrev pub show_app : App
show_app = with_rule (new_app (codes "show")) (word_rule (codes "N"))

-- `memory [--limit=N]`
abbrev pub memory_app : App
memory_app = with_rule (new_app (codes "memory")) limit_rule

abbrev pub forget_app : App
forget_app = new_app (codes "forget")

abbrev pub with_commands : App → List App → App
with_commands = fold (λ app command. with_subcommand app command.top)

-- the program without its name: it needs a command, and has a version
abbrev pub hookhost_base : App
hookhost_base = on_top (λ s. record s {
  has_version = true;
  no_binary_name = true;
  disable_help_subcommand = true;
  subcommand_required = true;
}) (new_app (codes "hookhost"))

abbrev pub all_commands : List App
all_commands =
    init_app ∷ try_app ∷ check_app ∷ explain_app ∷ add_app ∷ remove_app ∷ status_app ∷ cat_app ∷ run_app ∷ run_files_app
    ∷ hook_app ∷ fixes_app ∷ accept_app
    ∷ commit_app ∷ log_app ∷ show_app ∷ memory_app ∷ forget_app ∷ []

abbrev pub hookhost_app : App
hookhost_app = with_commands hookhost_base all_commands

-- the name is one of the commands'
abbrev pub is_command : Text → Bool
is_command name = list_any (λ (command : App). bytes_eq name command.top.name) all_commands

-- ---- what the values say

-- a value of one word
abbrev pub word_in : Text → List Row → Text
word_in id rows = unwrap_or (first_of id rows) []

-- a value of several words
abbrev pub words_in : Text → List Row → List Text
words_in id rows = unwrap_or (all_of id rows) []

-- whether a flag is given: its value is then "true"
abbrev pub flag_in : Text → List Row → Bool
flag_in name rows = bytes_eq (word_in name rows) (codes "true")

-- the mode that `--chmod` asks for. `Some None` means that it is left out, `None` that its value can't be
-- taken
abbrev pub mode_in : Option Text → Option (Option Mode)
mode_in None = Some None
mode_in (Some text) = if bytes_eq text (codes "+x") then Some (Some Executable) else None

-- the stage that `--hook-stage` asks for, `pre-commit` if it is left out
abbrev pub asked_stage_in : Option Text → Option StageChoice
asked_stage_in None = Some PreCommit
asked_stage_in (Some text) =
    if bytes_eq text (codes "pre-commit") then Some PreCommit else
    (if bytes_eq text (codes "manual") then Some Manual else None)

-- the hooks of a stage that takes no file
abbrev pub without_file : CommitHook → Option Text → Option CommitHook
without_file hook None = Some hook
without_file hook (Some file) = None

-- the hooks of the stage that STAGE names. Those about a message need FILE, and the others take none
abbrev pub commit_hook_in : Text → Option Text → Option CommitHook
commit_hook_in stage file =
    if bytes_eq stage (codes "pre-commit") then without_file PreCommitHook file
    else (if bytes_eq stage (codes "prepare-commit-msg") then option_map PrepareCommitMsg file
    else (if bytes_eq stage (codes "commit-msg") then option_map CommitMsg file
    else (if bytes_eq stage (codes "post-commit") then without_file PostCommit file else None)))

-- when a report has colors, as `--color` asks for it, `auto` if it is left out
abbrev pub color_in : Option Text → Option ColorChoice
color_in None = Some Auto
color_in (Some text) =
    if bytes_eq text (codes "auto") then Some Auto
    else (if bytes_eq text (codes "always") then Some Always else
    (if bytes_eq text (codes "never") then Some Never else None))

-- the staged files that the hooks of `run` may get
abbrev pub files_in : List Row → FileChoice
files_in rows = if flag_in (codes "all-files") rows then All else Changed

-- the number of 32 bits that decimal digits write, which a `+` may precede
abbrev pub number_in : Text → Option ℕ
number_in text =
    if is_unsigned_in 0 (2 ^ 32 - 1) text then Some (digits_value 10 (without_leading_plus text)) else None

-- the number from 1 to the most that a text writes: decimal digits, which a `+` may precede
abbrev pub number_up_to : ℕ → Text → Option ℕ
number_up_to most text =
    if is_unsigned_in 1 most text then Some (digits_value 10 (without_leading_plus text)) else None

-- such a number that may be left out. `Some None` means that it is, `None` that its text can't be taken
abbrev pub maybe_up_to : ℕ → Option Text → Option (Option ℕ)
maybe_up_to most None = Some None
maybe_up_to most (Some text) = option_map Some (number_up_to most text)

-- the limit that a text writes, from 1 to 100,000
abbrev pub limit_number : Text → Option ℕ
limit_number text = number_up_to most_answers text

-- the limit that `--limit` asks for
abbrev pub limit_in : Option Text → Option (Option ℕ)
limit_in given = maybe_up_to most_answers given

-- the most commands of hooks that a line may let run at the same time
abbrev pub most_jobs : ℕ
most_jobs = 256

-- the number of commands that a text writes, from 1 to 256
abbrev pub jobs_number : Text → Option ℕ
jobs_number text = number_up_to most_jobs text

-- how many commands may run at the same time, as `--jobs` asks for it
abbrev pub jobs_in : Option Text → Option (Option ℕ)
jobs_in given = maybe_up_to most_jobs given

-- the bytes that `--fixed` or `--commit` asks for, a commit's by its number; both together can't be taken
abbrev pub version_in : Bool → Option Text → Option FileVersion
version_in true None = Some Fixed
version_in false None = Some Staged
version_in true (Some text) = None
version_in false (Some text) = option_map Committed (number_in text)

-- where the paths are written: in words or in the file that `--paths-from` names, and not in both
abbrev pub source_in : List Text → Option Text → Option PathSource
source_in [] None = None
source_in (word ∷ words) None = Some (Words (word ∷ words))
source_in [] (Some from) = Some (Listed from)
source_in (word ∷ words) (Some from) = None

abbrev pub paths_in : List Row → Option PathSource
paths_in rows = source_in (words_in (codes "PATH") rows) (first_of (codes "paths-from") rows)

-- ---- what a line of words asks for

abbrev pub try_line : List Row → Option CommandLine
try_line rows =
    option_and_then
    (λ (color : ColorChoice). option_map
    (λ (jobs : Option ℕ). line.Standalone
    (Try (word_in (codes "CONFIG") rows) (words_in (codes "PATH") rows) color jobs))
    (jobs_in (first_of (codes "jobs") rows))) (color_in (first_of (codes "color") rows))

abbrev pub explain_line : List Row → CommandLine
explain_line rows = line.Standalone (Explain (first_of (codes "FILE") rows))

abbrev pub add_line : List Row → Option CommandLine
add_line rows =
    option_and_then (λ (paths : PathSource). option_map (λ (mode : Option Mode). line.Update (Add paths mode))
    (mode_in (first_of (codes "chmod") rows)))
    (paths_in rows)

abbrev pub remove_line : List Row → Option CommandLine
remove_line rows = option_map (λ (paths : PathSource). line.Update (Remove paths)) (paths_in rows)

-- what `--cautious`, `--verbose`, `--color` and `--jobs` ask of a run
abbrev pub choice_in : List Row → Option RunChoice
choice_in rows =
    option_and_then
    (λ (color : ColorChoice). option_map
    (λ (jobs : Option ℕ). record {
      cautious = flag_in (codes "cautious") rows;
      verbose = flag_in (codes "verbose")
          rows;
      color = color;
      jobs = jobs;
    })
    (jobs_in (first_of (codes "jobs") rows))) (color_in (first_of (codes "color") rows))

abbrev pub run_line : List Row → Option CommandLine
run_line rows =
    option_and_then
    (λ (stage : StageChoice). option_map
    (λ (choice : RunChoice). line.Update (Run (files_in rows) (first_of (codes "ID") rows) stage
    (flag_in (codes "fresh") rows) choice))
    (choice_in rows)) (asked_stage_in (first_of (codes "hook-stage") rows))

-- the files that are named, in words or in a file
abbrev pub named_in : PathSource → FileChoice
named_in (Words paths) = Named paths
named_in (Listed from) = ListedFiles from

abbrev pub run_files_line : List Row → Option CommandLine
run_files_line rows =
    option_and_then
    (λ (paths : PathSource). option_and_then
    (λ (stage : StageChoice). option_map
    (λ (choice : RunChoice). line.Update (Run (named_in paths) (first_of (codes "only") rows) stage
    (flag_in (codes "fresh") rows) choice))
    (choice_in rows)) (asked_stage_in (first_of (codes "hook-stage") rows))) (paths_in rows)

-- what `--cautious`, `--color` and `--jobs` ask of the hooks of a stage
abbrev pub hook_choice_in : List Row → Option HookChoice
hook_choice_in rows =
    option_and_then
    (λ (color : ColorChoice). option_map
    (λ (jobs : Option ℕ). record { cautious = flag_in (codes "cautious") rows; color = color; jobs = jobs })
    (jobs_in (first_of (codes "jobs") rows))) (color_in (first_of (codes "color") rows))

abbrev pub hook_line : List Row → Option CommandLine
hook_line rows =
    option_and_then
    (λ (choice : HookChoice). option_map
    (λ (hook : CommitHook). line.Update (Hook hook (flag_in (codes "fresh") rows) choice))
    (commit_hook_in (word_in (codes "STAGE") rows) (first_of (codes "FILE") rows))) (hook_choice_in rows)

abbrev pub commit_line : List Row → Option CommandLine
commit_line rows =
    option_and_then
    (λ (color : ColorChoice). option_map
    (λ (jobs : Option ℕ). line.Update
    (Commit (word_in (codes "message") rows) (flag_in (codes "no-verify") rows) color jobs))
    (jobs_in (first_of (codes "jobs") rows))) (color_in (first_of (codes "color") rows))

abbrev pub cat_line : List Row → Option CommandLine
cat_line rows =
    option_map (λ (version : FileVersion). line.LookUp (Cat (word_in (codes "PATH") rows) version))
    (version_in (flag_in (codes "fixed") rows) (first_of (codes "commit") rows))

abbrev pub show_line : List Row → Option CommandLine
show_line rows = option_map (λ (number : ℕ). line.LookUp (Show number)) (number_in (word_in (codes "N") rows))

-- `memory` without a limit is a look-up, and with one a change
abbrev pub memory_by : Option ℕ → CommandLine
memory_by None = line.LookUp Memory
memory_by (Some limit) = line.Update (Limit limit)

abbrev pub memory_line : List Row → Option CommandLine
memory_line rows = option_map memory_by (limit_in (first_of (codes "limit") rows))

-- what a command asks for with its values, unless one of them can't be taken
abbrev pub line_by : Text → List Row → Option CommandLine
line_by name rows =
    if bytes_eq name (codes "init") then Some (line.Standalone Init)
    else (if bytes_eq name (codes "try") then try_line rows
    else (if bytes_eq name (codes "check") then Some (line.Standalone Check)
    else (if bytes_eq name (codes "explain") then Some (explain_line rows)
    else (if bytes_eq name (codes "status") then Some (line.LookUp Status)
    else (if bytes_eq name (codes "fixes") then Some (line.LookUp Fixes)
    else (if bytes_eq name (codes "cat") then cat_line rows
    else (if bytes_eq name (codes "log") then Some (line.LookUp Log)
    else (if bytes_eq name (codes "show") then show_line rows
    else (if bytes_eq name (codes "memory") then memory_line rows
    else (if bytes_eq name (codes "add") then add_line rows
    else (if bytes_eq name (codes "rm") then remove_line rows
    else (if bytes_eq name (codes "run") then run_line rows
    else (if bytes_eq name (codes "run-files") then run_files_line rows
    else (if bytes_eq name (codes "hook") then hook_line rows
    else (if bytes_eq name (codes "accept") then Some (line.Update Accept)
    else (if bytes_eq name (codes "commit") then commit_line rows
    else (if bytes_eq name (codes "forget") then Some (line.Update Forget) else None)))))))))))))))))

-- what the words that `clap` gets ask for: a command with its values, as it finds them
abbrev pub line_in : List Text → Option CommandLine
line_in words = option_and_then (λ p. line_by p.0 p.1) (subcommand_of hookhost_app words)

-- what the words of a line ask for
abbrev pub line_asked : List Text → Option CommandLine
line_asked words = line_in (words_for_clap words)

-- ---- what is refused

-- a value that can't be taken
abbrev pub value_fault : {T : Type 0} → Option T → Kinds
value_fault None = InvalidValue ∷ []
value_fault (Some value) = []

-- what is refused of the words that `clap` gets: what `clap` refuses, otherwise a value
abbrev pub line_fault_of : List Text → Kinds
line_fault_of words = or_else (fault_of hookhost_app words) (value_fault (line_in words))

-- what is refused of the words of a line
abbrev pub line_fault : List Text → Kinds
line_fault words = line_fault_of (words_for_clap words)

-- the result is the value that is asked for, or an error: that the value can't be taken, or want of memory
abbrev pub IsValueOf : {T : Type 0} → Option T → Result T Error → Type 0
IsValueOf asked result = MatchResult result (λ value. asked ≡ Some value) (HasKind (value_fault asked))
