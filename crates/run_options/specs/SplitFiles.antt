-- How many file names each command of a hook gets in a cautious run. (docs/REFERENCE.md, "Known tools".)
use Rattle.std.specs.Prelude.{ℕ, Bool, true, false, not, ◌==◌, ◌&&◌, if◌then◌else◌, List, [], ◌∷◌, codes, nat_eq, Option, Some, None}
use Rattle.std.specs.List.{list_any, starts_with}
use Rattle.std.specs.Str.{bytes_eq}
use Rattle.hook_config.specs.Limits.{most_names}
use Rattle.hook_config.specs.declared.configuration.Hook.{Hook}
use Rattle.hook_config.specs.declared.configuration.Language.{Language}
use Rattle.hook_config.specs.declared.configuration.Language.TheVariants.{Fail, Pygrep, System, Script}
use Rattle.run_options.specs.Harmless.{are_harmless}
use Rattle.run_options.specs.Tools.{Tool, tool_in, tool_rows}
use Rattle.run_options.specs.declared.tools.Verdict.{Verdict}
use Rattle.run_options.specs.declared.tools.Verdict.TheVariants.{OfEach, OfAll}

-- the most names that each of the commands gets if the files of a hook are split
abbrev pub split_names : ℕ
split_names = 100

-- an option that says how many warnings all files may have together
abbrev pub is_sum_option : List ℕ → Bool
is_sum_option word = starts_with (λ a b. a == b) word (codes "--max-warnings=")

-- the same, if they may have any
abbrev pub limits_sum : List ℕ → Bool
limits_sum word = is_sum_option word && not (bytes_eq word (codes "--max-warnings=0"))

abbrev pub is_of_each : Verdict → Bool
is_of_each OfEach = true
is_of_each OfAll = false

-- the tool is known, the words after its name are harmless, and neither looks at the files together
abbrev pub tool_splits : Option Tool → List (List ℕ) → Bool
tool_splits None words = false
tool_splits (Some tool) words =
    is_of_each tool.verdict && (are_harmless tool.kind words && not (list_any limits_sum words))

-- whether the files of a command with these words may be split among several
abbrev pub can_split : List (List ℕ) → Bool
can_split [] = false
can_split (name ∷ words) = tool_splits (tool_in tool_rows name) words

-- a script of the repository may do anything, and the other languages start no command
abbrev pub language_splits : Language → Bool
language_splits Fail = false
language_splits (Pygrep search) = false
language_splits (System words) = can_split words
language_splits (Script words) = false

-- the hook gets the names of its files and only if there are some, may have several commands at once, and
-- doesn't say itself how many names each gets
abbrev pub may_split : Hook → Bool
may_split hook =
    nat_eq hook.x_at_most most_names
    && (not hook.require_serial && (hook.pass_filenames && not hook.always_run))

-- the most names that each command of the hook gets
abbrev pub new_most_names : Hook → ℕ
new_most_names hook = if may_split hook && language_splits hook.language then split_names else hook.x_at_most
