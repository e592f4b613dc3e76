-- The hooks of all repositories of a configuration.
use Rattle.std.specs.Prelude.{ℕ, List, [], ◌∷◌, ◌++◌, length, if◌then◌else◌, nat_le, bytes_eq, Option, Some, None, option_map, option_and_then}
use Rattle.yaml_lines.specs.Meaning.{Meaning}
use Rattle.hook_config.specs.Rows.{ConfigurationRow, table_of}
use Rattle.hook_config.specs.HookTable.{hook_of}
use Rattle.hook_config.specs.declared.configuration.Hook.{Hook}
use Rattle.hook_config.specs.declared.stage.Stages.{Stages}
use Rattle.hook_config.specs.KnownKeys.{at_key, local_word}
use Rattle.hook_config.specs.KnownKeys as key
use Rattle.hook_config.specs.Limits.{most_hooks}

-- the lists that f gives for each value, joined, or none if it gives none for one of them
abbrev pub joined_lists : {A B : Type 0} → (A → Option (List B)) → List A → Option (List B)
joined_lists f [] = Some []
joined_lists f (x ∷ xs) = option_and_then (λ ys. option_map (λ rest. ys ++ rest) (joined_lists f xs)) (f x)

-- the one hook of a hook's table
abbrev pub hook_alone : Stages → Meaning → Option (List Hook)
hook_alone default value = option_map (λ hook. hook ∷ []) (hook_of default value)

-- the hooks of a list of hook tables
abbrev pub hooks_of_list : Stages → List Meaning → Option (List Hook)
hooks_of_list default = joined_lists (hook_alone default)

abbrev pub hooks_of_named : Stages → List ConfigurationRow → List ℕ → Option (List Hook)
hooks_of_named default rows repository =
    if bytes_eq repository local_word then option_and_then (hooks_of_list default) (at_key key.hooks rows) else None

-- the hooks of a repository's table, if that repository is `local` (pre-commit.com, "Repository local hooks")
abbrev pub hooks_of_rows : Stages → List ConfigurationRow → Option (List Hook)
hooks_of_rows default rows = option_and_then (hooks_of_named default rows) (at_key key.repo rows)

abbrev pub hooks_of_repository : Stages → Meaning → Option (List Hook)
hooks_of_repository default value = option_and_then (hooks_of_rows default) (table_of value)

-- the hooks, or none if there are too many
abbrev pub within_hook_limit : List Hook → Option (List Hook)
within_hook_limit hooks = if nat_le (length hooks) most_hooks then Some hooks else None

-- the hooks before, with those that were found after them
abbrev pub after : List Hook → Option (List Hook) → Option (List Hook)
after before found = option_and_then (λ hooks. within_hook_limit (before ++ hooks)) found

-- the hooks of all repositories; a hook that names no stages has these
abbrev pub hooks_of_repositories : Stages → List Meaning → Option (List Hook)
hooks_of_repositories default repositories =
    option_and_then within_hook_limit (joined_lists (hooks_of_repository default) repositories)
