-- The keys that their table doesn't know, in the order of the text. The unknown keys of a repository or a
-- hook come at the place of its table.
use Rattle.std.specs.Prelude.{ℕ, List, [], ◌∷◌, if◌then◌else◌, bytes_eq, unwrap_or}
use Rattle.std.specs.List.{flat_map}
use Rattle.yaml_lines.specs.Meaning.{Meaning}
use Rattle.hook_config.specs.Rows.{ConfigurationRow, table_of, list_of}
use Rattle.hook_config.specs.KnownKeys.{is_key, top_keys, repository_keys, hook_keys}
use Rattle.hook_config.specs.declared.known_keys.KeyKind.{KeyKind}
use Rattle.hook_config.specs.KnownKeys as key

-- a table's rows, or none if the value is no table
abbrev pub rows_in : Meaning → List ConfigurationRow
rows_in value = unwrap_or (table_of value) []

-- a list's items, or none if the value is no list
abbrev pub items_in : Meaning → List Meaning
items_in value = unwrap_or (list_of value) []

-- the word, unless one of these keys has it
abbrev pub unless_known : List (List ℕ × KeyKind) → List ℕ → List (List ℕ)
unless_known known word = if is_key known word then [] else word ∷ []

-- the row's key, unless it is known
abbrev pub unknown_key : List (List ℕ × KeyKind) → ConfigurationRow → List (List ℕ)
unknown_key known row = unless_known known row.0

abbrev pub unknown_of_hook : Meaning → List (List ℕ)
unknown_of_hook value = flat_map (unknown_key hook_keys) (rows_in value)

-- the row's key, unless it is known; at `hooks` the unknown keys of the hooks
abbrev pub unknown_of_repository_row : ConfigurationRow → List (List ℕ)
unknown_of_repository_row row =
    if bytes_eq row.0 key.hooks.word then flat_map unknown_of_hook (items_in row.1) else unknown_key repository_keys row

abbrev pub unknown_of_repository : Meaning → List (List ℕ)
unknown_of_repository value = flat_map unknown_of_repository_row (rows_in value)

-- the row's key, unless it is known; at `repos` the unknown keys of the repositories
abbrev pub unknown_of_top_row : ConfigurationRow → List (List ℕ)
unknown_of_top_row row =
    if bytes_eq row.0 key.repos.word then flat_map unknown_of_repository (items_in row.1) else unknown_key top_keys row

abbrev pub unknown_of_top : List ConfigurationRow → List (List ℕ)
unknown_of_top = flat_map unknown_of_top_row
