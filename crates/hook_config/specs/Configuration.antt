-- The configuration that a text's bytes describe (pre-commit.com, "Adding pre-commit plugins to your
-- project").
use Rattle.std.specs.Prelude.{ℕ, List, Bool, Option, Some, option_and_then}
use Rattle.yaml_lines.specs.Meaning.{Meaning}
use Rattle.yaml_profile.specs.Text.{meaning_of}
use Rattle.hook_config.specs.Rows.{ConfigurationRow, table_of}
use Rattle.hook_config.specs.Kinds.{given}
use Rattle.hook_config.specs.Hooks.{hooks_of_repositories}
use Rattle.hook_config.specs.UnknownKeys.{unknown_of_top}
use Rattle.hook_config.specs.declared.configuration.Config.{Config}
use Rattle.hook_config.specs.declared.stage.Stages.{Stages}
use Rattle.hook_config.specs.KnownKeys.{at_key}
use Rattle.hook_config.specs.KnownKeys as key

-- the configuration of a table's rows with these patterns at the top; `fail_fast` says whether a run stops at
-- a failure
abbrev pub configuration_with : Stages → List ConfigurationRow → List ℕ → List ℕ → Bool → Option Config
configuration_with default rows files exclude fail_fast =
    given (at_key key.repos rows) (λ repositories.
    given (hooks_of_repositories default repositories) (λ hooks.
    Some (record {
      hooks = hooks;
      fail_fast = fail_fast;
      files = files;
      exclude = exclude;
      unknown = unknown_of_top rows;
    })))

-- the configuration of a table's rows with these default stages
abbrev pub configuration_by : Stages → List ConfigurationRow → Option Config
configuration_by default rows =
    given (at_key key.files rows) (λ files.
    given (at_key key.exclude rows) (λ exclude.
    given (at_key key.fail_fast rows) (λ fail_fast.
    configuration_with default rows files exclude fail_fast)))

-- the default stages hold for all hooks, wherever the key is in the table
unfoldable pub configuration_of_rows : List ConfigurationRow → Option Config
configuration_of_rows rows = given (at_key key.default_stages rows) (λ default. configuration_by default rows)

-- the configuration of a text's node
unfoldable pub configuration_of_meaning : Meaning → Option Config
configuration_of_meaning value = option_and_then configuration_of_rows (table_of value)

-- the configuration of a text's bytes
unfoldable pub configuration_of : List ℕ → Option Config
configuration_of bytes = option_and_then configuration_of_meaning (meaning_of bytes)
