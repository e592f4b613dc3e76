-- The hook that a table of a configuration describes (pre-commit.com, "Creating new hooks"). Its fields
-- are read group by group. (docs/REFERENCE.md, "The configuration's keys".)
use Rattle.std.specs.Prelude.{List, Option, Some, option_and_then}
use Rattle.yaml_lines.specs.Meaning.{Meaning}
use Rattle.hook_config.specs.Rows.{ConfigurationRow, table_of}
use Rattle.hook_config.specs.Kinds.{given}
use Rattle.hook_config.specs.Languages.{language_of}
use Rattle.hook_config.specs.declared.configuration.Hook.{Hook}
use Rattle.hook_config.specs.declared.hook_parts.CommandKeys.{CommandKeys}
use Rattle.hook_config.specs.declared.hook_parts.Conditions.{Conditions}
use Rattle.hook_config.specs.declared.hook_parts.Names.{Names}
use Rattle.hook_config.specs.declared.hook_parts.Reads.{Reads}
use Rattle.hook_config.specs.declared.hook_parts.Selection.{Selection}
use Rattle.hook_config.specs.declared.hook_parts.Switches.{Switches}
use Rattle.hook_config.specs.declared.hook_parts.Unserved.{Unserved}
use Rattle.hook_config.specs.declared.stage.Stages.{Stages}
use Rattle.hook_config.specs.KnownKeys.{at_key}
use Rattle.hook_config.specs.KnownKeys as key

-- none if one of them isn't empty: neither is served
unfoldable pub unserved_of : List ConfigurationRow → Option Unserved
unserved_of rows =
    given (at_key key.log_file rows) (λ log_file.
    given (at_key key.additional_dependencies rows) (λ additional_dependencies.
    Some (record {
      log_file = log_file;
      additional_dependencies = additional_dependencies;
    })))

unfoldable pub hook_names_of : List ConfigurationRow → Option Names
hook_names_of rows =
    given (at_key key.id rows) (λ id.
    given (at_key key.name rows) (λ name.
    given (at_key key.alias rows) (λ alias.
    Some (record {
      id = id;
      name = name;
      alias = alias;
    }))))

-- the language is the one of that name, for the entry and its arguments
unfoldable pub command_keys_of : List ConfigurationRow → Option CommandKeys
command_keys_of rows =
    given (at_key key.language rows) (λ name.
    given (at_key key.entry rows) (λ entry.
    given (at_key key.args rows) (λ args.
    given (language_of name entry args) (λ language.
    Some (record {
      language = language;
      entry = entry;
      args = args;
    })))))

unfoldable pub selection_of : List ConfigurationRow → Option Selection
selection_of rows =
    given (at_key key.files rows) (λ files.
    given (at_key key.exclude rows) (λ exclude.
    given (at_key key.types rows) (λ types.
    given (at_key key.types_or rows) (λ types_or.
    given (at_key key.exclude_types rows) (λ exclude_types.
    Some (record {
      files = files;
      exclude = exclude;
      types = types;
      types_or = types_or;
      exclude_types = exclude_types;
    }))))))

-- with these default stages
unfoldable pub switches_of : Stages → List ConfigurationRow → Option Switches
switches_of default rows =
    given (at_key (key.stages default) rows) (λ stages.
    given (at_key key.always_run rows) (λ always_run.
    given (at_key key.verbose rows) (λ verbose.
    given (at_key key.pass_filenames rows) (λ pass_filenames.
    given (at_key key.fail_fast rows) (λ fail_fast.
    given (at_key key.require_serial rows) (λ require_serial.
    Some (record {
      stages = stages;
      always_run = always_run;
      verbose = verbose;
      pass_filenames = pass_filenames;
      fail_fast = fail_fast;
      require_serial = require_serial;
    })))))))

unfoldable pub reads_of : List ConfigurationRow → Option Reads
reads_of rows =
    given (at_key key.x_reads rows) (λ x_reads.
    given (at_key key.x_per_file rows) (λ x_per_file.
    given (at_key key.x_at_most rows) (λ x_at_most.
    Some (record {
      x_reads = x_reads;
      x_per_file = x_per_file;
      x_at_most = x_at_most;
    }))))

-- the groups after the command, with these default stages
unfoldable pub conditions_of : Stages → List ConfigurationRow → Option Conditions
conditions_of default rows =
    given (selection_of rows) (λ selection.
    given (switches_of default rows) (λ switches.
    given (reads_of rows) (λ reads.
    Some (record {
      selection = selection;
      switches = switches;
      reads = reads;
    }))))

-- the hook with the fields of these groups
unfoldable pub hook_of_groups : Unserved → Names → CommandKeys → Conditions → Hook
hook_of_groups unserved names command conditions = record {
  id = names.id;
  name = names.name;
  alias = names.alias;
  language = command.language;
  entry = command.entry;
  args = command.args;
  files = conditions.selection.files;
  exclude = conditions.selection.exclude;
  types = conditions.selection.types;
  types_or = conditions.selection.types_or;
  exclude_types = conditions.selection.exclude_types;
  stages = conditions.switches.stages;
  always_run = conditions.switches.always_run;
  verbose = conditions.switches.verbose;
  pass_filenames = conditions.switches.pass_filenames;
  fail_fast = conditions.switches.fail_fast;
  require_serial = conditions.switches.require_serial;
  x_reads = conditions.reads.x_reads;
  x_per_file = conditions.reads.x_per_file;
  x_at_most = conditions.reads.x_at_most;
  log_file = unserved.log_file;
  additional_dependencies = unserved.additional_dependencies;
}

-- the hook of a table's rows, whose first groups are these
unfoldable pub hook_with : Stages → List ConfigurationRow → Unserved → Names → CommandKeys → Option Hook
hook_with default rows unserved names command =
    given (conditions_of default rows) (λ conditions. Some (hook_of_groups unserved names command conditions))

-- the hook of a table's rows, with these default stages
unfoldable pub hook_of_fields : Stages → List ConfigurationRow → Option Hook
hook_of_fields default rows =
    given (unserved_of rows) (λ unserved.
    given (hook_names_of rows) (λ names.
    given (command_keys_of rows) (λ command.
    hook_with default rows unserved names command)))

abbrev pub hook_of : Stages → Meaning → Option Hook
hook_of default value = option_and_then (hook_of_fields default) (table_of value)
