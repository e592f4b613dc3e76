-- The configuration of a repository: the staged file that describes the hooks.
use Rattle.std.specs.Prelude.{◌≡◌, ◌≢◌, ℕ, List, None, Some, codes}
use Rattle.hook_base.specs.declared.file.FileEntry.{FileEntry}
use Rattle.hook_base.specs.Trees.{entry_of}
use Rattle.hook_config.specs.declared.configuration.Config.{Config}
use Rattle.hook_config.specs.declared.config_fault.ConfigFault.{ConfigFault}
use Rattle.hook_config.specs.declared.config_fault.ConfigKind.TheVariants as kind
use Rattle.hook_config.specs.Configuration.{configuration_of}
use Rattle.hook_config.specs.Gives.{UnlessLeftOpen}
use Rattle.hook_config.specs.Refusals.{TellsLargeConfiguration}
use Rattle.repo_store.specs.Repository.{Repository}
use Rattle.run_options.specs.declared.options.RunOptions.{RunOptions}
use Rattle.run_options.specs.Options.{with_options}

abbrev pub config_path : List ℕ
config_path = codes ".pre-commit-config.yaml"

-- no configuration is staged
abbrev pub LacksConfig : Repository → Type 0
LacksConfig repo = entry_of config_path repo.staged ≡ None

-- these bytes are staged as the configuration
pub record HasConfigBytes (repo : Repository) (bytes : List ℕ) : Type 0 where
  pub entry : FileEntry
  pub staged : entry_of config_path repo.staged ≡ Some entry
  pub are : entry.bytes ≡ bytes

-- the staged configuration is this
pub record IsConfigured (repo : Repository) (config : Config) : Type 0 where
  pub bytes : List ℕ
  pub staged : HasConfigBytes repo bytes
  pub meant : configuration_of bytes ≡ Some config

-- this is the staged configuration, changed by the options of a run
pub record IsConfiguredFor (options : RunOptions) (repo : Repository) (config : Config) : Type 0 where
  pub read : Config
  pub configured : IsConfigured repo read
  pub made : config ≡ with_options options read

-- The staged configuration can't be read, or holds a pattern that `regex` refuses. Lack of memory is a
-- refusal of the host itself.
pub record IsMisconfigured (repo : Repository) (fault : ConfigFault) : Type 0 where
  pub bytes : List ℕ
  pub staged : HasConfigBytes repo bytes
  pub none : UnlessLeftOpen fault.kind (configuration_of bytes ≡ None)
  pub large : TellsLargeConfiguration bytes fault
  pub not_memory : fault.kind ≢ kind.OutOfMemory

-- a configuration is staged that can be read
abbrev pub HasReadableConfig : Repository → Type 0
HasReadableConfig repo = (config : Config) × IsConfigured repo config
