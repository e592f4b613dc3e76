-- What the options of a run make of a configuration.
use Rattle.std.specs.Prelude.{ℕ, ◌||◌, if◌then◌else◌, List, map, unwrap_or}
use Rattle.hook_config.specs.declared.configuration.Config.{Config}
use Rattle.hook_config.specs.declared.configuration.Hook.{Hook}
use Rattle.run_options.specs.Cautious.{new_reads}
use Rattle.run_options.specs.SplitFiles.{new_most_names}
use Rattle.run_options.specs.declared.options.RunOptions.{RunOptions}

-- the pattern of the further files that the hook's children see
abbrev pub reads_with : RunOptions → Hook → List ℕ
reads_with options hook = if options.cautious then unwrap_or (new_reads hook) hook.x_reads else hook.x_reads

-- the most names that one of the hook's children gets
abbrev pub most_names_with : RunOptions → Hook → ℕ
most_names_with options hook = if options.cautious then new_most_names hook else hook.x_at_most

-- the hook as it is run with these options
abbrev pub hook_with_options : RunOptions → Hook → Hook
hook_with_options options hook = record hook {
  x_reads = reads_with options hook;
  x_at_most = most_names_with options hook;
  verbose = hook.verbose || options.verbose;
}

-- the configuration that is run with these options
abbrev pub with_options : RunOptions → Config → Config
with_options options config = record config { hooks = map (hook_with_options options) config.hooks }
