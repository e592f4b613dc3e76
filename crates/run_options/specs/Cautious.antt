-- What a command is taken to read in a cautious run, besides the files that it is given.
-- (docs/REFERENCE.md, "Cached results".)
use Rattle.std.specs.Prelude.{ℕ, Bool, not, ◌&&◌, if◌then◌else◌, List, [], ◌∷◌, Option, Some, None}
use Rattle.std.specs.Str.{bytes_eq}
use Rattle.hook_config.specs.Patterns.{every_path, no_path}
use Rattle.hook_config.specs.declared.configuration.Hook.{Hook}
use Rattle.hook_config.specs.declared.configuration.Language.{Language}
use Rattle.hook_config.specs.declared.configuration.Language.TheVariants.{Fail, Pygrep, System, Script}
use Rattle.run_options.specs.Harmless.{are_harmless}
use Rattle.run_options.specs.Tools.{Tool, tool_in, tool_rows}

-- what the tool reads if it is known and the words after its name are harmless, otherwise every path
abbrev pub reads_of_tool : Option Tool → List (List ℕ) → List ℕ
reads_of_tool None words = every_path
reads_of_tool (Some tool) words = if are_harmless tool.kind words then tool.reads else every_path

-- A command that isn't given the names of its files, or that is started without any, may look for files
-- itself.
abbrev pub command_reads : List (List ℕ) → Bool → Bool → List ℕ
command_reads [] pass_filenames always_run = every_path
command_reads (name ∷ words) pass_filenames always_run =
    if pass_filenames && not always_run then reads_of_tool (tool_in tool_rows name) words else every_path

-- what a hook's command reads, none if the hook starts no command; a script of the repository may do anything
abbrev pub reads_by_language : Language → Hook → Option (List ℕ)
reads_by_language Fail hook = None
reads_by_language (Pygrep search) hook = None
reads_by_language (System words) hook = Some (command_reads words hook.pass_filenames hook.always_run)
reads_by_language (Script words) hook = Some every_path

-- a hook that says by its pattern what its command reads keeps that pattern
abbrev pub new_reads : Hook → Option (List ℕ)
new_reads hook = if bytes_eq hook.x_reads no_path then reads_by_language hook.language hook else None
