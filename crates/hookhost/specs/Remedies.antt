-- What helps after a stop.
use Rattle.std.specs.Prelude.{ℕ, if◌then◌else◌, List, codes}
use Rattle.std.specs.Str.{bytes_eq}
use Rattle.hook_config.specs.declared.config_fault.ConfigKind.{ConfigKind}
use Rattle.hook_config.specs.declared.config_fault.ConfigKind.TheVariants.{OutOfMemory as NoMemory}
use Rattle.repository_files.specs.declared.repository_fault.RepositoryFault.{RepositoryFault}
use Rattle.repository_files.specs.declared.repository_fault.RepositoryFault.TheVariants.{CannotUseStore}
use Rattle.hookhost.specs.declared.stop.CommandStop.{CommandStop}
use Rattle.hookhost.specs.declared.stop.CommandStop.TheVariants as stop
use Rattle.hookhost.specs.declared.stop_hints.Remedy.{Remedy}
use Rattle.hookhost.specs.declared.stop_hints.Remedy.TheVariants as remedy

abbrev pub if_store : RepositoryFault → Remedy → Remedy
if_store CannotUseStore helps = helps
if_store fault helps = remedy.Nothing

-- nothing explains want of memory
abbrev pub remedy_for_kind : ConfigKind → Remedy
remedy_for_kind NoMemory = remedy.Nothing
remedy_for_kind kind = remedy.ExplainConfiguration

abbrev pub remedy_for_word : List ℕ → Remedy
remedy_for_word word =
    if bytes_eq word (codes ".pre-commit-config.yaml") then remedy.WriteConfiguration else remedy.Nothing

-- what helps, as far as the stop tells; what depends on the files of the folder is looked at then
abbrev pub remedy_for : CommandStop → Remedy
remedy_for (stop.NoRepository fault) = if_store fault remedy.FindRepository
remedy_for (stop.NoNewRepository fault) = if_store fault remedy.UseRepository
remedy_for (stop.NoConfiguration fault) = remedy_for_kind fault.kind
remedy_for (stop.CannotUse word) = remedy_for_word word
remedy_for other = remedy.Nothing
