-- No text that a configuration holds is longer than a text may be. The words of a command, which are cut out
-- of its entry, aren't covered.
use Rattle.std.specs.Prelude.{⊤}
use Rattle.std.specs.List.{All}
use Rattle.hook_config.specs.Limits.{IsShort, AreTexts}
use Rattle.hook_config.specs.declared.configuration.Config.{Config}
use Rattle.hook_config.specs.declared.configuration.Hook.{Hook}
use Rattle.hook_config.specs.declared.configuration.Language.{Language}
use Rattle.hook_config.specs.declared.configuration.Language.TheVariants.{Fail, Pygrep, System, Script}

-- the text that the language searches for
abbrev pub HasShortSearch : Language → Type 0
HasShortSearch Fail = ⊤
HasShortSearch (Pygrep search) = IsShort search.text
HasShortSearch (System words) = ⊤
HasShortSearch (Script words) = ⊤

pub record HookHasShortTexts (hook : Hook) : Type 0 where
  pub id : IsShort hook.id
  pub name : IsShort hook.name
  pub alias : IsShort hook.alias
  pub language : HasShortSearch hook.language
  pub entry : IsShort hook.entry
  pub args : AreTexts hook.args
  pub files : IsShort hook.files
  pub exclude : IsShort hook.exclude
  pub types : AreTexts hook.types
  pub types_or : AreTexts hook.types_or
  pub exclude_types : AreTexts hook.exclude_types
  pub x_reads : IsShort hook.x_reads
  pub log_file : IsShort hook.log_file
  pub additional_dependencies : AreTexts hook.additional_dependencies

pub record HasShortTexts (config : Config) : Type 0 where
  pub hooks : All HookHasShortTexts config.hooks
  pub files : IsShort config.files
  pub exclude : IsShort config.exclude
  pub unknown : AreTexts config.unknown
