-- Which hooks a run goes through, and which of them it was asked to skip.
use Rattle.std.specs.Prelude.{ℕ, ◌&&◌, ◌||◌, Bool, true, not, is_some, List, map, filter, Option, None, Some}
use Rattle.std.specs.List.{list_any}
use Rattle.std.specs.Str.{bytes_eq}
use Rattle.hook_config.specs.declared.configuration.Config.{Config}
use Rattle.hook_config.specs.declared.configuration.Hook.{Hook}
use Rattle.hook_config.specs.Stages.{has_stage}
use Rattle.report_text.specs.Report.{is_empty}
use Rattle.hook_run.specs.declared.run_ask.RunAsk.{RunAsk}

-- the name is the hook's id, or its alias if it has one
abbrev pub is_named : List ℕ → Hook → Bool
is_named name hook = bytes_eq name hook.id || (not (is_empty hook.alias) && bytes_eq name hook.alias)

-- the run is asked for all hooks, or for this one by its name (`pre_commit.commands.run.run`)
abbrev pub is_asked_for : Option (List ℕ) → Hook → Bool
is_asked_for None hook = true
is_asked_for (Some name) hook = is_named name hook

-- the hook is one of the stage that is asked for
abbrev pub is_in_run : RunAsk → Hook → Bool
is_in_run ask hook = has_stage hook.stages ask.stage && is_asked_for ask.only hook

-- the hooks that a run goes through, in the order of the configuration
abbrev pub hooks_of_run : Config → RunAsk → List Hook
hooks_of_run config ask = filter (is_in_run ask) config.hooks

-- a hook is asked for by a name that no hook of the stage has
abbrev pub names_no_hook : Config → RunAsk → Bool
names_no_hook config ask = is_some ask.only && not (list_any (is_in_run ask) config.hooks)

-- one of the names that are to be skipped is the hook's (`pre_commit.commands.run._get_skips`)
abbrev pub is_skipped : List (List ℕ) → Hook → Bool
is_skipped skip hook = list_any (λ name. is_named name hook) skip

-- the names of the hooks that a run goes through, skipped ones and those after a stop among them
abbrev pub names_of_run : Config → RunAsk → List (List ℕ)
names_of_run config ask = map (λ hook. hook.name) (hooks_of_run config ask)
