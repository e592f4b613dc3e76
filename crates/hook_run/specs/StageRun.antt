-- A run of a stage's hooks one after another, each on the tree that the one before it left.
-- (docs/REFERENCE.md, "What a hook answers".)
use Rattle.std.specs.Prelude.{◌≡◌, ◌&&◌, ◌||◌, Bool, not, MatchBool, List, [], ◌∷◌}
use Rattle.std.specs.List.{list_all}
use Rattle.hook_base.specs.declared.file.File.{File}
use Rattle.hook_config.specs.declared.configuration.Config.{Config}
use Rattle.hook_config.specs.declared.configuration.Hook.{Hook}
use Rattle.report_text.specs.declared.hook_result.Ending.{Ending}
use Rattle.report_text.specs.declared.hook_result.HookResult.{HookResult}
use Rattle.report_text.specs.Report.{is_failed}
use Rattle.hook_run.specs.declared.run_ask.RunAsk.{RunAsk}
use Rattle.hook_run.specs.Asks.{hooks_of_run}
use Rattle.hook_run.specs.HookRun.{IsResult}
use Rattle.hook_run.specs.Parts.{Part, after_parts}

-- no hook is run after this one: it failed, and the configuration or the hook has `fail_fast`
-- (`pre_commit.commands.run._run_hooks`)
abbrev pub is_last : Config → Hook → Ending → Bool
is_last config hook ending = (config.fail_fast || hook.fail_fast) && is_failed ending

-- a run of these hooks from this tree on, with the parts and the result of each
abbrev pub IsRun : Config → RunAsk → List File → List Hook → List (List Part) → List HookResult → Type 0
IsRun config ask tree [] [] [] = Unit {0}
IsRun config ask tree (hook ∷ hooks) (parts ∷ trace) (result ∷ results) =
    IsResult config ask tree hook parts result
    × MatchBool (is_last config hook result.ending)
    ((trace ≡ []) × (results ≡ []))
    (IsRun config ask (after_parts tree parts) hooks trace results)
IsRun config ask tree _ _ _ = ⊥

-- a run of the hooks that are asked for
abbrev pub IsStageRun : Config → RunAsk → List File → List (List Part) → List HookResult → Type 0
IsStageRun config ask tree trace results = IsRun config ask tree (hooks_of_run config ask) trace results

-- no hook failed
abbrev pub has_passed : List HookResult → Bool
has_passed results = list_all (λ result. not (is_failed result.ending)) results
