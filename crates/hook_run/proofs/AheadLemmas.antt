-- Hooks that have begun ahead of their turns.
use Rattle.std.proofs.Common.{◌≡◌, ◌<◌, ◌++◌, ℕ, Bool, true, false, List, [], ◌∷◌, length, get_or, if◌then◌else◌, arith, refl, sym, ap, subst, ◌∙◌}
use Rattle.std.specs.List.{remove}
use Rattle.hook_base.specs.declared.change.Change.{Change}
use Rattle.hook_base.specs.declared.file.File.{File}
use Rattle.hook_base.specs.Trees.{apply_changes}
use Rattle.hook_config.specs.declared.configuration.Config.{Config}
use Rattle.hook_config.specs.declared.configuration.Hook.{Hook}
use Rattle.report_text.specs.declared.hook_result.Ending.{Ending}
use Rattle.hook_run.specs.declared.hook_state.HookState.{HookState}
use Rattle.hook_run.specs.declared.run_ask.RunAsk.{RunAsk}
use Rattle.hook_run.specs.HookRun.{IsEnding}
use Rattle.hook_run.specs.Plans.{hooks_after}
use Rattle.hook_run.specs.PlanStates.{HasBegun, AreBegunAhead}
use Rattle.hook_run.specs.StageRun.{is_last}

module _ (config : Config) (ask : RunAsk) (tree : List File) where
  -- nothing was found of no hooks
  pub begun_none : (states : List HookState) → AreBegunAhead config ask tree [] states
  begun_none [] = tt
  begun_none (state ∷ states) = tt

  -- the hooks that are run after one
  pub begun_after : (hook : Hook) (ending : Ending) (hooks : List Hook) (states : List HookState) → AreBegunAhead config ask tree hooks states
      → AreBegunAhead config ask tree (hooks_after config hook ending hooks) states
  begun_after hook ending hooks states begun =
      elim (is_last config hook ending) as (λ b. AreBegunAhead config ask tree (if b then [] else hooks) states) [
        | true ↦ begun_none states
        | false ↦ begun
      ]

  -- the first of them, and the others
  pub begun_first : (hook : Hook) (hooks : List Hook) (states : List HookState) (state : HookState) → AreBegunAhead config ask tree (hook ∷ hooks) states → 0 < length states
      → state ≡ get_or states 0 state → HasBegun (IsEnding config ask tree hook) hook tree state
  begun_first hook hooks [] state begun some is = absurd (omega arith)
  begun_first hook hooks (first ∷ states) state begun some is = subst (HasBegun (IsEnding config ask tree hook) hook tree) (sym is) begun.0

  pub begun_rest : (hook : Hook) (hooks : List Hook) (states after : List HookState) → AreBegunAhead config ask tree (hook ∷ hooks) states → 0 < length states
      → after ≡ remove states 0 → AreBegunAhead config ask tree hooks after
  begun_rest hook hooks [] after begun some is = absurd (omega arith)
  begun_rest hook hooks (first ∷ states) after begun some is = subst (AreBegunAhead config ask tree hooks) (sym is) begun.1

  -- what changes nothing leaves them
  pub begun_kept : (hooks : List Hook) (states : List HookState) (changes : List Change) → changes ≡ [] → AreBegunAhead config ask tree hooks states
      → AreBegunAhead config ask (apply_changes changes tree) hooks states
  begun_kept hooks states changes none begun = subst (λ (all : List Change). AreBegunAhead config ask (apply_changes all tree) hooks states) (sym none) begun

  -- ---- one after another

  -- these and whatever is found of the hooks after them
  abbrev pub BegunSoFar : List Hook → List HookState → List Hook → Type 0
  BegunSoFar hooks states left = (more : List HookState) → AreBegunAhead config ask tree left more → AreBegunAhead config ask tree hooks (states ++ more)

  joined : (states more : List HookState) (state : HookState) → (states ++ state ∷ []) ++ more ≡ states ++ state ∷ more
  joined [] more state = refl
  joined (first ∷ states) more state = ap (λ (rest : List HookState). first ∷ rest) (joined states more state)

  no_more : (states : List HookState) → states ++ [] ≡ states
  no_more [] = refl
  no_more (first ∷ states) = ap (λ (rest : List HookState). first ∷ rest) (no_more states)

  pub begun_more : (hooks left others : List Hook) (hook : Hook) (states : List HookState) (state : HookState) → BegunSoFar hooks states left → left ≡ hook ∷ others
      → HasBegun (IsEnding config ask tree hook) hook tree state → BegunSoFar hooks (states ++ state ∷ []) others
  begun_more hooks left others hook states state so_far is begun more rest =
      subst (AreBegunAhead config ask tree hooks) (sym (joined states more state))
      (so_far (state ∷ more) (subst (λ (all : List Hook). AreBegunAhead config ask tree all (state ∷ more)) (sym is) (begun, rest)))

  pub begun_all : (hooks left : List Hook) (states : List HookState) → BegunSoFar hooks states left → AreBegunAhead config ask tree hooks states
  begun_all hooks left states so_far = subst (AreBegunAhead config ask tree hooks) (no_more states) (so_far [] tt)
