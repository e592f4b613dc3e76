-- How a hook begins.
use Rattle.std.proofs.Common.{◌≡◌, ◌∙◌, ap, sym, subst, refl, ℕ, Bool, false, List, [], Result, Ok, Err, IfOk, Option, None, Some}
use Rattle.std.specs.Prelude.{IsSome, MatchBool, MatchOption}
use Rattle.arg_partition.specs.declared.cut.Cut.{Cut}
use Rattle.arg_partition.specs.Parts.{AreParts, fits, too_long_at}
use Rattle.hook_base.specs.declared.file.File.{File}
use Rattle.hook_config.specs.declared.configuration.Config.{Config}
use Rattle.hook_config.specs.declared.configuration.Hook.{Hook}
use Rattle.path_select.specs.Candidates.{ArePassing}
use Rattle.path_select.specs.Selection.{selected, selected_among}
use Rattle.path_select.specs.SelectionLaws.{selected_among_passing}
use Rattle.report_text.specs.declared.hook_result.Ending.{Ending}
use Rattle.report_text.specs.declared.hook_result.Ending.TheVariants.{SkippedAsked}
use Rattle.hook_run.specs.declared.hook_state.HookState.{HookState}
use Rattle.hook_run.specs.declared.hook_state.HookState.TheVariants.{Ended, Waits}
use Rattle.hook_run.specs.declared.part_totals.PartTotals.{PartTotals}
use Rattle.hook_run.specs.declared.run_ask.RunAsk.{RunAsk}
use Rattle.hook_run.specs.Asks.{is_skipped}
use Rattle.hook_run.specs.HookRun.{AreItsParts, IsCommandRun, IsEnding, IsHookRun, commands_of, ending_of_misfit, further_of, most_names_of, rules_of, sees_whole}
use Rattle.hook_run.specs.Limits.{most_command_bytes}
use Rattle.hook_run.specs.Parts.{ArePartsOf, Part}
use Rattle.hook_run.specs.PartsEnding.{ending_of_parts}
use Rattle.hook_run.specs.Plans.{AtHook, ending_of_gathered, nothing_gathered}
use Rattle.hook_run.specs.PlanStates.{HasBegun, HasGoneOn, at_hook}

-- what a hook begins to, it begins to under a weaker claim
pub begun-weaker : (P Q : List Part → Ending → Type 0) (hook : Hook) (tree : List File) (begun : HookState)
    → ((parts : List Part) (ending : Ending) → P parts ending → Q parts ending) → HasBegun P hook tree begun → HasBegun Q hook tree begun
begun-weaker P Q hook tree (Ended ending unsteady) weaker is = (weaker [] ending is.0, is.1)
begun-weaker P Q hook tree (Waits waiting) weaker is = (
  record {
    of_hook = is.0.of_hook;
    before = is.0.before;
    gathered = is.0.gathered;
    ended = λ parts run. weaker parts (ending_of_parts tree parts) (is.0.ended parts run);
  },
  is.1,
)

pub begun-weaker_if : {E : Type 0} (P Q : List Part → Ending → Type 0) (hook : Hook) (tree : List File) (result : Result HookState E)
    → ((parts : List Part) (ending : Ending) → P parts ending → Q parts ending) → IfOk result (HasBegun P hook tree) → IfOk result (HasBegun Q hook tree)
begun-weaker_if P Q hook tree (Ok begun) weaker is = begun-weaker P Q hook tree begun weaker is
begun-weaker_if P Q hook tree (Err refusal) weaker is = tt

abbrev NoParts : List Part → Ending → Ending → Type 0
NoParts parts ending is = (parts ≡ []) × (ending ≡ is)

-- a hook that isn't skipped ends as one does for which the files are selected
pub selected-ends : (config : Config) (ask : RunAsk) (among : List (List ℕ)) (tree : List File) (hook : Hook) (files : List (List ℕ))
    → ArePassing config.files config.exclude ask.candidates among → is_skipped ask.skip hook ≡ false
    → files ≡ selected_among (rules_of config hook) among tree
    → (parts : List Part) (ending : Ending) → IsHookRun hook files tree parts ending → IsEnding config ask tree hook parts ending
selected-ends config ask among tree hook files passing wanted chosen parts ending run =
    let here = subst (λ (paths : List (List ℕ)). IsHookRun hook paths tree parts ending)
    (chosen ∙ selected_among_passing (rules_of config hook) ask.candidates among tree passing) run in
    subst (λ (b : Bool). MatchBool b (NoParts parts ending SkippedAsked) (IsHookRun hook (selected (rules_of config hook) ask.candidates tree) tree parts ending))
    (sym wanted) here

-- a command whose names fit ends with what its parts come to
fitting-ends : (hook : Hook) (words names : List (List ℕ)) (tree : List File) (cuts : List Cut) → too_long_at (fits words most_command_bytes) names ≡ None
    → AreParts (fits words most_command_bytes) (most_names_of hook) names cuts → (parts : List Part) (ending : Ending)
    → ArePartsOf (sees_whole hook) (further_of hook) (commands_of words names cuts) tree parts → ending ≡ ending_of_parts tree parts
    → IsCommandRun hook words names tree parts ending
fitting-ends hook words names tree cuts fitting cut parts ending run ended =
    subst (λ (at : Option ℕ). MatchOption at (AreItsParts hook words names tree parts × (ending ≡ ending_of_parts tree parts)) (λ _. NoParts parts ending ending_of_misfit))
    (sym fitting) (record { cuts = cuts; cut = cut; run = run }, ended)

commands-run : (hook : Hook) (tree : List File) (commands others : List (List (List ℕ))) (parts : List Part) → commands ≡ others
    → ArePartsOf (sees_whole hook) (further_of hook) commands tree parts → ArePartsOf (sees_whole hook) (further_of hook) others tree parts
commands-run hook tree commands others parts same run =
    subst (λ (all : List (List (List ℕ))). ArePartsOf (sees_whole hook) (further_of hook) all tree parts) same run

abbrev ended_from : PartTotals → List File → List File → Ending
ended_from = ending_of_gathered

-- a command begins with its first part
command-begun : (hook : Hook) (words names : List (List ℕ)) (tree before : List File) (cuts : List Cut) (gathered : PartTotals) (begun : HookState)
    → too_long_at (fits words most_command_bytes) names ≡ None → AreParts (fits words most_command_bytes) (most_names_of hook) names cuts
    → before ≡ tree → gathered ≡ nothing_gathered
    → HasGoneOn (record { hook = hook; before = before; commands = commands_of words names cuts; gathered = gathered }) tree begun
    → HasBegun (IsCommandRun hook words names tree) hook tree begun
command-begun hook words names tree before cuts gathered (Ended ending unsteady) fitting cut same none is = (
  fitting-ends hook words names tree cuts fitting cut [] ending
      (commands-run hook tree [] (commands_of words names cuts) [] (sym is.0) tt)
      (is.1 ∙ ap (λ (start : List File). ended_from gathered start tree) same ∙ ap (λ (all : PartTotals). ended_from all tree tree) none),
  is.2 ∙ ap (λ (all : PartTotals). all.unsteady) none,
)
command-begun hook words names tree before cuts gathered (Waits waiting) fitting cut same none is = (
  record {
    of_hook = ap (λ (at : AtHook). at.hook) is.0;
    before = ap (λ (at : AtHook). at.before) is.0 ∙ same;
    gathered = ap (λ (at : AtHook). at.gathered) is.0 ∙ none;
    ended = λ parts run. fitting-ends hook words names tree cuts fitting cut parts (ending_of_parts tree parts)
        (commands-run hook tree (at_hook waiting).commands (commands_of words names cuts) parts (ap (λ (at : AtHook). at.commands) is.0) run) refl;
  },
  is.1,
)

pub command-begun_if : {E : Type 0} (hook : Hook) (words names : List (List ℕ)) (tree before : List File) (cuts : List Cut) (gathered : PartTotals) (result : Result HookState E)
    → too_long_at (fits words most_command_bytes) names ≡ None → AreParts (fits words most_command_bytes) (most_names_of hook) names cuts
    → before ≡ tree → gathered ≡ nothing_gathered
    → IfOk result (HasGoneOn (record { hook = hook; before = before; commands = commands_of words names cuts; gathered = gathered }) tree)
    → IfOk result (HasBegun (IsCommandRun hook words names tree) hook tree)
command-begun_if hook words names tree before cuts gathered (Ok begun) fitting cut same none is =
    command-begun hook words names tree before cuts gathered begun fitting cut same none is
command-begun_if hook words names tree before cuts gathered (Err refusal) fitting cut same none is = tt

-- the cuts that are given of a command
pub cuts-given : (hook : Hook) (words names : List (List ℕ)) (all : Option (List Cut)) (cuts : List Cut) → all ≡ Some cuts
    → MatchOption all (IsSome (too_long_at (fits words most_command_bytes) names))
    (λ given. (too_long_at (fits words most_command_bytes) names ≡ None) × AreParts (fits words most_command_bytes) (most_names_of hook) names given)
    → (too_long_at (fits words most_command_bytes) names ≡ None) × AreParts (fits words most_command_bytes) (most_names_of hook) names cuts
cuts-given hook words names all cuts same given =
    subst (λ (some : Option (List Cut)). MatchOption some (IsSome (too_long_at (fits words most_command_bytes) names))
    (λ each. (too_long_at (fits words most_command_bytes) names ≡ None) × AreParts (fits words most_command_bytes) (most_names_of hook) names each)) same given
