-- Whatever completes a plan is a run.
use Rattle.std.proofs.Common.{◌≡◌, ◌∙◌, ap, ap₂, sym, subst, refl, append_assoc, arith, ℕ, max, ◌||◌, Bool, true, false, List, [], ◌∷◌, ◌++◌}
use Rattle.std.proofs.Math.Nat.{max-zero, zero-max}
use Rattle.std.proofs.lemmas.List.{append-nil}
use Rattle.std.specs.Prelude.{MatchBool, if◌then◌else◌}
use Rattle.hook_base.specs.declared.file.File.{File}
use Rattle.child_port.specs.Outcomes.{after_outcome}
use Rattle.child_port.specs.declared.answer.Outcome.{Outcome}
use Rattle.child_port.specs.Seen.{seen_of}
use Rattle.hook_config.specs.declared.configuration.Config.{Config}
use Rattle.hook_config.specs.declared.configuration.Hook.{Hook}
use Rattle.report_text.specs.declared.hook_result.Ending.{Ending}
use Rattle.report_text.specs.declared.hook_result.Ending.TheVariants.{Ran}
use Rattle.report_text.specs.declared.hook_result.HookResult.{HookResult}
use Rattle.report_text.specs.declared.hook_result.LineFault.{LineFault}
use Rattle.hook_run.specs.declared.part_totals.PartTotals.{PartTotals}
use Rattle.hook_run.specs.declared.progress.Progress.{Progress}
use Rattle.hook_run.specs.declared.run_ask.RunAsk.{RunAsk}
use Rattle.hook_run.specs.declared.run_out.RunOut.{RunOut}
use Rattle.hook_run.specs.Asks.{hooks_of_run}
use Rattle.hook_run.specs.HookRun.{IsEnding, further_of, sees_whole}
use Rattle.hook_run.specs.Parts.{ArePartsOf, Part, after_parts, all_parts}
use Rattle.hook_run.specs.PartsEnding.{ending_of_parts, greatest_status, is_modified, is_unsteady, joined_output, line_faults, line_faults_in, output_in, status_in}
use Rattle.hook_run.specs.Plans.{AtHook, GoesOn, GoesOnAt, ending_of_gathered, gathered_parts, gathered_with, hooks_after, id_of_gathered, nothing_gathered, progress_with, result_of}
use Rattle.hook_run.specs.RunOuts.{IsRunOut, out_of, unsteady_id, unsteady_ids}
use Rattle.hook_run.specs.PlanStates.{IsFirstOf, id_if, on_tree}
use Rattle.hook_run.specs.StageRun.{IsRun, is_last}

-- ---- what the parts of a hook come to

max_assoc : (a b c : ℕ) → max (max a b) c ≡ max a (max b c)
max_assoc a b c = omega arith

or_assoc : (a b c : Bool) → ((a || b) || c) ≡ (a || (b || c))
or_assoc true b c = refl
or_assoc false b c = refl

gathered-status : (so_far : PartTotals) (parts : List Part) → (gathered_parts so_far parts).status ≡ max so_far.status (greatest_status parts)
gathered-status so_far [] = sym (max-zero so_far.status)
gathered-status so_far (part ∷ parts) =
    gathered-status (gathered_with so_far part.outcome part.unsteady) parts ∙ max_assoc so_far.status (status_in part.outcome) (greatest_status parts)

gathered-faults : (so_far : PartTotals) (parts : List Part) → (gathered_parts so_far parts).faults ≡ so_far.faults ++ line_faults parts
gathered-faults so_far [] = sym (append-nil so_far.faults)
gathered-faults so_far (part ∷ parts) =
    gathered-faults (gathered_with so_far part.outcome part.unsteady) parts ∙ append_assoc so_far.faults (line_faults_in part.outcome) (line_faults parts)

gathered-output : (so_far : PartTotals) (parts : List Part) → (gathered_parts so_far parts).output ≡ so_far.output ++ joined_output parts
gathered-output so_far [] = sym (append-nil so_far.output)
gathered-output so_far (part ∷ parts) =
    gathered-output (gathered_with so_far part.outcome part.unsteady) parts ∙ append_assoc so_far.output (output_in part.outcome) (joined_output parts)

or-false : (b : Bool) → b ≡ (b || false)
or-false true = refl
or-false false = refl

gathered-unsteady : (so_far : PartTotals) (parts : List Part) → (gathered_parts so_far parts).unsteady ≡ (so_far.unsteady || is_unsteady parts)
gathered-unsteady so_far [] = or-false so_far.unsteady
gathered-unsteady so_far (part ∷ parts) =
    gathered-unsteady (gathered_with so_far part.outcome part.unsteady) parts ∙ or_assoc so_far.unsteady part.unsteady (is_unsteady parts)

abbrev ran : ℕ → List LineFault → Bool → List ℕ → Ending
ran status faults modified output = Ran status faults modified output

-- what a hook with these parts gathers is how it ends
gathered-ending : (tree : List File) (parts : List Part)
    → ending_of_gathered (gathered_parts nothing_gathered parts) tree (after_parts tree parts) ≡ ending_of_parts tree parts
gathered-ending tree parts =
    let modified = is_modified tree (after_parts tree parts) in
    let all = gathered_parts nothing_gathered parts in
    ap (λ s. ran s all.faults modified all.output) (gathered-status nothing_gathered parts ∙ zero-max (greatest_status parts))
    ∙ ap (λ f. ran (greatest_status parts) f modified all.output) (gathered-faults nothing_gathered parts)
    ∙ ap (λ o. ran (greatest_status parts) (line_faults parts) modified o) (gathered-output nothing_gathered parts)

gathered-id : (hook : Hook) (parts : List Part) → id_of_gathered hook (gathered_parts nothing_gathered parts) ≡ unsteady_id hook parts
gathered-id hook parts = ap (λ (b : Bool). if b then hook.id ∷ [] else []) (gathered-unsteady nothing_gathered parts)

-- ---- a run of no hooks

no-trace : (config : Config) (ask : RunAsk) (tree : List File) (trace : List (List Part)) (results : List HookResult) → IsRun config ask tree [] trace results → trace ≡ []
no-trace config ask tree [] [] run = refl
no-trace config ask tree [] (result ∷ results) run = absurd run
no-trace config ask tree (parts ∷ trace) [] run = absurd run
no-trace config ask tree (parts ∷ trace) (result ∷ results) run = absurd run

no-results : (config : Config) (ask : RunAsk) (tree : List File) (trace : List (List Part)) (results : List HookResult) → IsRun config ask tree [] trace results → results ≡ []
no-results config ask tree [] [] run = refl
no-results config ask tree [] (result ∷ results) run = absurd run
no-results config ask tree (parts ∷ trace) [] run = absurd run
no-results config ask tree (parts ∷ trace) (result ∷ results) run = absurd run

-- ---- a hook that is done, and the run after it

abbrev NothingMore : List (List Part) → List HookResult → Type 0
NothingMore trace results = (trace ≡ []) × (results ≡ [])

run-behind : (b : Bool) (config : Config) (ask : RunAsk) (tree : List File) (hooks : List Hook) (trace : List (List Part)) (results : List HookResult)
    → IsRun config ask tree (if b then [] else hooks) trace results → MatchBool b (NothingMore trace results) (IsRun config ask tree hooks trace results)
run-behind true config ask tree hooks trace results run = (no-trace config ask tree trace results run, no-results config ask tree trace results run)
run-behind false config ask tree hooks trace results run = run

no-ids : (hooks : List Hook) → unsteady_ids hooks [] ≡ []
no-ids [] = refl
no-ids (hook ∷ hooks) = refl

ids-behind : (b : Bool) (config : Config) (ask : RunAsk) (tree : List File) (hooks : List Hook) (trace : List (List Part)) (results : List HookResult)
    → IsRun config ask tree (if b then [] else hooks) trace results → unsteady_ids (if b then [] else hooks) trace ≡ unsteady_ids hooks trace
ids-behind true config ask tree hooks trace results run =
    sym (ap (unsteady_ids hooks) (no-trace config ask tree trace results run) ∙ no-ids hooks)
ids-behind false config ask tree hooks trace results run = refl

pub after_parts-append : (tree : List File) (first second : List Part) → after_parts tree (first ++ second) ≡ after_parts (after_parts tree first) second
after_parts-append tree [] second = refl
after_parts-append tree (part ∷ first) second = after_parts-append (after_outcome tree part.outcome) first second

same-out : (config : Config) (ask : RunAsk) (x y : List HookResult) (t u : List File) (i j : List (List ℕ)) → x ≡ y → t ≡ u → i ≡ j
    → out_of config ask x t i ≡ out_of config ask y u j
same-out config ask x y t u i j results tree ids =
    ap (λ r. out_of config ask r t i) results ∙ ap (λ s. out_of config ask y s i) tree ∙ ap (λ n. out_of config ask y u n) ids

pub hook-done : (config : Config) (ask : RunAsk) (done : Progress) (hook : Hook) (hooks : List Hook) (here : List Part) (ending : Ending) (ids : List (List ℕ))
    (rest : List Part) (out : RunOut) → IsEnding config ask done.tree hook here ending → ids ≡ unsteady_id hook here
    → GoesOn config ask (progress_with done hook ending ids (after_parts done.tree here)) (hooks_after config hook ending hooks) rest out
    → GoesOn config ask done (hook ∷ hooks) (here ++ rest) out
hook-done config ask done hook hooks here ending ids rest out ends same more =
    let after = after_parts done.tree here in
    let last = is_last config hook ending in
    let result = result_of hook ending in
    record {
      trace = here ∷ more.trace;
      results = result ∷ more.results;
      joined = ap (λ parts. here ++ parts) more.joined;
      run = (record { name = refl; id = refl; verbose = refl; ending = ends }, run-behind last config ask after hooks more.trace more.results more.run);
      is = more.is ∙ same-out config ask _ _ _ _ _ _ (append_assoc done.results (result ∷ []) more.results)
          (sym (after_parts-append done.tree here (all_parts more.trace)))
          (append_assoc done.unsteady ids (unsteady_ids (hooks_after config hook ending hooks) more.trace)
          ∙ ap₂ (λ a b. done.unsteady ++ (a ++ b)) same (ids-behind last config ask after hooks more.trace more.results more.run));
    }

-- ---- a hook that has begun, and the run after it

abbrev at_from : Hook → List File → List (List (List ℕ)) → PartTotals → AtHook
at_from hook before commands gathered = record { hook = hook; before = before; commands = commands; gathered = gathered }

same-at : (h k : Hook) (a b : List File) (c d : List (List (List ℕ))) (g f : PartTotals) → h ≡ k → a ≡ b → c ≡ d → g ≡ f → at_from h a c g ≡ at_from k b d f
same-at h k a b c d g f hook before commands gathered = cc

begun-done : (config : Config) (ask : RunAsk) (done : Progress) (hook : Hook) (hooks : List Hook) (commands : List (List (List ℕ))) (parts : List Part) (out : RunOut)
    → ((here : List Part) → ArePartsOf (sees_whole hook) (further_of hook) commands done.tree here → IsEnding config ask done.tree hook here (ending_of_parts done.tree here))
    → GoesOnAt config ask done (at_from hook done.tree commands nothing_gathered) hooks parts out
    → GoesOn config ask done (hook ∷ hooks) parts out
begun-done config ask done hook hooks commands parts out ended on =
    let after = after_parts done.tree on.here in
    let more = subst (λ (ending : Ending). GoesOn config ask
    (progress_with done hook ending (id_of_gathered hook (gathered_parts nothing_gathered on.here)) after) (hooks_after config hook ending hooks) on.rest out)
    (gathered-ending done.tree on.here) on.more in
    subst (λ (all : List Part). GoesOn config ask done (hook ∷ hooks) all out) (sym on.joined)
    (hook-done config ask done hook hooks on.here (ending_of_parts done.tree on.here) _ on.rest out (ended on.here on.run) (gathered-id hook on.here) more)

pub hook-waits : (config : Config) (ask : RunAsk) (done : Progress) (hook : Hook) (hooks : List Hook) (at : AtHook) (parts : List Part) (out : RunOut)
    → IsFirstOf (IsEnding config ask done.tree hook) hook done.tree at → GoesOnAt config ask done at hooks parts out
    → GoesOn config ask done (hook ∷ hooks) parts out
hook-waits config ask done hook hooks at parts out first on =
    begun-done config ask done hook hooks at.commands parts out first.ended
    (subst (λ (a : AtHook). GoesOnAt config ask done a hooks parts out)
    (same-at at.hook hook at.before done.tree at.commands at.commands at.gathered nothing_gathered first.of_hook first.before refl first.gathered) on)

-- ---- a part that is told

abbrev part_from : List (List ℕ) → List File → Outcome → Bool → Part
part_from words seen outcome unsteady = record { words = words; seen = seen; outcome = outcome; unsteady = unsteady }

-- what follows on a part of the hook follows the part
pub part-told : (config : Config) (ask : RunAsk) (done : Progress) (hook : Hook) (before : List File) (command : List (List ℕ)) (commands : List (List (List ℕ)))
    (so_far : PartTotals) (hooks : List Hook) (outcome : Outcome) (unsteady : Bool) (parts : List Part) (out : RunOut)
    → GoesOnAt config ask (on_tree done (after_outcome done.tree outcome)) (at_from hook before commands (gathered_with so_far outcome unsteady)) hooks parts out
    → GoesOnAt config ask done (at_from hook before (command ∷ commands) so_far) hooks
    (part_from command (seen_of command (further_of hook done.tree) (sees_whole hook) done.tree) outcome unsteady ∷ parts) out
part-told config ask done hook before command commands so_far hooks outcome unsteady parts out on =
    record {
      here = part_from command (seen_of command (further_of hook done.tree) (sees_whole hook) done.tree) outcome unsteady ∷ on.here;
      rest = on.rest;
      joined = ap (λ all. part_from command (seen_of command (further_of hook done.tree) (sees_whole hook) done.tree) outcome unsteady ∷ all) on.joined;
      run = (refl, refl, on.run);
      more = on.more;
    }

-- a hook without commands left goes on after it
pub hook-ended : (config : Config) (ask : RunAsk) (done : Progress) (at : AtHook) (hooks : List Hook) (ending : Ending) (unsteady : Bool) (parts : List Part) (out : RunOut)
    → at.commands ≡ [] → ending ≡ ending_of_gathered at.gathered at.before done.tree → unsteady ≡ at.gathered.unsteady
    → GoesOn config ask (progress_with done at.hook ending (id_if unsteady at.hook) done.tree) (hooks_after config at.hook ending hooks) parts out
    → GoesOnAt config ask done at hooks parts out
hook-ended config ask done at hooks ending unsteady parts out none ended mark on =
    record {
      here = [];
      rest = parts;
      joined = refl;
      run = subst (λ (commands : List (List (List ℕ))). ArePartsOf (sees_whole at.hook) (further_of at.hook) commands done.tree []) (sym none) tt;
      more = subst (λ (b : Bool). GoesOn config ask
          (progress_with done at.hook (ending_of_gathered at.gathered at.before done.tree) (id_if b at.hook) done.tree)
          (hooks_after config at.hook (ending_of_gathered at.gathered at.before done.tree) hooks) parts out) mark
          (subst (λ (e : Ending). GoesOn config ask (progress_with done at.hook e (id_if unsteady at.hook) done.tree) (hooks_after config at.hook e hooks) parts out) ended on);
    }

-- ---- a plan that is over, and one that begins

pub over-goes_on : (config : Config) (ask : RunAsk) (done : Progress) (parts : List Part) (out : RunOut)
    → parts ≡ [] → out ≡ out_of config ask done.results done.tree done.unsteady → GoesOn config ask done [] parts out
over-goes_on config ask done parts out none is =
    record {
      trace = [];
      results = [];
      joined = none;
      run = tt;
      is = is ∙ same-out config ask _ _ _ _ _ _ (sym (append-nil done.results)) refl (sym (append-nil done.unsteady));
    }

pub plan-begins : (config : Config) (ask : RunAsk) (tree : List File) (parts : List Part) (out : RunOut)
    → GoesOn config ask (record { results = []; unsteady = []; tree = tree }) (hooks_of_run config ask) parts out
    → (trace : List (List Part)) × (all_parts trace ≡ parts) × IsRunOut config ask tree trace out
plan-begins config ask tree parts out on = (on.trace, sym on.joined, record { results = on.results; run = on.run; is = on.is })
