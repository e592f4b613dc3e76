-- The hooks of a run one after another.
use Rattle.std.proofs.Common.{◌≡◌, ◌∙◌, ap, sym, subst, refl, add-one, arith, ℕ, zero, suc, ◌+◌, ◌<◌, ◌≤◌, Bool, false, List, [], ◌∷◌, ◌++◌, Bor, length, drop, get_or, map, Some, Result, Ok, Err, IfOk}
use Rattle.std.proofs.Math.Seq.{drop-cons}
use Rattle.std.proofs.Math.ListN.{drop_of_length-le}
use Rattle.std.proofs.lemmas.List.Elements.{All-append, All-cons, All-nil}
use Rattle.hook_base.specs.declared.file.File.{File}
use Rattle.hook_config.specs.declared.configuration.Hook.{Hook}
use Rattle.report_text.specs.declared.hook_result.Ending.{Ending}
use Rattle.report_text.specs.declared.hook_result.HookResult.{HookResult}
use Rattle.report_text.specs.Report.{columns_of, greatest_width, report_text, width_of}
use Rattle.child_port.specs.Outcomes.{after_outcome}
use Rattle.child_port.specs.declared.answer.Outcome.{Outcome}
use Rattle.hook_run.specs.declared.hook_state.HookState.{HookState}
use Rattle.hook_run.specs.declared.hook_state.HookState.TheVariants.{Ended, Waits}
use Rattle.hook_run.specs.declared.run_context.RunContext.{RunContext}
use Rattle.hook_run.specs.declared.pending_part.PendingPart.{PendingPart}
use Rattle.hook_run.specs.declared.running_hook.RunningHook.{RunningHook}
use Rattle.hook_run.specs.declared.progress.Progress.{Progress}
use Rattle.hook_run.specs.declared.run_out.RunOut.{RunOut}
use Rattle.hook_run.specs.Asks.{names_of_run}
use Rattle.hook_run.specs.RunOuts.{out_of}
use Rattle.hook_run.specs.HookRun.{IsEnding, commands_of}
use Rattle.hook_run.specs.Parts.{Part}
use Rattle.hook_run.specs.Plans.{AtHook, GoesOn, GoesOnAt, Plan, gathered_with, hooks_after, progress_with, result_of}
use Rattle.hook_run.specs.PlanStates.{FitsName, FitsResults, HasBegun, HasGoneOn, IsCourse, IsFirstOf, IsPlanAt, IsPlanBehindHook, IsPlanFrom, IsSeenOn, IsToldFrom, at_hook, at_part, at_work, hooks_from, id_if, names_of_hooks, on_tree, part_at, with_gathered}
use Rattle.hook_run.specs.PlanBounds.{most_left, most_of_hooks, parts_at}
use Rattle.hook_run.proofs.BoundLemmas.{commands-short, most-after, most-shorter, outcome-shorter}
use Rattle.hook_run.proofs.PlanLemmas.{hook-done, hook-ended, hook-waits, over-goes_on, part-told}

-- whatever goes on from the second moment, goes on from the first
pub record LeadsOn (course : RunContext) (first : Progress) (first_place : ℕ) (second : Progress) (second_place : ℕ) : Type 0 where
  pub leads : (parts : List Part) (out : RunOut) → GoesOn course.config.now course.ask.now second (hooks_from course second_place) parts out
      → GoesOn course.config.now course.ask.now first (hooks_from course first_place) parts out
  pub fits : FitsResults course second.results
  pub within : most_of_hooks (hooks_from course second_place) second.tree ≤ most_of_hooks (hooks_from course first_place) first.tree

pub leads_on-none : (course : RunContext) (done : Progress) (place : ℕ) → FitsResults course done.results → LeadsOn course done place done place
leads_on-none course done place fits = record { leads = λ parts out on. on; fits = fits; within = omega arith }

pub hooks-left : (course : RunContext) (place : ℕ) (hook : Bor Hook) → place < length course.hooks.items → hook ≡ get_or course.hooks.items place hook
    → hooks_from course place ≡ hook.now ∷ hooks_from course (place + 1)
hooks-left course place hook within is =
    ap (map (λ (h : Bor Hook). h.now)) (drop-cons course.hooks.items place hook within ∙ ap (λ (h : Bor Hook). h ∷ drop (suc place) course.hooks.items) (sym is)
    ∙ ap (λ n. hook ∷ drop n course.hooks.items) (sym (add-one place)))

pub no-hooks : (course : RunContext) (place : ℕ) → length course.hooks.items ≤ place → hooks_from course place ≡ []
no-hooks course place past = ap (map (λ (h : Bor Hook). h.now)) (drop_of_length-le course.hooks.items past)

name-below : (hooks : List (Bor Hook)) (place : ℕ) (hook : Bor Hook) → place < length hooks → hook ≡ get_or hooks place hook
    → width_of hook.now.name ≤ greatest_width (map (λ h. h.now.name) hooks)
name-below [] place hook within is = absurd (omega arith)
name-below (first ∷ hooks) zero hook within is =
    let same : width_of hook.now.name ≡ width_of first.now.name = ap (λ (h : Bor Hook). width_of h.now.name) is in omega arith
name-below (first ∷ hooks) (suc place) hook within is = let below = name-below hooks place hook (omega arith) is in omega arith

pub name-fits : (course : RunContext) (place : ℕ) (hook : Bor Hook) → place < length course.hooks.items → hook ≡ get_or course.hooks.items place hook
    → FitsName course hook.now.name
name-fits course place hook within is = let below = name-below course.hooks.items place hook within is in omega arith

pub results-fit : (course : RunContext) (results : List HookResult) (hook : Hook) (ending : Ending) → FitsResults course results → FitsName course hook.name
    → FitsResults course (results ++ result_of hook ending ∷ [])
results-fit course results hook ending fits here =
    All-append (λ one. width_of one.name + 30 ≤ columns_of (names_of_hooks course)) results (result_of hook ending ∷ []) fits
    (All-cons (λ one. width_of one.name + 30 ≤ columns_of (names_of_hooks course)) (result_of hook ending) [] here (All-nil (λ one. width_of one.name + 30 ≤ columns_of (names_of_hooks course))))

pub progress-fits : (course : RunContext) (done after : Progress) (hook : Hook) (ending : Ending) (ids : List (List ℕ)) (tree : List File)
    → after ≡ progress_with done hook ending ids tree → FitsResults course done.results → FitsName course hook.name → FitsResults course after.results
progress-fits course done after hook ending ids tree made fits here =
    subst (λ (p : Progress). FitsResults course p.results) (sym made) (results-fit course done.results hook ending fits here)

-- a hook that has ended without a child
pub leads_on-ended : (course : RunContext) (first : Progress) (first_place : ℕ) (done after : Progress) (place next : ℕ) (hook : Hook) (ending : Ending) (unsteady : Bool)
    → LeadsOn course first first_place done place → hooks_from course place ≡ hook ∷ hooks_from course (place + 1) → FitsName course hook.name
    → IsEnding course.config.now course.ask.now done.tree hook [] ending → unsteady ≡ false
    → hooks_from course next ≡ hooks_after course.config.now hook ending (hooks_from course (place + 1))
    → after ≡ progress_with done hook ending (id_if unsteady hook) done.tree
    → LeadsOn course first first_place after next
leads_on-ended course first first_place done after place next hook ending unsteady so_far here_is fits ends steady left made = record {
  leads = λ parts out on.
      let here = subst (λ (hooks : List Hook). GoesOn course.config.now course.ask.now after hooks parts out) left on in
      let there = subst (λ (p : Progress). GoesOn course.config.now course.ask.now p (hooks_after course.config.now hook ending (hooks_from course (place + 1))) parts out) made here in
      so_far.leads parts out (subst (λ (hooks : List Hook). GoesOn course.config.now course.ask.now done hooks parts out) (sym here_is)
      (hook-done course.config.now course.ask.now done hook (hooks_from course (place + 1)) [] ending (id_if unsteady hook) parts out ends
      (ap (λ (b : Bool). id_if b hook) steady) there));
  fits = progress-fits course done after hook ending (id_if unsteady hook) done.tree made so_far.fits fits;
  within =
      let before = so_far.within in
      let here = ap (λ (hooks : List Hook). most_of_hooks hooks done.tree) here_is in
      let fewer = most-after course.config.now hook ending (hooks_from course (place + 1)) done.tree in
      let behind = ap (λ (hooks : List Hook). most_of_hooks hooks after.tree) left in
      let same = ap (λ (p : Progress). most_of_hooks (hooks_after course.config.now hook ending (hooks_from course (place + 1))) p.tree) made in
      omega arith;
}

-- a hook that waits
pub leads_on-waits : (course : RunContext) (first : Progress) (first_place : ℕ) (done : Progress) (place : ℕ) (hook : Hook) (at : AtHook) (parts : List Part) (out : RunOut)
    → LeadsOn course first first_place done place → hooks_from course place ≡ hook ∷ hooks_from course (place + 1)
    → IsFirstOf (IsEnding course.config.now course.ask.now done.tree hook) hook done.tree at
    → GoesOnAt course.config.now course.ask.now done at (hooks_from course (place + 1)) parts out
    → GoesOn course.config.now course.ask.now first (hooks_from course first_place) parts out
leads_on-waits course first first_place done place hook at parts out so_far here_is begun on =
    so_far.leads parts out (subst (λ (hooks : List Hook). GoesOn course.config.now course.ask.now done hooks parts out) (sym here_is)
    (hook-waits course.config.now course.ask.now done hook (hooks_from course (place + 1)) at parts out begun on))

-- the parts that may be left where it waits
pub within-waits : (course : RunContext) (first : Progress) (first_place : ℕ) (done : Progress) (place : ℕ) (hook : Hook) (waiting : PendingPart)
    → LeadsOn course first first_place done place → hooks_from course place ≡ hook ∷ hooks_from course (place + 1)
    → IsFirstOf (IsEnding course.config.now course.ask.now done.tree hook) hook done.tree (at_hook waiting)
    → parts_at (Some (at_part waiting)) + most_of_hooks (hooks_from course (place + 1)) done.tree ≤ most_of_hooks (hooks_from course first_place) first.tree
within-waits course first first_place done place hook waiting so_far here_is begun =
    let before = so_far.within in
    let here = ap (λ (hooks : List Hook). most_of_hooks hooks done.tree) here_is in
    let few = commands-short course.config.now course.ask.now done.tree hook (at_hook waiting) begun in
    omega arith

-- ---- the report of a run that is over

names-behind : (hooks : List (Bor Hook)) → map (λ hook. hook.now.name) hooks ≡ map (λ (hook : Hook). hook.name) (map (λ hook. hook.now) hooks)
names-behind [] = refl
names-behind (hook ∷ hooks) = ap (λ names. hook.now.name ∷ names) (names-behind hooks)

pub names-of_run : (course : RunContext) → IsCourse course → names_of_hooks course ≡ names_of_run course.config.now course.ask.now
names-of_run course is = names-behind course.hooks.items ∙ ap (map (λ (hook : Hook). hook.name)) is.asked

pub report-of_run : (course : RunContext) (results : List HookResult) (report : List ℕ) → IsCourse course → report ≡ report_text (names_of_hooks course) results
    → report ≡ report_text (names_of_run course.config.now course.ask.now) results
report-of_run course results report is made = made ∙ ap (λ names. report_text names results) (names-of_run course is)

-- a plan that is over goes on with no hooks
pub over-from : (course : RunContext) (done : Progress) (place : ℕ) (parts : List Part) (out : RunOut) → length course.hooks.items ≤ place
    → parts ≡ [] → out ≡ out_of course.config.now course.ask.now done.results done.tree done.unsteady
    → GoesOn course.config.now course.ask.now done (hooks_from course place) parts out
over-from course done place parts out past none is =
    subst (λ (hooks : List Hook). GoesOn course.config.now course.ask.now done hooks parts out) (sym (no-hooks course place past))
    (over-goes_on course.config.now course.ask.now done parts out none is)

-- ---- a hook that begins, by the way it goes on

pub begun-waits : (EndsWith : List Part → Ending → Type 0) (hook : Hook) (tree : List File) (begun : HookState) (waiting : PendingPart) → begun ≡ Waits waiting
    → HasBegun EndsWith hook tree begun → IsFirstOf EndsWith hook tree (at_hook waiting) × IsSeenOn tree waiting
begun-waits EndsWith hook tree begun waiting same is = subst (HasBegun EndsWith hook tree) same is

pub begun-ended : (EndsWith : List Part → Ending → Type 0) (hook : Hook) (tree : List File) (begun : HookState) (ending : Ending) (unsteady : Bool) → begun ≡ Ended ending unsteady
    → HasBegun EndsWith hook tree begun → EndsWith [] ending × (unsteady ≡ false)
begun-ended EndsWith hook tree begun ending unsteady same is = subst (HasBegun EndsWith hook tree) same is

-- ---- a part that is told

abbrev told_at : PendingPart → Outcome → Bool → AtHook
told_at waiting outcome unsteady = with_gathered (at_work waiting.work) (gathered_with waiting.work.gathered outcome unsteady)

-- the run goes on at the hook from what the part left
told-part : (course : RunContext) (done after : Progress) (place : ℕ) (waiting : PendingPart) (outcome : Outcome) (unsteady : Bool) (parts : List Part) (out : RunOut)
    → after ≡ on_tree done (after_outcome done.tree outcome)
    → GoesOnAt course.config.now course.ask.now after (told_at waiting outcome unsteady) (hooks_from course place) parts out
    → GoesOnAt course.config.now course.ask.now done (at_hook waiting) (hooks_from course place) (part_at waiting done.tree outcome unsteady ∷ parts) out
told-part course done after place waiting outcome unsteady parts out left on =
    part-told course.config.now course.ask.now done waiting.work.hook.now waiting.work.before waiting.command
    (commands_of waiting.work.words waiting.work.names (drop waiting.work.begun waiting.work.cuts)) waiting.work.gathered (hooks_from course place) outcome unsteady parts out
    (subst (λ (p : Progress). GoesOnAt course.config.now course.ask.now p (told_at waiting outcome unsteady) (hooks_from course place) parts out) left on)

pub told-part_if : {E : Type 0} (course : RunContext) (done after : Progress) (place : ℕ) (waiting : PendingPart) (work : RunningHook) (outcome : Outcome) (unsteady : Bool) (result : Result Plan E)
    → after ≡ on_tree done (after_outcome done.tree outcome)
    → at_work work ≡ with_gathered (at_work waiting.work) (gathered_with waiting.work.gathered outcome unsteady)
    → IfOk result (IsPlanAt course after place (at_work work)) → IfOk result (IsToldFrom course done place waiting outcome unsteady)
told-part_if course done after place waiting work outcome unsteady (Ok plan) left worked from =
    λ parts out on. told-part course done after place waiting outcome unsteady parts out left
    (subst (λ (at : AtHook). GoesOnAt course.config.now course.ask.now after at (hooks_from course place) parts out) worked (from parts out on))
told-part_if course done after place waiting work outcome unsteady (Err refusal) left worked from = tt

-- ---- a hook that goes on, by the way it does

pub waits-at : (course : RunContext) (done : Progress) (place : ℕ) (at : AtHook) (begun : HookState) (waiting : PendingPart) (parts : List Part) (out : RunOut)
    → begun ≡ Waits waiting → HasGoneOn at done.tree begun
    → GoesOnAt course.config.now course.ask.now done (at_hook waiting) (hooks_from course place) parts out
    → GoesOnAt course.config.now course.ask.now done at (hooks_from course place) parts out
waits-at course done place at begun waiting parts out same gone on =
    let is = subst (HasGoneOn at done.tree) same gone in
    subst (λ (a : AtHook). GoesOnAt course.config.now course.ask.now done a (hooks_from course place) parts out) is.0 on

pub ended-at_if : {E : Type 0} (course : RunContext) (done : Progress) (place : ℕ) (at : AtHook) (begun : HookState) (ending : Ending) (mark : Bool) (result : Result Plan E)
    → begun ≡ Ended ending mark → HasGoneOn at done.tree begun
    → IfOk result (IsPlanBehindHook course done place at.hook ending mark) → IfOk result (IsPlanAt course done place at)
ended-at_if course done place at begun ending mark (Ok plan) same gone from =
    let is = subst (HasGoneOn at done.tree) same gone in
    λ parts out on. hook-ended course.config.now course.ask.now done at (hooks_from course place) ending mark parts out is.0 is.1 is.2 (from parts out on)
ended-at_if course done place at begun ending mark (Err refusal) same gone from = tt

pub behind-hook_if : {E : Type 0} (course : RunContext) (done behind : Progress) (place next : ℕ) (hook : Hook) (ending : Ending) (mark : Bool) (result : Result Plan E)
    → hooks_from course next ≡ hooks_after course.config.now hook ending (hooks_from course place)
    → behind ≡ progress_with done hook ending (id_if mark hook) done.tree
    → IfOk result (IsPlanFrom course behind next) → IfOk result (IsPlanBehindHook course done place hook ending mark)
behind-hook_if course done behind place next hook ending mark (Ok plan) hooks made from =
    λ parts out on. subst (λ (p : Progress). GoesOn course.config.now course.ask.now p (hooks_after course.config.now hook ending (hooks_from course place)) parts out) made
    (subst (λ (all : List Hook). GoesOn course.config.now course.ask.now behind all parts out) hooks (from parts out on))
behind-hook_if course done behind place next hook ending mark (Err refusal) hooks made from = tt

-- ---- how many parts may be left

pub waits-within : (course : RunContext) (done : Progress) (place : ℕ) (at : AtHook) (begun : HookState) (waiting : PendingPart) → begun ≡ Waits waiting → HasGoneOn at done.tree begun
    → parts_at (Some (at_part waiting)) + most_of_hooks (hooks_from course place) done.tree ≤ length at.commands + most_of_hooks (hooks_from course place) done.tree
waits-within course done place at begun waiting same gone =
    let is = subst (HasGoneOn at done.tree) same gone in
    let long = ap (λ (a : AtHook). length a.commands) is.0 in
    omega arith

pub behind-within_if : {E : Type 0} (course : RunContext) (done behind : Progress) (place next : ℕ) (hook : Hook) (ending : Ending) (mark : Bool) (result : Result Plan E)
    → hooks_from course next ≡ hooks_after course.config.now hook ending (hooks_from course place)
    → behind ≡ progress_with done hook ending (id_if mark hook) done.tree
    → IfOk result (λ plan. most_left plan ≤ most_of_hooks (hooks_from course next) behind.tree) → IfOk result (λ plan. most_left plan ≤ most_of_hooks (hooks_from course place) done.tree)
behind-within_if course done behind place next hook ending mark (Ok plan) hooks made within =
    let fewer = most-after course.config.now hook ending (hooks_from course place) done.tree in
    let left = ap (λ (all : List Hook). most_of_hooks all behind.tree) hooks in
    let same = ap (λ (p : Progress). most_of_hooks (hooks_after course.config.now hook ending (hooks_from course place)) p.tree) made in
    omega arith
behind-within_if course done behind place next hook ending mark (Err refusal) hooks made within = tt

pub ended-within_if : {E : Type 0} (course : RunContext) (done : Progress) (place : ℕ) (at : AtHook) (result : Result Plan E)
    → IfOk result (λ plan. most_left plan ≤ most_of_hooks (hooks_from course place) done.tree)
    → IfOk result (λ plan. most_left plan ≤ length at.commands + most_of_hooks (hooks_from course place) done.tree)
ended-within_if course done place at (Ok plan) within = omega arith
ended-within_if course done place at (Err refusal) within = tt

pub told-within_if : {E : Type 0} (course : RunContext) (done after : Progress) (place : ℕ) (waiting : PendingPart) (work : RunningHook) (outcome : Outcome) (unsteady : Bool) (result : Result Plan E)
    → after ≡ on_tree done (after_outcome done.tree outcome)
    → at_work work ≡ with_gathered (at_work waiting.work) (gathered_with waiting.work.gathered outcome unsteady)
    → IfOk result (λ plan. most_left plan ≤ length (at_work work).commands + most_of_hooks (hooks_from course place) after.tree)
    → IfOk result (λ plan. most_left plan < parts_at (Some (at_part waiting)) + most_of_hooks (hooks_from course place) done.tree)
told-within_if course done after place waiting work outcome unsteady (Ok plan) left worked within =
    let shorter = outcome-shorter done.tree outcome in
    let fewer = most-shorter (hooks_from course place) (after_outcome done.tree outcome) done.tree shorter in
    let same = ap (λ (p : Progress). most_of_hooks (hooks_from course place) p.tree) left in
    let commands = ap (λ (a : AtHook). length a.commands) worked in
    omega arith
told-within_if course done after place waiting work outcome unsteady (Err refusal) left worked within = tt
