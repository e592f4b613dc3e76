use Rattle.std.proofs.Common.{◌≡◌, ◌+◌, List, sym, subst, arith}
use Rattle.hook_run.specs.declared.progress.Progress.{Progress}
use Rattle.hook_run.specs.CandidateFiles.{files_at}
use Rattle.hook_run.specs.HookRun.{IsEnding}
use Rattle.hook_run.specs.PlanStates.{FitsName, AreBegunAhead, hooks_from}
use Rattle.hook_config.specs.declared.configuration.Hook.{Hook}
use Rattle.hook_run.proofs.AheadLemmas.{begun_after}
use Rattle.hook_run.proofs.AdvanceLemmas.{begun-ended, begun-waits, leads_on-ended, leads_on-none, leads_on-waits, within-waits}
use Rattle.hook_run.proofs.advance.advance.Goals as goal

pub invariant_of-result : goal.invariant_of-result
invariant_of-result c =
    let hook = c.hook_at-hook.result.now in
    let here = subst (λ (hooks : List Hook). AreBegunAhead c.args.course.config.now c.args.course.ask.now c.hooks.done.tree hooks c.hooks.ahead.items) c.hook_at-hook.ensures.left
    c.hooks.invariant.2 in
    let is = begun-waits (IsEnding c.args.course.config.now c.args.course.ask.now c.hooks.done.tree hook) hook c.hooks.done.tree c.in_ok-waiting.field-0
    c.in-Waits.waiting c.in-Waits.is (c.in_ok-waiting.ensures.begun (hooks_from c.args.course (c.hooks.place + 1)) here) in
    record {
      fits = c.hooks.invariant.0.fits;
      fits_at = subst (λ (h : Hook). FitsName c.args.course h.name) (sym is.0.of_hook) c.hook_at-hook.ensures.fits;
      planned = c.requires.course;
      held = c.hooks.invariant.1;
      stored = is.1;
      begun = c.begin_next.ensures.left (hooks_from c.args.course (c.hooks.place + 1)) here;
    }

pub returns-in-Waits-clause-from : goal.returns-in-Waits-clause-from
returns-in-Waits-clause-from c =
    let hook = c.hook_at-hook.result.now in
    let here = subst (λ (hooks : List Hook). AreBegunAhead c.args.course.config.now c.args.course.ask.now c.hooks.done.tree hooks c.hooks.ahead.items) c.hook_at-hook.ensures.left
    c.hooks.invariant.2 in
    let is = begun-waits (IsEnding c.args.course.config.now c.args.course.ask.now c.hooks.done.tree hook) hook c.hooks.done.tree c.in_ok-waiting.field-0
    c.in-Waits.waiting c.in-Waits.is (c.in_ok-waiting.ensures.begun (hooks_from c.args.course (c.hooks.place + 1)) here) in
    λ parts out on. leads_on-waits c.args.course c.args.done c.args.place c.hooks.done c.hooks.place hook _ parts out c.hooks.invariant.0
    c.hook_at-hook.ensures.left is.0 on

pub returns-in-Waits-clause-within : goal.returns-in-Waits-clause-within
returns-in-Waits-clause-within c =
    let hook = c.hook_at-hook.result.now in
    let here = subst (λ (hooks : List Hook). AreBegunAhead c.args.course.config.now c.args.course.ask.now c.hooks.done.tree hooks c.hooks.ahead.items) c.hook_at-hook.ensures.left
    c.hooks.invariant.2 in
    let is = begun-waits (IsEnding c.args.course.config.now c.args.course.ask.now c.hooks.done.tree hook) hook c.hooks.done.tree c.in_ok-waiting.field-0
    c.in-Waits.waiting c.in-Waits.is (c.in_ok-waiting.ensures.begun (hooks_from c.args.course (c.hooks.place + 1)) here) in
    within-waits c.args.course c.args.done c.args.place c.hooks.done c.hooks.place hook c.in-Waits.waiting c.hooks.invariant.0 c.hook_at-hook.ensures.left is.0

pub hooks-init : goal.hooks-init
hooks-init c = (leads_on-none c.args.course c.args.done c.args.place c.requires.fits, c.requires.held, c.requires.ahead)

pub hooks-smaller : goal.hooks-smaller
hooks-smaller c = let later = c.place_behind-place.ensures.later in omega arith

pub hooks-preserved : goal.hooks-preserved
hooks-preserved c =
    let hook = c.hook_at-hook.result.now in
    let here = subst (λ (hooks : List Hook). AreBegunAhead c.args.course.config.now c.args.course.ask.now c.hooks.done.tree hooks c.hooks.ahead.items) c.hook_at-hook.ensures.left
    c.hooks.invariant.2 in
    let is = begun-ended (IsEnding c.args.course.config.now c.args.course.ask.now c.hooks.done.tree hook) hook c.hooks.done.tree c.in_ok-waiting.field-0
    c.in-Ended.ending c.in-Ended.unsteady c.in-Ended.is (c.in_ok-waiting.ensures.begun (hooks_from c.args.course (c.hooks.place + 1)) here) in (
      leads_on-ended c.args.course c.args.done c.args.place c.hooks.done c.in_ok-done-in-Ended.done c.hooks.place c.place_behind-place.result hook
          c.in-Ended.ending c.in-Ended.unsteady c.hooks.invariant.0 c.hook_at-hook.ensures.left c.hook_at-hook.ensures.fits is.0 is.1
          c.place_behind-place.ensures.left c.in_ok-done-in-Ended.ensures,
      subst (λ (p : Progress). c.hooks.files ≡ files_at c.args.course.ask.now.candidates p.tree) (sym c.in_ok-done-in-Ended.ensures) c.hooks.invariant.1,
      subst (λ (p : Progress). AreBegunAhead c.args.course.config.now c.args.course.ask.now p.tree (hooks_from c.args.course c.place_behind-place.result) c.begin_next.new.ahead.items)
          (sym c.in_ok-done-in-Ended.ensures)
          (subst (λ (hooks : List Hook). AreBegunAhead c.args.course.config.now c.args.course.ask.now c.hooks.done.tree hooks c.begin_next.new.ahead.items) (sym c.place_behind-place.ensures.left)
          (begun_after c.args.course.config.now c.args.course.ask.now c.hooks.done.tree hook c.in-Ended.ending (hooks_from c.args.course (c.hooks.place + 1)) c.begin_next.new.ahead.items
          (c.begin_next.ensures.left (hooks_from c.args.course (c.hooks.place + 1)) here))),
    )
