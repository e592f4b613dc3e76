use Rattle.std.proofs.Common.{◌≡◌, List, sym, subst}
use Rattle.hook_config.specs.declared.configuration.Hook.{Hook}
use Rattle.hook_run.specs.declared.progress.Progress.{Progress}
use Rattle.hook_run.specs.CandidateFiles.{files_at}
use Rattle.hook_run.specs.PlanStates.{AreBegunAhead, hooks_from, id_if}
use Rattle.hook_run.proofs.AheadLemmas.{begun_after}
use Rattle.hook_run.proofs.AdvanceLemmas.{behind-hook_if, behind-within_if, progress-fits}
use Rattle.hook_run.proofs.plan.plan_behind_hook.Goals as goal

pub advance-requires-clause-fits : goal.advance-requires-clause-fits
advance-requires-clause-fits c =
    progress-fits c.args.course c.args.done c.in_ok-done.done c.args.hook.now c.args.ending (id_if c.args.unsteady c.args.hook.now) c.args.done.tree
    c.in_ok-done.ensures c.requires.fits c.requires.fits_at

pub advance-requires-clause-held : goal.advance-requires-clause-held
advance-requires-clause-held c =
    subst (λ (p : Progress). c.args.files ≡ files_at c.args.course.ask.now.candidates p.tree) (sym c.in_ok-done.ensures) c.requires.held

pub advance-requires-clause-ahead : goal.advance-requires-clause-ahead
advance-requires-clause-ahead c =
    subst (λ (p : Progress). AreBegunAhead c.args.course.config.now c.args.course.ask.now p.tree (hooks_from c.args.course c.place_behind-place.result) c.args.ahead.items) (sym c.in_ok-done.ensures)
    (subst (λ (hooks : List Hook). AreBegunAhead c.args.course.config.now c.args.course.ask.now c.args.done.tree hooks c.args.ahead.items) (sym c.place_behind-place.ensures.left)
    (begun_after c.args.course.config.now c.args.course.ask.now c.args.done.tree c.args.hook.now c.args.ending (hooks_from c.args.course c.args.place) c.args.ahead.items c.requires.ahead))

pub returns-clause-from : goal.returns-clause-from
returns-clause-from c =
    behind-hook_if c.args.course c.args.done c.in_ok-done.done c.args.place c.place_behind-place.result c.args.hook.now c.args.ending c.args.unsteady c.advance.result
    c.place_behind-place.ensures.left c.in_ok-done.ensures c.advance.ensures.from

pub returns-clause-within : goal.returns-clause-within
returns-clause-within c =
    behind-within_if c.args.course c.args.done c.in_ok-done.done c.args.place c.place_behind-place.result c.args.hook.now c.args.ending c.args.unsteady c.advance.result
    c.place_behind-place.ensures.left c.in_ok-done.ensures c.advance.ensures.within
