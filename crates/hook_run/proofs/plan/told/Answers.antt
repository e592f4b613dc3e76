use Rattle.std.proofs.Common.{◌≡◌, ◌∙◌, sym, subst}
use Rattle.hook_run.specs.declared.progress.Progress.{Progress}
use Rattle.hook_run.specs.CandidateFiles.{files_at}
use Rattle.hook_run.specs.Plans.{AtHook}
use Rattle.hook_run.specs.PlanStates.{FitsName, FitsResults, AreBegunAhead, hooks_from}
use Rattle.hook_run.proofs.AdvanceLemmas.{told-part_if, told-within_if}
use Rattle.hook_run.proofs.CandidateLemmas.{files-told}
use Rattle.hook_run.proofs.FurtherLemmas.{further-told}
use Rattle.hook_run.proofs.plan.told.Goals as goal

pub plan_at-requires-clause-fits : goal.plan_at-requires-clause-fits
plan_at-requires-clause-fits c = subst (λ (p : Progress). FitsResults c.args.course p.results) (sym c.in_ok-done.ensures) c.requires.fits

pub plan_at-requires-clause-fits_at : goal.plan_at-requires-clause-fits_at
plan_at-requires-clause-fits_at c = subst (λ (at : AtHook). FitsName c.args.course at.hook.name) (sym c.in_ok-work.ensures.work) c.requires.fits_at

pub plan_at-requires-clause-held : goal.plan_at-requires-clause-held
plan_at-requires-clause-held c =
    subst (λ (p : Progress). c.in_ok-files.files ≡ files_at c.args.course.ask.now.candidates p.tree) (sym c.in_ok-done.ensures)
    (c.in_ok-files.ensures ∙ files-told c.args.course.ask.now.candidates c.args.done.tree c.args.files c.args.outcome c.requires.held)

pub plan_at-requires-clause-ahead : goal.plan_at-requires-clause-ahead
plan_at-requires-clause-ahead c =
    subst (λ (p : Progress). AreBegunAhead c.args.course.config.now c.args.course.ask.now p.tree (hooks_from c.args.course c.args.place) c.ahead_after-ahead.result.items) (sym c.in_ok-done.ensures)
    (c.ahead_after-ahead.ensures c.args.course.config.now c.args.course.ask.now c.args.done.tree (hooks_from c.args.course c.args.place) c.requires.ahead)

pub plan_at-requires-clause-further : goal.plan_at-requires-clause-further
plan_at-requires-clause-further c =
    further-told c.args.done c.in_ok-done.done c.args.waiting.work c.in_ok-work.work c.args.outcome
    c.in_ok-done.ensures c.in_ok-work.ensures.hook c.in_ok-work.ensures.further c.requires.further

pub returns-clause-from : goal.returns-clause-from
returns-clause-from c =
    told-part_if c.args.course c.args.done c.in_ok-done.done c.args.place c.args.waiting c.in_ok-work.work c.args.outcome c.args.unsteady c.plan_at.result
    c.in_ok-done.ensures c.in_ok-work.ensures.work c.plan_at.ensures.from

pub returns-clause-fewer : goal.returns-clause-fewer
returns-clause-fewer c =
    told-within_if c.args.course c.args.done c.in_ok-done.done c.args.place c.args.waiting c.in_ok-work.work c.args.outcome c.args.unsteady c.plan_at.result
    c.in_ok-done.ensures c.in_ok-work.ensures.work c.plan_at.ensures.within
