use Rattle.std.proofs.Common.{◌∙◌, List, ap, subst, sym}
use Rattle.hook_config.specs.declared.configuration.Hook.{Hook}
use Rattle.std.specs.List.{flat_map}
use Rattle.report_text.specs.Report.{hook_text, report_text}
use Rattle.hook_run.specs.PlanStates.{AreBegunAhead, names_of_hooks}
use Rattle.hook_run.proofs.AheadLemmas.{begun_none}
use Rattle.hook_run.proofs.AdvanceLemmas.{no-hooks, over-from, report-of_run}
use Rattle.hook_run.proofs.advance.over.Goals as goal

pub invariant_of-result : goal.invariant_of-result
invariant_of-result c = record {
  fits = c.requires.fits;
  fits_at = tt;
  planned = c.requires.course;
  held = c.requires.held;
  stored = c.from.ensures ∙ report-of_run c.args.course c.args.done.results c.in_ok-report.report.items c.requires.course
      (c.in_ok-report.ensures ∙ ap (λ columns. flat_map (hook_text columns) c.as_slice.result.now) c.requires.course.columns
      ∙ ap (report_text (names_of_hooks c.args.course)) c.as_slice.ensures);
  begun = subst (λ (hooks : List Hook). AreBegunAhead c.args.course.config.now c.args.course.ask.now c.args.done.tree hooks c.args.ahead.items)
      (sym (no-hooks c.args.course c.args.place c.requires.none)) (begun_none c.args.course.config.now c.args.course.ask.now c.args.done.tree c.args.ahead.items);
}

pub returns-clause-from : goal.returns-clause-from
returns-clause-from c = λ parts out is. over-from c.args.course c.args.done c.args.place parts out c.requires.none is.0 is.1
