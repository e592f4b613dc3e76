use Rattle.std.proofs.Common.{◌∙◌}
use Rattle.text_output.specs.OutputLemmas.{on-err, reports-begun, reports-written}
use Rattle.hook_cli.proofs.run_printing.write_reports.Goals as goal

pub returns-in_err-write_out-clause-err : goal.returns-in_err-write_out-clause-err
returns-in_err-write_out-clause-err g c =
    on-err c.from_residual.result
    (reports-begun (g.O.Write.contents c.args.out.now) (g.O.Write.contents c.reports.out) (g.O.Write.contents c.write_out.new.writer)
    c.args.reports.now c.reports.report-index _ c.as_slice.result.now c.reports-test.true (c.as_slice.ensures ∙ c.report-item.is) c.reports.invariant c.in_err-write_out.ensures.err)

pub reports-preserved : goal.reports-preserved
reports-preserved g c =
    reports-written (g.O.Write.contents c.args.out.now) (g.O.Write.contents c.reports.out) (g.O.Write.contents c.write_out.new.writer)
    c.args.reports.now c.reports.report-index _ c.as_slice.result.now c.reports-test.true (c.as_slice.ensures ∙ c.report-item.is) c.reports.invariant c.in_ok-write_out.ensures.ok
