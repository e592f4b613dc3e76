use Rattle.text_output.specs.OutputLemmas.{on-err, begun-before, both-on-err}
use Rattle.hook_cli.proofs.run_printing.write_reported.Goals as goal

pub returns-in_err-write_out-clause-err : goal.returns-in_err-write_out-clause-err
returns-in_err-write_out-clause-err g c =
    on-err c.from_residual.result
    (begun-before (g.O.Write.contents c.args.out.now) (g.O.Write.contents c.write_out.new.writer) c.args.report.now _ c.in_err-write_out.ensures.err)

pub returns-clause-err : goal.returns-clause-err
returns-clause-err g c =
    both-on-err c.write_unsteady.result (g.O.Write.contents c.args.out.now) (g.O.Write.contents c.write_out.new.writer) (g.O.Write.contents c.write_unsteady.new.out)
    c.args.report.now _ c.in_ok-write_out.ensures.ok c.write_unsteady.ensures.err
