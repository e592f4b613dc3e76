use Rattle.std.specs.List.{concat}
use Rattle.text_output.specs.OutputLemmas.{on-err, begun-before, both-on-err}
use Rattle.hook_cli.proofs.run_printing.write_commit.Goals as goal

pub returns-in_err-write_reports-clause-err : goal.returns-in_err-write_reports-clause-err
returns-in_err-write_reports-clause-err g c =
    on-err c.from_residual.result
    (begun-before (g.O.Write.contents c.args.out.now) (g.O.Write.contents c.write_reports.new.out) (concat c.args.reports.now) _ c.in_err-write_reports.ensures.err)

pub returns-clause-err : goal.returns-clause-err
returns-clause-err g c =
    both-on-err c.write_post.result (g.O.Write.contents c.args.out.now) (g.O.Write.contents c.write_reports.new.out) (g.O.Write.contents c.write_post.new.out)
    (concat c.args.reports.now) _ c.in_ok-write_reports.ensures.ok c.write_post.ensures.err
