use Rattle.text_output.specs.OutputLemmas.{on-err, begun-before}
use Rattle.hook_cli.proofs.run_printing.write_post.Goals as goal

pub returns-in_err-write_out-clause-err : goal.returns-in_err-write_out-clause-err
returns-in_err-write_out-clause-err g c =
    on-err c.from_residual.result
    (begun-before (g.O.Write.contents c.args.out.now) (g.O.Write.contents c.write_out.new.writer) c.args.post.now _ c.in_err-write_out.ensures.err)
