use Rattle.std.proofs.Common.{[], ◌∷◌}
use Rattle.text_output.specs.OutputLemmas.{on-err, begun-before, both-on-err}
use Rattle.text_output.proofs.quoted_path.write_quoted.Goals as goal

pub returns-in_err-write_out-clause-err : goal.returns-in_err-write_out-clause-err
returns-in_err-write_out-clause-err g c =
    on-err c.from_residual.result
    (begun-before (g.W.Write.contents c.args.writer.now) (g.W.Write.contents c.write_out.new.writer) (34 ∷ []) _ c.in_err-write_out.ensures.err)

pub returns-clause-err : goal.returns-clause-err
returns-clause-err g c =
    both-on-err c.write_behind_quote.result (g.W.Write.contents c.args.writer.now) (g.W.Write.contents c.write_out.new.writer) (g.W.Write.contents c.write_behind_quote.new.writer)
    (34 ∷ []) _ c.in_ok-write_out.ensures.ok c.write_behind_quote.ensures.err
