use Rattle.std.proofs.Common.{[], ◌∷◌}
use Rattle.std.specs.List.{flat_map}
use Rattle.text_output.specs.OutputLemmas.{on-err, begun-before, both-on-err}
use Rattle.text_output.specs.QuotedPaths.{escaped_byte}
use Rattle.text_output.proofs.quoted_path.write_behind_quote.Goals as goal

pub returns-in_err-write_escaped-clause-err : goal.returns-in_err-write_escaped-clause-err
returns-in_err-write_escaped-clause-err g c =
    on-err c.from_residual.result
    (begun-before (g.W.Write.contents c.args.writer.now) (g.W.Write.contents c.write_escaped.new.writer) (flat_map escaped_byte c.args.bytes.now) _ c.in_err-write_escaped.ensures.err)

pub returns-clause-err : goal.returns-clause-err
returns-clause-err g c =
    both-on-err c.write_out.result (g.W.Write.contents c.args.writer.now) (g.W.Write.contents c.write_escaped.new.writer) (g.W.Write.contents c.write_out.new.writer)
    (flat_map escaped_byte c.args.bytes.now) (34 ∷ []) c.in_ok-write_escaped.ensures.ok c.write_out.ensures.err
