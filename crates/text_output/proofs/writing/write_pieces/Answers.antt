use Rattle.text_output.proofs.WritingLemmas.{piece-begun, piece-written}
use Rattle.text_output.specs.OutputLemmas.{on-err}
use Rattle.text_output.proofs.writing.write_pieces.Goals as goal

pub returns-in_err-write_piece-clause-err : goal.returns-in_err-write_piece-clause-err
returns-in_err-write_piece-clause-err g c =
    on-err c.from_residual.result
    (piece-begun (g.W.Write.contents c.args.writer.now) (g.W.Write.contents c.pieces.writer) (g.W.Write.contents c.write_piece.new.writer)
    c.args.pieces.now c.pieces.piece-index _ c.as_bytes.result.now c.pieces-test.true c.as_bytes.ensures.value c.pieces.invariant c.in_err-write_piece.ensures.err)

pub pieces-preserved : goal.pieces-preserved
pieces-preserved g c =
    piece-written (g.W.Write.contents c.args.writer.now) (g.W.Write.contents c.pieces.writer) (g.W.Write.contents c.write_piece.new.writer)
    c.args.pieces.now c.pieces.piece-index _ c.as_bytes.result.now c.pieces-test.true c.as_bytes.ensures.value c.pieces.invariant c.in_ok-write_piece.ensures.ok
