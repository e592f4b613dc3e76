use Rattle.std.proofs.Common.{refl}
use Rattle.text_output.specs.OutputLemmas.{on-err, texts-begun, texts-written}
use Rattle.text_output.specs.QuotedPaths.{escaped_byte}
use Rattle.text_output.proofs.quoted_path.write_escaped.Goals as goal

pub returns-in_err-write_byte-clause-err : goal.returns-in_err-write_byte-clause-err
returns-in_err-write_byte-clause-err g c =
    on-err c.from_residual.result
    (texts-begun escaped_byte (g.W.Write.contents c.args.writer.now) (g.W.Write.contents c.bytes.writer) (g.W.Write.contents c.write_byte.new.writer)
    c.args.bytes.now c.bytes.byte-index 0 _ c.bytes-test.true refl c.bytes.invariant c.in_err-write_byte.ensures.err)

pub bytes-preserved : goal.bytes-preserved
bytes-preserved g c =
    texts-written escaped_byte (g.W.Write.contents c.args.writer.now) (g.W.Write.contents c.bytes.writer) (g.W.Write.contents c.write_byte.new.writer)
    c.args.bytes.now c.bytes.byte-index 0 _ c.bytes-test.true refl c.bytes.invariant c.in_ok-write_byte.ensures.ok
