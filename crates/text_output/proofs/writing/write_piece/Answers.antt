use Rattle.text_output.proofs.WritingLemmas.{begun, begun-and-kept, taken-more, taken-within}
use Rattle.text_output.specs.OutputLemmas.{on-err}
use Rattle.text_output.proofs.writing.write_piece.Goals as goal

pub returns-in_err-written-clause-err : goal.returns-in_err-written-clause-err
returns-in_err-written-clause-err g c =
    on-err c.from_residual.result
    (begun-and-kept (g.W.Write.contents c.args.writer.now) (g.W.Write.contents c.tries.writer) (g.W.Write.contents c.write_some.new.writer)
    c.args.text.now c.tries.written c.tries.invariant.taken c.in_err-written.ensures.err)

pub tries-preserved : goal.tries-preserved
tries-preserved g c = record {
  within = taken-within c.args.text.now c.tries.written c.in_ok-written.field-0 c.tries.invariant.within c.in_ok-written.ensures.count;
  taken = taken-more (g.W.Write.contents c.args.writer.now) (g.W.Write.contents c.tries.writer) (g.W.Write.contents c.write_some.new.writer)
      c.args.text.now c.tries.written c.in_ok-written.field-0 c.tries.invariant.taken c.in_ok-written.ensures.ok;
}

pub returns-clause-err : goal.returns-clause-err
returns-clause-err g c =
    begun (g.W.Write.contents c.args.writer.now) (g.W.Write.contents c.tries.writer) c.args.text.now c.tries.written c.tries.invariant.taken
