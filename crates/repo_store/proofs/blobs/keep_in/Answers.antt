use Rattle.std.proofs.Common.{refl, ◌∙◌, arith}
use Rattle.repo_store.specs.Rows.{with_blobs}
use Rattle.repo_store.proofs.StepLemmas.{blob_more, done_for_all}
use Rattle.repo_store.proofs.blobs.keep_in.Goals as goal

pub loop-content-preserved : goal.loop-content-preserved
loop-content-preserved g c = record {
  same_reference = c.put_blob.ensures.same_reference ∙ c.loop-content.invariant.same_reference;
  step =
      blob_more g.S.Store c.args.tx.now.conn.now c.loop-content.tx.conn.now c.put_blob.new.tx.conn.now c.args.news.now c.loop-content.content-index c.content-item.result _ c.loop-content-test.true
      c.content-item.is
      (rw (c.digest.ensures, c.as_slice.ensures) refl) c.loop-content.invariant.step c.in_ok-put_blob.ensures.step;
}

pub returns-clause-step : goal.returns-clause-step
returns-clause-step g c =
    done_for_all g.S.Store c.args.tx.now.conn.now c.loop-content.tx.conn.now (λ news t. with_blobs news t) c.loop-content.content-index c.args.news.now (omega (arith, c.loop-content-test.false))
    c.loop-content.invariant.step
