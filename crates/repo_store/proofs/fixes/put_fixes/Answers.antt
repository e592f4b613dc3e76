use Rattle.std.proofs.Common.{◌∙◌, arith, map}
use Rattle.repo_store.specs.Lists.{fix_of}
use Rattle.repo_store.specs.Rows.{fix_row, with_fix_rows}
use Rattle.repo_store.proofs.StepLemmas.{fix_more, done_for_all}
use Rattle.repo_store.proofs.fixes.put_fixes.Goals as goal

pub loop-fix-preserved : goal.loop-fix-preserved
loop-fix-preserved g c = record {
  same_reference = c.put_shared.ensures.same_reference ∙ c.loop-fix.invariant.same_reference;
  step =
      fix_more g.S.Store c.args.tx.now.conn.now c.loop-fix.tx.conn.now c.put_shared.new.tx.conn.now c.args.fixes.now c.loop-fix.fix-index c.fix-item.result c.loop-fix-test.true c.fix-item.is
      c.loop-fix.invariant.step c.in_ok-put_shared.ensures.step;
}

pub returns-clause-step : goal.returns-clause-step
returns-clause-step g c =
    done_for_all g.S.Store c.args.tx.now.conn.now c.loop-fix.tx.conn.now (λ fixes t. with_fix_rows (map fix_row (map fix_of fixes)) t) c.loop-fix.fix-index c.args.fixes.now
    (omega (arith, c.loop-fix-test.false)) c.loop-fix.invariant.step
