use Rattle.std.proofs.Common.{◌∙◌, arith, map}
use Rattle.store_tables.specs.Tables.{without_fixes}
use Rattle.repo_store.specs.Accepted.{all_rewritten}
use Rattle.repo_store.specs.Lists.{file_of, fix_of}
use Rattle.repo_store.specs.Rows.{with_staged_rows}
use Rattle.repo_store.proofs.AcceptLemmas.{rewrites_more}
use Rattle.repo_store.proofs.StepLemmas.{done_for_all}
use Rattle.repo_store.proofs.accept.accept_in.Goals as goal

pub fixes-preserved : goal.fixes-preserved
fixes-preserved g c = record {
  same_reference = c.rewrite.ensures.same_reference ∙ c.fixes.invariant.same_reference;
  step =
      rewrites_more g.S.Store c.args.tx.now.conn.now c.fixes.tx.conn.now c.rewrite.new.tx.conn.now (map file_of c.args.files.now) c.args.fixes.now c.fixes.fix-index c.fix-item.result c.fixes-test.true
      c.fix-item.is
      c.fixes.invariant.step c.in_ok-rewrite.ensures.step;
}

pub returns-clause-step : goal.returns-clause-step
returns-clause-step g c =
    done_for_all g.S.Store c.args.tx.now.conn.now c.fixes.tx.conn.now (λ fixes t. with_staged_rows (all_rewritten (map file_of c.args.files.now) (map fix_of fixes) t.staged) (without_fixes t))
    c.fixes.fix-index c.args.fixes.now
    (omega (arith, c.fixes-test.false)) c.fixes.invariant.step
