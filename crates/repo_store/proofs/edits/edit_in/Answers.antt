use Rattle.std.proofs.Common.{◌∙◌, arith, map}
use Rattle.store_tables.specs.Tables.{without_fixes}
use Rattle.repo_store.specs.Rows.{with_blobs, with_staged_rows}
use Rattle.repo_store.specs.SharedEdits.{all_rows, edit_of}
use Rattle.repo_store.proofs.CallLemmas.{step_then}
use Rattle.repo_store.proofs.EditLemmas.{edits_more}
use Rattle.repo_store.proofs.StepLemmas.{done_for_all}
use Rattle.repo_store.proofs.edits.edit_in.Goals as goal

pub edits-init : goal.edits-init
edits-init g c = record {
  same_reference = c.in_ok-clear_fixes.ensures.same_reference ∙ c.in_ok-keep_in.ensures.same_reference;
  step =
      step_then g.S.Store c.args.tx.now.conn.now c.keep_in.new.tx.conn.now c.clear_fixes.new.tx.conn.now _ (λ t. with_blobs c.args.news.now t) without_fixes c.in_ok-keep_in.ensures.step
      c.in_ok-clear_fixes.ensures.step;
}

pub edits-preserved : goal.edits-preserved
edits-preserved g c = record {
  same_reference = c.edit_row.ensures.same_reference ∙ c.edits.invariant.same_reference;
  step =
      edits_more g.S.Store c.args.tx.now.conn.now c.edits.tx.conn.now c.edit_row.new.tx.conn.now c.args.news.now c.args.edits.now c.edits.edit-index c.edit-item.result c.edits-test.true c.edit-item.is
      c.edits.invariant.step c.in_ok-edit_row.ensures.step;
}

pub returns-clause-step : goal.returns-clause-step
returns-clause-step g c =
    done_for_all g.S.Store c.args.tx.now.conn.now c.edits.tx.conn.now (λ edits t. with_staged_rows (all_rows (map edit_of edits) t.staged) (without_fixes (with_blobs c.args.news.now t)))
    c.edits.edit-index c.args.edits.now
    (omega (arith, c.edits-test.false)) c.edits.invariant.step
