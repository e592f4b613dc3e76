use Rattle.std.proofs.Common.{◌≡◌, List, ℕ, Ok, pos, refl, subst, ◌∙◌}
use Rattle.store_tables.specs.declared.rows.StagedRow.{StagedRow}
use Rattle.store_tables.specs.Steps.{IsStep}
use Rattle.store_tables.specs.Tables.{with_staged, without_staged, without_fixes}
use Rattle.repo_store.specs.Lists.{file_of}
use Rattle.repo_store.specs.Rows.{with_blobs, staged_row}
use Rattle.repo_store.proofs.CallLemmas.{step_then}
use Rattle.repo_store.proofs.stage.stage_in.Goals as goal

pub returns-clause-step : goal.returns-clause-step
returns-clause-step g c =
    let old = c.args.tx.now.conn.now in
    let kept = c.keep_in.new.tx.conn.now in
    let cleared = c.clear_fixes.new.tx.conn.now in
    let out = c.take_staged.new.tx.conn.now in
    let new = c.put_staged.new.tx.conn.now in
    let file = c.args.file.now in
    let took = subst (λ (path : List ℕ). IsStep {A = Unit {0}} g.S.Store cleared out (Ok tt) (without_staged path)) (c.as_str.ensures.same ∙ c.path.ensures) c.in_ok-take_staged.ensures.step in
    let row : StagedRow = record { path = c.as_str-2.result.now; mode = pos c.number_of.result; digest = c.digest.result } in
    let row_is : row ≡ staged_row (file_of file) = rw (c.as_str-2.ensures.same, c.path-2.ensures, c.number_of.ensures, c.mode.ensures, c.digest.ensures, c.content.ensures) refl in
    let put = subst (λ (r : StagedRow). IsStep g.S.Store out new c.put_staged.result (with_staged r)) row_is c.put_staged.ensures.step in
    let first = step_then g.S.Store old kept cleared (Ok tt) (λ t. with_blobs c.args.news.now t) without_fixes c.in_ok-keep_in.ensures.step c.in_ok-clear_fixes.ensures.step in
    let both = step_then g.S.Store old cleared out (Ok tt) (λ t. without_fixes (with_blobs c.args.news.now t)) (without_staged file.path) first took in
    step_then g.S.Store old out new c.put_staged.result (λ t. without_staged file.path (without_fixes (with_blobs c.args.news.now t))) (with_staged (staged_row (file_of file))) both put
