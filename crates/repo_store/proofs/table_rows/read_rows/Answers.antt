use Rattle.std.proofs.lemmas.Result.{err_from_is_err_and}
use Rattle.repo_store.specs.FromRows.{AreShown}
use Rattle.repo_store.proofs.ReadingLemmas.{first_read, next_read, read_stops, first_stops, read_ends}
use Rattle.repo_store.proofs.table_rows.read_rows.Goals as goal

pub returns-in_err-answers-clause-read : goal.returns-in_err-answers-clause-read
returns-in_err-answers-clause-read g c =
    let p = err_from_is_err_and c.from_residual.result c.from_residual.ensures.1 in
    first_stops g.S.Store c.args.tx.now.conn.now c.read_answers.new.tx.conn.now _ p.0 _ c.from_residual.result AreShown p.1 c.in_err-answers.ensures.read

pub returns-in_err-blobs-clause-read : goal.returns-in_err-blobs-clause-read
returns-in_err-blobs-clause-read g c =
    let r1 = first_read g.S.Store c.args.tx.now.conn.now c.read_answers.new.tx.conn.now c.in_ok-answers.answers _ c.in_ok-answers.ensures.read in
    let p = err_from_is_err_and c.from_residual-in_err-blobs.result c.from_residual-in_err-blobs.ensures.1 in
    read_stops g.S.Store c.args.tx.now.conn.now c.read_answers.new.tx.conn.now c.read_blobs.new.tx.conn.now _ r1 _ p.0 _ c.from_residual-in_err-blobs.result AreShown p.1 c.in_err-blobs.ensures.read

pub returns-in_err-staged-clause-read : goal.returns-in_err-staged-clause-read
returns-in_err-staged-clause-read g c =
    let r1 = first_read g.S.Store c.args.tx.now.conn.now c.read_answers.new.tx.conn.now c.in_ok-answers.answers _ c.in_ok-answers.ensures.read in
    let r2 = next_read g.S.Store c.args.tx.now.conn.now c.read_answers.new.tx.conn.now c.read_blobs.new.tx.conn.now _ r1 c.in_ok-blobs.blobs _ c.in_ok-blobs.ensures.read in
    let p = err_from_is_err_and c.from_residual-in_err-staged.result c.from_residual-in_err-staged.ensures.1 in
    read_stops g.S.Store c.args.tx.now.conn.now c.read_blobs.new.tx.conn.now c.read_staged.new.tx.conn.now _ r2 _ p.0 _ c.from_residual-in_err-staged.result AreShown p.1 c.in_err-staged.ensures.read

pub returns-in_err-fixes-clause-read : goal.returns-in_err-fixes-clause-read
returns-in_err-fixes-clause-read g c =
    let r1 = first_read g.S.Store c.args.tx.now.conn.now c.read_answers.new.tx.conn.now c.in_ok-answers.answers _ c.in_ok-answers.ensures.read in
    let r2 = next_read g.S.Store c.args.tx.now.conn.now c.read_answers.new.tx.conn.now c.read_blobs.new.tx.conn.now _ r1 c.in_ok-blobs.blobs _ c.in_ok-blobs.ensures.read in
    let r3 = next_read g.S.Store c.args.tx.now.conn.now c.read_blobs.new.tx.conn.now c.read_staged.new.tx.conn.now _ r2 c.in_ok-staged.staged _ c.in_ok-staged.ensures.read in
    let p = err_from_is_err_and c.from_residual-in_err-fixes.result c.from_residual-in_err-fixes.ensures.1 in
    read_stops g.S.Store c.args.tx.now.conn.now c.read_staged.new.tx.conn.now c.read_fixes.new.tx.conn.now _ r3 _ p.0 _ c.from_residual-in_err-fixes.result AreShown p.1 c.in_err-fixes.ensures.read

pub returns-in_err-commits-clause-read : goal.returns-in_err-commits-clause-read
returns-in_err-commits-clause-read g c =
    let r1 = first_read g.S.Store c.args.tx.now.conn.now c.read_answers.new.tx.conn.now c.in_ok-answers.answers _ c.in_ok-answers.ensures.read in
    let r2 = next_read g.S.Store c.args.tx.now.conn.now c.read_answers.new.tx.conn.now c.read_blobs.new.tx.conn.now _ r1 c.in_ok-blobs.blobs _ c.in_ok-blobs.ensures.read in
    let r3 = next_read g.S.Store c.args.tx.now.conn.now c.read_blobs.new.tx.conn.now c.read_staged.new.tx.conn.now _ r2 c.in_ok-staged.staged _ c.in_ok-staged.ensures.read in
    let r4 = next_read g.S.Store c.args.tx.now.conn.now c.read_staged.new.tx.conn.now c.read_fixes.new.tx.conn.now _ r3 c.in_ok-fixes.fixes _ c.in_ok-fixes.ensures.read in
    let p = err_from_is_err_and c.from_residual-in_err-commits.result c.from_residual-in_err-commits.ensures.1 in
    read_stops g.S.Store c.args.tx.now.conn.now c.read_fixes.new.tx.conn.now c.read_commits.new.tx.conn.now _ r4 _ p.0 _ c.from_residual-in_err-commits.result AreShown p.1
    c.in_err-commits.ensures.read

pub returns-in_err-entries-clause-read : goal.returns-in_err-entries-clause-read
returns-in_err-entries-clause-read g c =
    let r1 = first_read g.S.Store c.args.tx.now.conn.now c.read_answers.new.tx.conn.now c.in_ok-answers.answers _ c.in_ok-answers.ensures.read in
    let r2 = next_read g.S.Store c.args.tx.now.conn.now c.read_answers.new.tx.conn.now c.read_blobs.new.tx.conn.now _ r1 c.in_ok-blobs.blobs _ c.in_ok-blobs.ensures.read in
    let r3 = next_read g.S.Store c.args.tx.now.conn.now c.read_blobs.new.tx.conn.now c.read_staged.new.tx.conn.now _ r2 c.in_ok-staged.staged _ c.in_ok-staged.ensures.read in
    let r4 = next_read g.S.Store c.args.tx.now.conn.now c.read_staged.new.tx.conn.now c.read_fixes.new.tx.conn.now _ r3 c.in_ok-fixes.fixes _ c.in_ok-fixes.ensures.read in
    let r5 = next_read g.S.Store c.args.tx.now.conn.now c.read_fixes.new.tx.conn.now c.read_commits.new.tx.conn.now _ r4 c.in_ok-commits.commits _ c.in_ok-commits.ensures.read in
    let p = err_from_is_err_and c.from_residual-in_err-entries.result c.from_residual-in_err-entries.ensures.1 in
    read_stops g.S.Store c.args.tx.now.conn.now c.read_commits.new.tx.conn.now c.read_entries.new.tx.conn.now _ r5 _ p.0 _ c.from_residual-in_err-entries.result AreShown p.1
    c.in_err-entries.ensures.read

pub returns-clause-read : goal.returns-clause-read
returns-clause-read g c =
    let r1 = first_read g.S.Store c.args.tx.now.conn.now c.read_answers.new.tx.conn.now c.in_ok-answers.answers _ c.in_ok-answers.ensures.read in
    let r2 = next_read g.S.Store c.args.tx.now.conn.now c.read_answers.new.tx.conn.now c.read_blobs.new.tx.conn.now _ r1 c.in_ok-blobs.blobs _ c.in_ok-blobs.ensures.read in
    let r3 = next_read g.S.Store c.args.tx.now.conn.now c.read_blobs.new.tx.conn.now c.read_staged.new.tx.conn.now _ r2 c.in_ok-staged.staged _ c.in_ok-staged.ensures.read in
    let r4 = next_read g.S.Store c.args.tx.now.conn.now c.read_staged.new.tx.conn.now c.read_fixes.new.tx.conn.now _ r3 c.in_ok-fixes.fixes _ c.in_ok-fixes.ensures.read in
    let r5 = next_read g.S.Store c.args.tx.now.conn.now c.read_fixes.new.tx.conn.now c.read_commits.new.tx.conn.now _ r4 c.in_ok-commits.commits _ c.in_ok-commits.ensures.read in
    let r6 = next_read g.S.Store c.args.tx.now.conn.now c.read_commits.new.tx.conn.now c.read_entries.new.tx.conn.now _ r5 c.in_ok-entries.entries _ c.in_ok-entries.ensures.read in
    read_ends g.S.Store c.args.tx.now.conn.now c.read_entries.new.tx.conn.now _ _ AreShown r6 (λ trees it. record {
      answers = it.0.0.0.0.0.0;
      answers_keyed = it.0.0.0.0.0.1;
      blobs = it.0.0.0.0.1;
      staged = it.0.0.0.1.0;
      staged_keyed = it.0.0.0.1.1;
      fixes = it.0.0.1.0;
      fixes_numbered = it.0.0.1.1;
      commits = it.0.1;
      entries = it.1;
    })
