use Rattle.std.proofs.Common.{Ok, Err}
use Rattle.std.proofs.lemmas.Result.{err_from_is_err_and}
use Rattle.store_tables.specs.Schema.{no_more}
use Rattle.store_tables.specs.Tables.{IsBare, IsEmptyStore, first_tables}
use Rattle.store_tables.proofs.MakeLemmas.{made_then, made_all, made_to, stopped}
use Rattle.store_tables.proofs.creates.make_tables.Goals as goal

pub returns-clause-made : goal.returns-clause-made
returns-clause-made g c =
    made_to g.S.Store c.args.tx.now.conn.now c.make_answers.new.tx.conn.now (IsBare (first_tables 0 0)) (IsBare (first_tables 7 6)) IsEmptyStore (λ db bare. (bare, made_all no_more db bare))
    (made_then g.S.Store c.args.tx.now.conn.now c.make_entries.new.tx.conn.now c.make_answers.new.tx.conn.now (Ok tt) (IsBare (first_tables 0 0)) (IsBare (first_tables 6 5))
    (IsBare (first_tables 7 6)) (made_then g.S.Store c.args.tx.now.conn.now c.make_commits.new.tx.conn.now c.make_entries.new.tx.conn.now (Ok tt) (IsBare (first_tables 0 0))
    (IsBare (first_tables 5 4)) (IsBare (first_tables 6 5)) (made_then g.S.Store c.args.tx.now.conn.now c.make_fixes.new.tx.conn.now c.make_commits.new.tx.conn.now (Ok tt)
    (IsBare (first_tables 0 0)) (IsBare (first_tables 4 4)) (IsBare (first_tables 5 4))
    (made_then g.S.Store c.args.tx.now.conn.now c.make_staged.new.tx.conn.now c.make_fixes.new.tx.conn.now (Ok tt) (IsBare (first_tables 0 0)) (IsBare (first_tables 3 3))
    (IsBare (first_tables 4 4)) (made_then g.S.Store c.args.tx.now.conn.now c.make_blobs.new.tx.conn.now c.make_staged.new.tx.conn.now (Ok tt) (IsBare (first_tables 0 0))
    (IsBare (first_tables 2 2)) (IsBare (first_tables 3 3)) (made_then g.S.Store c.args.tx.now.conn.now c.make_meta.new.tx.conn.now c.make_blobs.new.tx.conn.now (Ok tt) (IsBare (first_tables 0 0))
    (IsBare (first_tables 1 1)) (IsBare (first_tables 2 2)) c.in_ok-make_meta.ensures.made c.in_ok-make_blobs.ensures.made) c.in_ok-make_staged.ensures.made) c.in_ok-make_fixes.ensures.made)
    c.in_ok-make_commits.ensures.made) c.in_ok-make_entries.ensures.made) c.in_ok-make_answers.ensures.made)

pub returns-in_err-make_meta-clause-made : goal.returns-in_err-make_meta-clause-made
returns-in_err-make_meta-clause-made g c =
    let p =
    err_from_is_err_and c.from_residual.result c.from_residual.ensures.1 in stopped g.S.Store c.args.tx.now.conn.now c.make_meta.new.tx.conn.now _ p.0 c.from_residual.result
    (IsBare (first_tables 0 0)) (IsBare (first_tables 1 1)) IsEmptyStore p.1 c.in_err-make_meta.ensures.made

pub returns-in_err-make_blobs-clause-made : goal.returns-in_err-make_blobs-clause-made
returns-in_err-make_blobs-clause-made g c =
    let p =
    err_from_is_err_and c.from_residual-in_err-make_blobs.result c.from_residual-in_err-make_blobs.ensures.1 in stopped g.S.Store c.args.tx.now.conn.now c.make_blobs.new.tx.conn.now _ p.0
    c.from_residual-in_err-make_blobs.result (IsBare (first_tables 0 0)) (IsBare (first_tables 2 2)) IsEmptyStore p.1
    (made_then g.S.Store c.args.tx.now.conn.now c.make_meta.new.tx.conn.now c.make_blobs.new.tx.conn.now (Err c.in_err-make_blobs.field-0.0) (IsBare (first_tables 0 0)) (IsBare (first_tables 1 1))
    (IsBare (first_tables 2 2)) c.in_ok-make_meta.ensures.made c.in_err-make_blobs.ensures.made)

pub returns-in_err-make_staged-clause-made : goal.returns-in_err-make_staged-clause-made
returns-in_err-make_staged-clause-made g c =
    let p =
    err_from_is_err_and c.from_residual-in_err-make_staged.result c.from_residual-in_err-make_staged.ensures.1 in stopped g.S.Store c.args.tx.now.conn.now c.make_staged.new.tx.conn.now _ p.0
    c.from_residual-in_err-make_staged.result (IsBare (first_tables 0 0)) (IsBare (first_tables 3 3)) IsEmptyStore p.1
    (made_then g.S.Store c.args.tx.now.conn.now c.make_blobs.new.tx.conn.now c.make_staged.new.tx.conn.now (Err c.in_err-make_staged.field-0.0) (IsBare (first_tables 0 0))
    (IsBare (first_tables 2 2)) (IsBare (first_tables 3 3)) (made_then g.S.Store c.args.tx.now.conn.now c.make_meta.new.tx.conn.now c.make_blobs.new.tx.conn.now (Ok tt) (IsBare (first_tables 0 0))
    (IsBare (first_tables 1 1)) (IsBare (first_tables 2 2)) c.in_ok-make_meta.ensures.made c.in_ok-make_blobs.ensures.made) c.in_err-make_staged.ensures.made)

pub returns-in_err-make_fixes-clause-made : goal.returns-in_err-make_fixes-clause-made
returns-in_err-make_fixes-clause-made g c =
    let p =
    err_from_is_err_and c.from_residual-in_err-make_fixes.result c.from_residual-in_err-make_fixes.ensures.1 in stopped g.S.Store c.args.tx.now.conn.now c.make_fixes.new.tx.conn.now _ p.0
    c.from_residual-in_err-make_fixes.result (IsBare (first_tables 0 0)) (IsBare (first_tables 4 4)) IsEmptyStore p.1
    (made_then g.S.Store c.args.tx.now.conn.now c.make_staged.new.tx.conn.now c.make_fixes.new.tx.conn.now (Err c.in_err-make_fixes.field-0.0) (IsBare (first_tables 0 0))
    (IsBare (first_tables 3 3)) (IsBare (first_tables 4 4)) (made_then g.S.Store c.args.tx.now.conn.now c.make_blobs.new.tx.conn.now c.make_staged.new.tx.conn.now (Ok tt)
    (IsBare (first_tables 0 0)) (IsBare (first_tables 2 2)) (IsBare (first_tables 3 3))
    (made_then g.S.Store c.args.tx.now.conn.now c.make_meta.new.tx.conn.now c.make_blobs.new.tx.conn.now (Ok tt) (IsBare (first_tables 0 0)) (IsBare (first_tables 1 1)) (IsBare (first_tables 2 2))
    c.in_ok-make_meta.ensures.made c.in_ok-make_blobs.ensures.made) c.in_ok-make_staged.ensures.made) c.in_err-make_fixes.ensures.made)

pub returns-in_err-make_commits-clause-made : goal.returns-in_err-make_commits-clause-made
returns-in_err-make_commits-clause-made g c =
    let p =
    err_from_is_err_and c.from_residual-in_err-make_commits.result c.from_residual-in_err-make_commits.ensures.1 in stopped g.S.Store c.args.tx.now.conn.now c.make_commits.new.tx.conn.now _ p.0
    c.from_residual-in_err-make_commits.result (IsBare (first_tables 0 0)) (IsBare (first_tables 5 4)) IsEmptyStore p.1
    (made_then g.S.Store c.args.tx.now.conn.now c.make_fixes.new.tx.conn.now c.make_commits.new.tx.conn.now (Err c.in_err-make_commits.field-0.0) (IsBare (first_tables 0 0))
    (IsBare (first_tables 4 4)) (IsBare (first_tables 5 4)) (made_then g.S.Store c.args.tx.now.conn.now c.make_staged.new.tx.conn.now c.make_fixes.new.tx.conn.now (Ok tt)
    (IsBare (first_tables 0 0)) (IsBare (first_tables 3 3)) (IsBare (first_tables 4 4))
    (made_then g.S.Store c.args.tx.now.conn.now c.make_blobs.new.tx.conn.now c.make_staged.new.tx.conn.now (Ok tt) (IsBare (first_tables 0 0)) (IsBare (first_tables 2 2))
    (IsBare (first_tables 3 3)) (made_then g.S.Store c.args.tx.now.conn.now c.make_meta.new.tx.conn.now c.make_blobs.new.tx.conn.now (Ok tt) (IsBare (first_tables 0 0)) (IsBare (first_tables 1 1))
    (IsBare (first_tables 2 2)) c.in_ok-make_meta.ensures.made c.in_ok-make_blobs.ensures.made) c.in_ok-make_staged.ensures.made) c.in_ok-make_fixes.ensures.made)
    c.in_err-make_commits.ensures.made)

pub returns-in_err-make_entries-clause-made : goal.returns-in_err-make_entries-clause-made
returns-in_err-make_entries-clause-made g c =
    let p =
    err_from_is_err_and c.from_residual-in_err-make_entries.result c.from_residual-in_err-make_entries.ensures.1 in stopped g.S.Store c.args.tx.now.conn.now c.make_entries.new.tx.conn.now _ p.0
    c.from_residual-in_err-make_entries.result (IsBare (first_tables 0 0)) (IsBare (first_tables 6 5)) IsEmptyStore p.1
    (made_then g.S.Store c.args.tx.now.conn.now c.make_commits.new.tx.conn.now c.make_entries.new.tx.conn.now (Err c.in_err-make_entries.field-0.0) (IsBare (first_tables 0 0))
    (IsBare (first_tables 5 4)) (IsBare (first_tables 6 5)) (made_then g.S.Store c.args.tx.now.conn.now c.make_fixes.new.tx.conn.now c.make_commits.new.tx.conn.now (Ok tt)
    (IsBare (first_tables 0 0)) (IsBare (first_tables 4 4)) (IsBare (first_tables 5 4))
    (made_then g.S.Store c.args.tx.now.conn.now c.make_staged.new.tx.conn.now c.make_fixes.new.tx.conn.now (Ok tt) (IsBare (first_tables 0 0)) (IsBare (first_tables 3 3))
    (IsBare (first_tables 4 4)) (made_then g.S.Store c.args.tx.now.conn.now c.make_blobs.new.tx.conn.now c.make_staged.new.tx.conn.now (Ok tt) (IsBare (first_tables 0 0))
    (IsBare (first_tables 2 2)) (IsBare (first_tables 3 3)) (made_then g.S.Store c.args.tx.now.conn.now c.make_meta.new.tx.conn.now c.make_blobs.new.tx.conn.now (Ok tt) (IsBare (first_tables 0 0))
    (IsBare (first_tables 1 1)) (IsBare (first_tables 2 2)) c.in_ok-make_meta.ensures.made c.in_ok-make_blobs.ensures.made) c.in_ok-make_staged.ensures.made) c.in_ok-make_fixes.ensures.made)
    c.in_ok-make_commits.ensures.made) c.in_err-make_entries.ensures.made)

pub returns-in_err-make_answers-clause-made : goal.returns-in_err-make_answers-clause-made
returns-in_err-make_answers-clause-made g c =
    let p =
    err_from_is_err_and c.from_residual-in_err-make_answers.result c.from_residual-in_err-make_answers.ensures.1 in stopped g.S.Store c.args.tx.now.conn.now c.make_answers.new.tx.conn.now _ p.0
    c.from_residual-in_err-make_answers.result (IsBare (first_tables 0 0)) (IsBare (first_tables 7 6)) IsEmptyStore p.1
    (made_then g.S.Store c.args.tx.now.conn.now c.make_entries.new.tx.conn.now c.make_answers.new.tx.conn.now (Err c.in_err-make_answers.field-0.0) (IsBare (first_tables 0 0))
    (IsBare (first_tables 6 5)) (IsBare (first_tables 7 6)) (made_then g.S.Store c.args.tx.now.conn.now c.make_commits.new.tx.conn.now c.make_entries.new.tx.conn.now (Ok tt)
    (IsBare (first_tables 0 0)) (IsBare (first_tables 5 4)) (IsBare (first_tables 6 5))
    (made_then g.S.Store c.args.tx.now.conn.now c.make_fixes.new.tx.conn.now c.make_commits.new.tx.conn.now (Ok tt) (IsBare (first_tables 0 0)) (IsBare (first_tables 4 4))
    (IsBare (first_tables 5 4)) (made_then g.S.Store c.args.tx.now.conn.now c.make_staged.new.tx.conn.now c.make_fixes.new.tx.conn.now (Ok tt) (IsBare (first_tables 0 0))
    (IsBare (first_tables 3 3)) (IsBare (first_tables 4 4)) (made_then g.S.Store c.args.tx.now.conn.now c.make_blobs.new.tx.conn.now c.make_staged.new.tx.conn.now (Ok tt)
    (IsBare (first_tables 0 0)) (IsBare (first_tables 2 2)) (IsBare (first_tables 3 3))
    (made_then g.S.Store c.args.tx.now.conn.now c.make_meta.new.tx.conn.now c.make_blobs.new.tx.conn.now (Ok tt) (IsBare (first_tables 0 0)) (IsBare (first_tables 1 1)) (IsBare (first_tables 2 2))
    c.in_ok-make_meta.ensures.made c.in_ok-make_blobs.ensures.made) c.in_ok-make_staged.ensures.made) c.in_ok-make_fixes.ensures.made) c.in_ok-make_commits.ensures.made)
    c.in_ok-make_entries.ensures.made) c.in_err-make_answers.ensures.made)
