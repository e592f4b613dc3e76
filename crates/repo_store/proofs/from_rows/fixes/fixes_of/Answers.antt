use Rattle.std.proofs.Common.{map}
use Rattle.std.proofs.lemmas.Result.{err_from_is_err_and}
use Rattle.repo_store.specs.Lists.{file_of}
use Rattle.repo_store.specs.Rows.{blob_row, staged_row}
use Rattle.repo_store.specs.RowRules.{IsFixRow}
use Rattle.repo_store.proofs.FromRowsLemmas.{damage_middle}
use Rattle.repo_store.proofs.from_rows.fixes.fixes_of.Goals as goal

pub returns-in_err-fix-clause-broken : goal.returns-in_err-fix-clause-broken
returns-in_err-fix-clause-broken c =
    let p = err_from_is_err_and c.from_residual.result c.from_residual.ensures.1 in
    rw (p.1, p.2) (damage_middle (IsFixRow (map blob_row c.args.contents.now) (map staged_row (map file_of c.args.staged.now))) c.rows.yielded c.in-Some.row _ _ c.args.rows.items _
    c.rows.invariant.left (c.in-Some.ensures.steps.0) c.in_err-fix.ensures.broken)
