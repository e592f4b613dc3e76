use Rattle.std.proofs.lemmas.Result.{err_from_is_err_and}
use Rattle.repo_store.specs.RowRules.{IsBlobRow}
use Rattle.repo_store.proofs.FromRowsLemmas.{damage_middle}
use Rattle.repo_store.proofs.from_rows.blobs.contents_of.Goals as goal

pub returns-in_err-admit-clause-broken : goal.returns-in_err-admit-clause-broken
returns-in_err-admit-clause-broken c =
    let p = err_from_is_err_and c.from_residual.result c.from_residual.ensures.1 in
    rw (p.1, p.2) (damage_middle IsBlobRow c.rows.yielded c.in-Some.row _ _ c.args.rows.items _ c.rows.invariant.left (c.in-Some.ensures.steps.0) c.in_err-admit.ensures.broken)
