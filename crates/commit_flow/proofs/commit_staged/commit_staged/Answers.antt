use Rattle.std.proofs.Common.{refl}
use Rattle.std.proofs.lemmas.Result.{err_from_is_err_and}
use Rattle.commit_flow.proofs.CommitStoreLemmas.{change_unasked}
use Rattle.commit_flow.proofs.commit_staged.commit_staged.Goals as goal

pub returns-in_err-cleaned-clause-one : goal.returns-in_err-cleaned-clause-one
returns-in_err-cleaned-clause-one g c =
    let p = err_from_is_err_and c.from_residual.result c.from_residual.ensures.1 in
    rw p.1 (change_unasked g.S.Store c.args.store.now c.args.store.now _ p.0 refl)
