use Rattle.std.proofs.lemmas.Result.{err_from_is_err_and}
use Rattle.commit_flow.proofs.commit_begun.begin_commit.Goals as goal

pub returns-in_err-hashed-clause-refused : goal.returns-in_err-hashed-clause-refused
returns-in_err-hashed-clause-refused g c =
    let p = err_from_is_err_and c.from_residual-in_err-hashed.result c.from_residual-in_err-hashed.ensures.1 in
    rw (p.1, p.2) c.in_ok-check_committable.ensures.committable
