use Rattle.std.proofs.lemmas.Result.{err_from_is_err_and}
use Rattle.repo_store.specs.Edits.{IsAddFault}
use Rattle.repo_store.proofs.PathLemmas.{read_refused}
use Rattle.repo_store.proofs.lists.Lists.add.Goals as goal

pub returns-in_err-path-clause-refused : goal.returns-in_err-path-clause-refused
returns-in_err-path-clause-refused c =
    let p = err_from_is_err_and c.from_residual.result c.from_residual.ensures.1 in
    rw (p.1, p.2) (read_refused (IsAddFault c.args.path.now c.args.bytes.now c.args.asked c.args.self.now.kept) c.args.path.now (λ fault is. is) (λ legal. (legal, tt)) c.in_err-path.field-0.0
    c.in_err-path.ensures.refused)
