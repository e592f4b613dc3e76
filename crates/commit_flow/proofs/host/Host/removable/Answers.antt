use Rattle.std.proofs.lemmas.Result.{err_from_is_err_and}
use Rattle.commit_flow.specs.Steps.{IsRemoveRefusal}
use Rattle.commit_flow.proofs.PathLemmas.{read_refused}
use Rattle.commit_flow.proofs.host.Host.removable.Goals as goal

pub returns-in_err-path-clause-refused : goal.returns-in_err-path-clause-refused
returns-in_err-path-clause-refused g c =
    let p = err_from_is_err_and c.from_residual.result c.from_residual.ensures.1 in
    rw (p.1, p.2) (read_refused (IsRemoveRefusal c.args.self.now.store.kept.repo c.args.path.now) c.args.path.now (λ fault is. is) (λ legal. legal) c.in_err-path.field-0.0
    c.in_err-path.ensures.refused)
