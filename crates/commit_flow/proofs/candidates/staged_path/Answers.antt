use Rattle.std.proofs.Common.{inl, inr, refl}
use Rattle.std.proofs.lemmas.Result.{err_from_is_err_and}
use Rattle.commit_flow.specs.Preparations.{IsNameFault}
use Rattle.commit_flow.proofs.PathLemmas.{read_refused}
use Rattle.commit_flow.proofs.candidates.staged_path.Goals as goal

pub returns-in_err-path-clause-refused : goal.returns-in_err-path-clause-refused
returns-in_err-path-clause-refused g c =
    let p = err_from_is_err_and c.from_residual.result c.from_residual.ensures.1 in
    rw (p.1, p.2) (read_refused (IsNameFault c.args.store.now.kept.repo c.args.name.now) c.args.name.now (λ fault is. inr is) (λ legal. inl refl) c.in_err-path.field-0.0 c.in_err-path.ensures.refused)
