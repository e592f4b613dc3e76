use Rattle.std.proofs.lemmas.Result.{err_from_is_err_and}
use Rattle.hook_cli.specs.CommandOver.{IsPathRefusal}
use Rattle.commit_flow.proofs.PathLemmas.{read_refused}
use Rattle.hook_cli.proofs.look_up.legal_path.Goals as goal

pub returns-in_err-path-clause-refused : goal.returns-in_err-path-clause-refused
returns-in_err-path-clause-refused c =
    let p = err_from_is_err_and c.from_residual.result c.from_residual.ensures.1 in
    rw (p.1, p.2) (read_refused (IsPathRefusal c.args.text.now) c.args.text.now (λ fault is. is) (λ legal. legal) c.in_err-path.field-0.0 c.in_err-path.ensures.refused)
