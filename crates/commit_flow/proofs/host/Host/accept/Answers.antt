use Rattle.std.proofs.Common.{refl, rules}
use Rattle.std.proofs.lemmas.Result.{err_from_is_err_and}
use Rattle.commit_flow.proofs.CommandLemmas.{accept_done, accept_refused}
use Rattle.commit_flow.proofs.host.Host.accept.Goals as goal

pub returns-in_err-number-clause-command : goal.returns-in_err-number-clause-command
returns-in_err-number-clause-command g c =
    let p = err_from_is_err_and c.from_residual.result c.from_residual.ensures.1 in
    rw p.1 (accept_refused g.S.Store c.args.self.now.store c.args.self.now.store c.accept.new.self refl (λ none. search rules) c.in_err-number.field-0.0 p.0 c.in_err-number.ensures.transaction)

pub returns-clause-command : goal.returns-clause-command
returns-clause-command g c =
    accept_done g.S.Store c.args.self.now.store c.args.self.now.store c.accept.new.self refl (λ none. search rules) c.in_ok-number.number c.in_ok-number.ensures.change.done
    c.in_ok-number.ensures.transaction _
