use Rattle.std.proofs.lemmas.Result.{err_from_is_err_and}
use Rattle.std.proofs.Common.{ap, refl}
use Rattle.repo_store.specs.Kept.{Kept, limiting}
use Rattle.commit_flow.proofs.CommandLemmas.{done_transaction, limit_not_set, limit_refusal, limit_set, limited_so, refused_transaction}
use Rattle.commit_flow.proofs.host.Host.set_limit.Goals as goal

pub returns-in_err-set_answer_limit-clause-transaction : goal.returns-in_err-set_answer_limit-clause-transaction
returns-in_err-set_answer_limit-clause-transaction g c =
    let store = c.args.self.now.store in
    let p = err_from_is_err_and c.from_residual.result c.from_residual.ensures.1 in
    rw p.1 (refused_transaction g.S.Store store c.set_answer_limit.new.self (limiting c.args.limit store.kept) c.in_err-set_answer_limit.field-0.0 p.0 c.in_err-set_answer_limit.ensures.transaction)

pub returns-in_err-set_answer_limit-clause-why : goal.returns-in_err-set_answer_limit-clause-why
returns-in_err-set_answer_limit-clause-why g c =
    let p = err_from_is_err_and c.from_residual.result c.from_residual.ensures.1 in
    rw (p.1, p.2) (limit_refusal c.in_err-set_answer_limit.field-0.0 c.in_err-set_answer_limit.ensures.why)

pub returns-clause-transaction : goal.returns-clause-transaction
returns-clause-transaction g c =
    let store = c.args.self.now.store in
    done_transaction g.S.Store store c.set_answer_limit.new.self (limiting c.args.limit store.kept) tt c.len.result c.in_ok-set_answer_limit.ensures.transaction

pub returns-clause-limited : goal.returns-clause-limited
returns-clause-limited g c = limited_so c.args.limit c.args.self.now.store.kept c.set_answer_limit.new.self.kept c.in_ok-set_answer_limit.ensures.change.done

pub returns-in_err-set_answer_limit-clause-step : goal.returns-in_err-set_answer_limit-clause-step
returns-in_err-set_answer_limit-clause-step g c =
    let p = err_from_is_err_and c.from_residual.result c.from_residual.ensures.1 in
    rw (p.1, p.2) ((limit_refusal c.in_err-set_answer_limit.field-0.0 c.in_err-set_answer_limit.ensures.why, refl), ap (λ (kept : Kept). kept.repo) c.in_err-set_answer_limit.ensures.change.same)

pub returns-in_err-set_answer_limit-clause-command : goal.returns-in_err-set_answer_limit-clause-command
returns-in_err-set_answer_limit-clause-command g c =
    let p = err_from_is_err_and c.from_residual.result c.from_residual.ensures.1 in
    rw p.1 (limit_not_set g.S.Store c.args.self.now.store c.set_answer_limit.new.self c.args.limit c.in_err-set_answer_limit.field-0.0 p.0 c.in_err-set_answer_limit.ensures.transaction)

pub returns-clause-step : goal.returns-clause-step
returns-clause-step g c = (ap (λ (kept : Kept). kept.repo) c.in_ok-set_answer_limit.ensures.change.done, refl)

pub returns-clause-command : goal.returns-clause-command
returns-clause-command g c =
    limit_set g.S.Store c.args.self.now.store c.set_answer_limit.new.self c.args.limit tt c.len.result c.in_ok-set_answer_limit.ensures.change.done c.in_ok-set_answer_limit.ensures.transaction
