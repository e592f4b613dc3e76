use Rattle.std.proofs.Common.{◌∙◌}
use Rattle.std.proofs.lemmas.Result.{err_from_is_err_and}
use Rattle.commit_flow.proofs.CommandLemmas.{count_remembered, forget_done, forget_refused, forgotten_all}
use Rattle.commit_flow.proofs.host.Host.forget.Goals as goal

pub returns-in_err-answers_forget-clause-command : goal.returns-in_err-answers_forget-clause-command
returns-in_err-answers_forget-clause-command g c =
    let p = err_from_is_err_and c.from_residual.result c.from_residual.ensures.1 in
    rw p.1 (forget_refused g.S.Store c.args.self.now.store c.answers_forget.new.self c.in_err-answers_forget.field-0.0 p.0 c.in_err-answers_forget.ensures.transaction)

pub returns-clause-command : goal.returns-clause-command
returns-clause-command g c =
    let number = c.in_ok-answers_forget.field-0 in
    forget_done g.S.Store c.args.self.now.store c.answers_forget.new.self number number c.in_ok-answers_forget.ensures.change.done c.in_ok-answers_forget.ensures.transaction

pub returns-clause-number : goal.returns-clause-number
returns-clause-number g c = c.in_ok-answers_forget.ensures.number ∙ count_remembered c.args.self.now.store.kept

pub returns-clause-forgotten : goal.returns-clause-forgotten
returns-clause-forgotten g c = forgotten_all c.args.self.now.store.kept c.answers_forget.new.self.kept c.in_ok-answers_forget.ensures.change.done
