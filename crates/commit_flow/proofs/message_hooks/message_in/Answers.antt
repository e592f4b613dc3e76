use Rattle.std.proofs.Common.{refl}
use Rattle.std.proofs.lemmas.Result.{err_from_is_err_and}
use Rattle.repo_store.specs.RestLemmas.{rests_itself}
use Rattle.repo_store.specs.StoreBooks.{MayRemember, remembered_by}
use Rattle.hook_run.specs.Moments.{moment}
use Rattle.commit_flow.specs.declared.reply.Reply.TheVariants.{MessageRan, Refused}
use Rattle.commit_flow.proofs.LeftLemmas.{left_same}
use Rattle.commit_flow.proofs.MessageRunLemmas.{message_halted, message_ran, message_unbegun}
use Rattle.commit_flow.proofs.SafeLemmas.{message_safely}
use Rattle.commit_flow.proofs.message_hooks.message_in.Goals as goal

-- ---- the hooks aren't begun

pub returns-in_err-begun-clause-step : goal.returns-in_err-begun-clause-step
returns-in_err-begun-clause-step g c =
    let children = g.C.Children in
    let tells = children.tells c.args.children.now in
    let store = c.args.store.now in
    let at = moment (children.call_count c.args.children.now) (children.fault_count c.args.children.now) (remembered_by store.kept) in
    let p = err_from_is_err_and c.from_residual.result c.from_residual.ensures.1 in
    rw (p.1, p.2) (message_unbegun tells store.kept.repo store.kept.repo refl c.args.ask.now c.args.message.now at c.in_err-begun.field-0.0 c.in_err-begun.ensures.refused)

pub returns-in_err-begun-clause-rest : goal.returns-in_err-begun-clause-rest
returns-in_err-begun-clause-rest g c = rests_itself g.S.Store c.args.store.now

pub returns-in_err-begun-clause-command : goal.returns-in_err-begun-clause-command
returns-in_err-begun-clause-command g c =
    let children = g.C.Children in
    let tells = children.tells c.args.children.now in
    let store = c.args.store.now in
    let at = moment (children.call_count c.args.children.now) (children.fault_count c.args.children.now) (remembered_by store.kept) in
    let p = err_from_is_err_and c.from_residual.result c.from_residual.ensures.1 in
    let refusal = c.in_err-begun.field-0.0 in
    let over = message_unbegun tells store.kept.repo store.kept.repo refl c.args.ask.now c.args.message.now at refusal c.in_err-begun.ensures.refused in
    rw (p.1, p.2) (message_safely g.S.Store tells at at store store refl refl c.args.ask.now c.args.message.now (Refused refusal) (λ done. done) over
    (rests_itself g.S.Store store) (left_same tells (remembered_by store.kept) (MayRemember g.S.Store store)))

-- ---- they are stopped

pub returns-in_err-end-clause-step : goal.returns-in_err-end-clause-step
returns-in_err-end-clause-step g c =
    let children = g.C.Children in
    let tells = children.tells c.args.children.now in
    let old = c.args.store.now in
    let new = c.run_stage.new.book in
    let from = moment (children.call_count c.args.children.now) (children.fault_count c.args.children.now) (remembered_by old.kept) in
    let to = moment (children.call_count c.run_stage.new.children) (children.fault_count c.run_stage.new.children) (remembered_by new.kept) in
    let p = err_from_is_err_and c.from_residual-in_err-end.result c.from_residual-in_err-end.ensures.1 in
    rw (p.1, p.2) (message_halted tells old.kept.repo new.kept.repo c.run_stage.ensures.rest.repo c.args.ask.now c.args.message.now from to c.in_ok-begun.begun
    c.in_ok-begun.ensures.begun c.stage_of_message-stage.result c.reuse_with-reuse.result c.as_slice-skip.result.now c.stage_of_message-stage.ensures
    c.reuse_with-reuse.ensures c.as_slice-skip.ensures c.in_err-end.field-0.0 c.in_err-end.ensures.halted)

pub returns-in_err-end-clause-command : goal.returns-in_err-end-clause-command
returns-in_err-end-clause-command g c =
    let children = g.C.Children in
    let tells = children.tells c.args.children.now in
    let old = c.args.store.now in
    let new = c.run_stage.new.book in
    let from = moment (children.call_count c.args.children.now) (children.fault_count c.args.children.now) (remembered_by old.kept) in
    let to = moment (children.call_count c.run_stage.new.children) (children.fault_count c.run_stage.new.children) (remembered_by new.kept) in
    let p = err_from_is_err_and c.from_residual-in_err-end.result c.from_residual-in_err-end.ensures.1 in
    let refusal = c.in_err-end.field-0.0 in
    let over = message_halted tells old.kept.repo new.kept.repo c.run_stage.ensures.rest.repo c.args.ask.now c.args.message.now from to c.in_ok-begun.begun
    c.in_ok-begun.ensures.begun c.stage_of_message-stage.result c.reuse_with-reuse.result c.as_slice-skip.result.now c.stage_of_message-stage.ensures
    c.reuse_with-reuse.ensures c.as_slice-skip.ensures refusal c.in_err-end.ensures.halted in
    rw (p.1, p.2) (message_safely g.S.Store tells from to old new refl refl c.args.ask.now c.args.message.now (Refused refusal) (λ done. done) over
    c.run_stage.ensures.rest c.run_stage.ensures.left)

-- ---- they are run

pub returns-clause-step : goal.returns-clause-step
returns-clause-step g c =
    let children = g.C.Children in
    let tells = children.tells c.args.children.now in
    let old = c.args.store.now in
    let new = c.run_stage.new.book in
    let from = moment (children.call_count c.args.children.now) (children.fault_count c.args.children.now) (remembered_by old.kept) in
    let to = moment (children.call_count c.run_stage.new.children) (children.fault_count c.run_stage.new.children) (remembered_by new.kept) in
    message_ran tells old.kept.repo new.kept.repo c.run_stage.ensures.rest.repo c.args.ask.now c.args.message.now from to c.in_ok-begun.begun
    c.in_ok-begun.ensures.begun c.stage_of_message-stage.result c.reuse_with-reuse.result c.as_slice-skip.result.now c.stage_of_message-stage.ensures
    c.reuse_with-reuse.ensures c.as_slice-skip.ensures c.in_ok-end.end c.in_ok-end.ensures.run

pub returns-clause-command : goal.returns-clause-command
returns-clause-command g c =
    let children = g.C.Children in
    let tells = children.tells c.args.children.now in
    let old = c.args.store.now in
    let new = c.run_stage.new.book in
    let from = moment (children.call_count c.args.children.now) (children.fault_count c.args.children.now) (remembered_by old.kept) in
    let to = moment (children.call_count c.run_stage.new.children) (children.fault_count c.run_stage.new.children) (remembered_by new.kept) in
    let end = c.in_ok-end.end in
    let over = message_ran tells old.kept.repo new.kept.repo c.run_stage.ensures.rest.repo c.args.ask.now c.args.message.now from to c.in_ok-begun.begun
    c.in_ok-begun.ensures.begun c.stage_of_message-stage.result c.reuse_with-reuse.result c.as_slice-skip.result.now c.stage_of_message-stage.ensures
    c.reuse_with-reuse.ensures c.as_slice-skip.ensures end c.in_ok-end.ensures.run in
    message_safely g.S.Store tells from to old new refl refl c.args.ask.now c.args.message.now (MessageRan end.passed end.report end.course.message) (λ done. done) over
    c.run_stage.ensures.rest c.run_stage.ensures.left
