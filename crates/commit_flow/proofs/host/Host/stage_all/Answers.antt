use Rattle.std.proofs.lemmas.Result.{err_from_is_err_and}
use Rattle.std.proofs.Common.{Ok, Err, ap}
use Rattle.repo_store.specs.StoreBooks.{remembered_by}
use Rattle.commit_flow.proofs.EditStepLemmas.{all_steps, edits_done, edits_refused, edits_remember, edits_step, edits_step_refused, is_staging_stop, none_collides, staged_command}
use Rattle.commit_flow.proofs.host.Host.stage_all.Goals as goal

pub returns-in_err-stage_all-clause-refused : goal.returns-in_err-stage_all-clause-refused
returns-in_err-stage_all-clause-refused g c =
    let p = err_from_is_err_and c.from_residual.result c.from_residual.ensures.1 in
    rw (p.1, p.2) (is_staging_stop c.args.edits.now c.args.self.now.store.kept c.in_err-stage_all.field-0.0 c.in_err-stage_all.ensures.refused)

pub returns-in_err-stage_all-clause-command : goal.returns-in_err-stage_all-clause-command
returns-in_err-stage_all-clause-command g c =
    let p = err_from_is_err_and c.from_residual.result c.from_residual.ensures.1 in
    rw p.1 (edits_refused g.S.Store c.args.self.now.store c.stage_all.new.self c.args.edits.now c.in_err-stage_all.field-0.0 p.0 c.in_err-stage_all.ensures.asked
    c.in_err-stage_all.ensures.transaction)

pub returns-clause-steps : goal.returns-clause-steps
returns-clause-steps g c = rw c.in_ok-stage_all.ensures.change.done (all_steps c.args.edits.now c.args.self.now.store.kept c.in_ok-stage_all.ensures.editable)

pub returns-clause-command : goal.returns-clause-command
returns-clause-command g c =
    edits_done g.S.Store c.args.self.now.store c.stage_all.new.self c.args.edits.now tt tt c.in_ok-stage_all.ensures.editable c.in_ok-stage_all.ensures.change.done
    c.in_ok-stage_all.ensures.transaction

pub returns-clause-apart : goal.returns-clause-apart
returns-clause-apart g c = none_collides c.args.edits.now c.args.self.now.store.kept c.in_ok-stage_all.ensures.editable

pub returns-in_err-stage_all-clause-step : goal.returns-in_err-stage_all-clause-step
returns-in_err-stage_all-clause-step g c =
    let p = err_from_is_err_and c.from_residual.result c.from_residual.ensures.1 in
    rw (p.1, p.2) (edits_step_refused c.args.edits.now c.args.self.now.store.kept c.stage_all.new.self.kept c.in_err-stage_all.field-0.0 c.in_err-stage_all.ensures.refused
    c.in_err-stage_all.ensures.change.same)

pub returns-in_err-stage_all-clause-one : goal.returns-in_err-stage_all-clause-one
returns-in_err-stage_all-clause-one g c =
    let p = err_from_is_err_and c.from_residual.result c.from_residual.ensures.1 in
    rw p.1 (staged_command g.S.Store c.args.self.now.store c.stage_all.new.self c.args.edits.now {A = Unit {0}} (Err p.0)
    (edits_refused g.S.Store c.args.self.now.store c.stage_all.new.self c.args.edits.now c.in_err-stage_all.field-0.0 p.0 c.in_err-stage_all.ensures.asked c.in_err-stage_all.ensures.transaction))

pub returns-in_err-stage_all-clause-remembered : goal.returns-in_err-stage_all-clause-remembered
returns-in_err-stage_all-clause-remembered g c = ap remembered_by c.in_err-stage_all.ensures.change.same

pub returns-clause-step : goal.returns-clause-step
returns-clause-step g c = rw c.in_ok-stage_all.ensures.change.done (edits_step c.args.edits.now c.args.self.now.store.kept c.in_ok-stage_all.ensures.editable)

pub returns-clause-one : goal.returns-clause-one
returns-clause-one g c =
    staged_command g.S.Store c.args.self.now.store c.stage_all.new.self c.args.edits.now {A = Unit {0}} (Ok tt)
    (edits_done g.S.Store c.args.self.now.store c.stage_all.new.self c.args.edits.now tt tt c.in_ok-stage_all.ensures.editable c.in_ok-stage_all.ensures.change.done
    c.in_ok-stage_all.ensures.transaction)

pub returns-clause-remembered : goal.returns-clause-remembered
returns-clause-remembered g c = rw c.in_ok-stage_all.ensures.change.done (edits_remember c.args.edits.now c.args.self.now.store.kept)
