use Rattle.std.proofs.Common.{refl}
use Rattle.std.proofs.lemmas.Result.{err_from_is_err_and}
use Rattle.repo_store.specs.StoreBooks.{MayRemember, remembered_by}
use Rattle.hook_run.specs.Moments.{moment}
use Rattle.commit_flow.proofs.RunLemmas.{run_refused_if, staged_if, unready}
use Rattle.repo_store.specs.RestLemmas.{rests_itself}
use Rattle.commit_flow.proofs.LeftLemmas.{left_same}
use Rattle.commit_flow.proofs.run.run_on_staged.Goals as goal

pub returns-in_err-prepared-clause-stopped : goal.returns-in_err-prepared-clause-stopped
returns-in_err-prepared-clause-stopped g c =
    let children = g.C.Children in
    let at = moment (children.call_count c.args.children.now) (children.fault_count c.args.children.now) (remembered_by c.args.store.now.kept) in
    let p = err_from_is_err_and c.from_residual.result c.from_residual.ensures.1 in
    rw (p.1, p.2) (unready (children.tells c.args.children.now) at c.args.store.now.kept.repo c.args.ask.now c.args.store.now.kept c.in_err-prepared.field-0.0 refl c.in_err-prepared.ensures.refused)

pub returns-in_err-prepared-clause-rest : goal.returns-in_err-prepared-clause-rest
returns-in_err-prepared-clause-rest g c = rests_itself g.S.Store c.args.store.now

pub returns-clause-run : goal.returns-clause-run
returns-clause-run g c =
    let children = g.C.Children in
    let from = moment (children.call_count c.args.children.now) (children.fault_count c.args.children.now) (remembered_by c.args.store.now.kept) in
    let to = moment (children.call_count c.run_prepared.new.children) (children.fault_count c.run_prepared.new.children) (remembered_by c.run_prepared.new.book.kept) in
    staged_if (children.tells c.args.children.now) from to c.args.store.now.kept.repo c.args.ask.now c.in_ok-prepared.prepared c.in_ok-prepared.ensures.ready c.run_prepared.result
    c.run_prepared.ensures.run

pub returns-clause-stopped : goal.returns-clause-stopped
returns-clause-stopped g c =
    let children = g.C.Children in
    let from = moment (children.call_count c.args.children.now) (children.fault_count c.args.children.now) (remembered_by c.args.store.now.kept) in
    let to = moment (children.call_count c.run_prepared.new.children) (children.fault_count c.run_prepared.new.children) (remembered_by c.run_prepared.new.book.kept) in
    run_refused_if (children.tells c.args.children.now) from to c.args.store.now.kept.repo c.args.ask.now c.in_ok-prepared.prepared c.in_ok-prepared.ensures.ready
    c.run_prepared.new.book.kept c.run_prepared.ensures.rest.repo c.run_prepared.result c.run_prepared.ensures.stopped

pub returns-in_err-prepared-clause-left : goal.returns-in_err-prepared-clause-left
returns-in_err-prepared-clause-left g c = left_same (g.C.Children.tells c.args.children.now) (remembered_by c.args.store.now.kept) (MayRemember g.S.Store c.args.store.now)
