use Rattle.std.proofs.Common.{◌∙◌, List, ap, refl, subst}
use Rattle.std.proofs.lemmas.Result.{err_from_is_err_and}
use Rattle.hook_base.specs.declared.change.Change.{Change}
use Rattle.repo_store.specs.StoreBooks.{remembered_by}
use Rattle.hook_run.specs.Moments.{moment}
use Rattle.store_faults.specs.Faults.{IsRefusal}
use Rattle.repo_store.specs.Kept.{FixCollides, HasLarge, Kept, setting}
use Rattle.repo_store.specs.Repository.{Repository, staged_changes}
use Rattle.commit_flow.specs.Refusals.{of_store}
use Rattle.commit_flow.proofs.CommitStoreLemmas.{change_done, change_refused}
use Rattle.commit_flow.proofs.RunEnds.{set_safely, set_step, unset_safely, unset_step}
use Rattle.commit_flow.proofs.RunLemmas.{made_so, settled}
use Rattle.commit_flow.proofs.SafeLemmas.{halted_safely}
use Rattle.commit_flow.proofs.run.run_in.Goals as goal

pub returns-in_err-ran-clause-command : goal.returns-in_err-ran-clause-command
returns-in_err-ran-clause-command g c =
    let children = g.C.Children in
    let from = moment (children.call_count c.args.children.now) (children.fault_count c.args.children.now) (remembered_by c.args.store.now.kept) in
    let to = moment (children.call_count c.run_on_staged.new.children) (children.fault_count c.run_on_staged.new.children) (remembered_by c.run_on_staged.new.store.kept) in
    let p = err_from_is_err_and c.from_residual.result c.from_residual.ensures.1 in
    rw (p.1, p.2) (halted_safely g.S.Store (children.tells c.args.children.now) from to c.args.store.now c.run_on_staged.new.store refl refl c.args.ask.now c.in_err-ran.field-0.0
    c.in_err-ran.ensures.stopped c.run_on_staged.ensures.rest c.run_on_staged.ensures.left)

-- the fixes are refused

pub returns-in_err-set_fixes-clause-stopped : goal.returns-in_err-set_fixes-clause-stopped
returns-in_err-set_fixes-clause-stopped g c =
    let children = g.C.Children in
    let tells = children.tells c.args.children.now in
    let from = moment (children.call_count c.args.children.now) (children.fault_count c.args.children.now) (remembered_by c.args.store.now.kept) in
    let calls = children.call_count c.run_on_staged.new.children in
    let faults = children.fault_count c.run_on_staged.new.children in
    let old = c.args.store.now in
    let between = c.run_on_staged.new.store in
    let new = c.set_fixes.new.self in
    let run = c.in_ok-ran.ensures.run in
    let fault = c.in_err-set_fixes.field-0.0 in
    let why =
    subst (λ (changes : List Change). IsRefusal (HasLarge (staged_changes changes between.kept.repo.staged)) ⊥ (FixCollides (staged_changes changes between.kept.repo.staged) between.kept.contents)
    fault) c.as_slice.ensures.same c.in_err-set_fixes.ensures.why in
    let p = err_from_is_err_and c.from_residual-in_err-set_fixes.result c.from_residual-in_err-set_fixes.ensures.1 in
    rw (p.1, p.2) (unset_step g.S.Store tells from calls faults old between new refl c.run_on_staged.ensures.rest c.run_on_staged.ensures.left c.args.ask.now run.prepared run.ready c.in_ok-ran.ran
    run.run
    c.as_slice.result.now c.as_slice.ensures.same c.in_err-set_fixes.ensures.change.same fault why)

pub returns-in_err-set_fixes-clause-kept : goal.returns-in_err-set_fixes-clause-kept
returns-in_err-set_fixes-clause-kept g c =
    let p = err_from_is_err_and c.from_residual-in_err-set_fixes.result c.from_residual-in_err-set_fixes.ensures.1 in
    rw p.1 (ap (λ (kept : Kept). kept.repo) c.in_err-set_fixes.ensures.change.same ∙ c.run_on_staged.ensures.rest.repo)

pub returns-in_err-set_fixes-clause-command : goal.returns-in_err-set_fixes-clause-command
returns-in_err-set_fixes-clause-command g c =
    let children = g.C.Children in
    let tells = children.tells c.args.children.now in
    let from = moment (children.call_count c.args.children.now) (children.fault_count c.args.children.now) (remembered_by c.args.store.now.kept) in
    let calls = children.call_count c.run_on_staged.new.children in
    let faults = children.fault_count c.run_on_staged.new.children in
    let old = c.args.store.now in
    let between = c.run_on_staged.new.store in
    let new = c.set_fixes.new.self in
    let run = c.in_ok-ran.ensures.run in
    let fault = c.in_err-set_fixes.field-0.0 in
    let why =
    subst (λ (changes : List Change). IsRefusal (HasLarge (staged_changes changes between.kept.repo.staged)) ⊥ (FixCollides (staged_changes changes between.kept.repo.staged) between.kept.contents)
    fault) c.as_slice.ensures.same c.in_err-set_fixes.ensures.why in
    let p = err_from_is_err_and c.from_residual-in_err-set_fixes.result c.from_residual-in_err-set_fixes.ensures.1 in
    rw (p.1, p.2) (unset_safely g.S.Store tells from calls faults old between new refl c.run_on_staged.ensures.rest c.run_on_staged.ensures.left c.args.ask.now run.prepared run.ready c.in_ok-ran.ran
    run.run
    c.as_slice.result.now c.as_slice.ensures.same c.in_err-set_fixes.ensures.change.same fault why
    {A = Unit {0}} (of_store fault) (change_refused g.S.Store between new (setting c.as_slice.result.now between.kept) {B = Unit {0}} fault (of_store fault) c.in_err-set_fixes.ensures.transaction))

-- the fixes are set

pub returns-clause-step : goal.returns-clause-step
returns-clause-step g c =
    let children = g.C.Children in
    let tells = children.tells c.args.children.now in
    let from = moment (children.call_count c.args.children.now) (children.fault_count c.args.children.now) (remembered_by c.args.store.now.kept) in
    let calls = children.call_count c.run_on_staged.new.children in
    let faults = children.fault_count c.run_on_staged.new.children in
    let old = c.args.store.now in
    let between = c.run_on_staged.new.store in
    let new = c.set_fixes.new.self in
    let run = c.in_ok-ran.ensures.run in
    set_step g.S.Store tells from calls faults old between new refl c.run_on_staged.ensures.rest c.run_on_staged.ensures.left c.args.ask.now run.prepared run.ready c.in_ok-ran.ran run.run
    c.as_slice.result.now c.as_slice.ensures.same c.in_ok-set_fixes.ensures.change.done

pub returns-clause-fixed : goal.returns-clause-fixed
returns-clause-fixed g c =
    let children = g.C.Children in
    let from = moment (children.call_count c.args.children.now) (children.fault_count c.args.children.now) (remembered_by c.args.store.now.kept) in
    let to = moment (children.call_count c.run_on_staged.new.children) (children.fault_count c.run_on_staged.new.children) (remembered_by c.run_on_staged.new.store.kept) in
    let between = c.run_on_staged.new.store.kept in
    let ran = c.in_ok-ran.ran in
    let made = settled between c.set_fixes.new.self.kept c.as_slice.result.now ran.changes c.in_ok-set_fixes.ensures.change.done c.as_slice.ensures.same in
    ap (λ (repo : Repository). repo.fixes) (ap (λ (kept : Kept). kept.repo) made
    ∙ made_so (children.tells c.args.children.now) from to c.args.store.now.kept.repo c.args.ask.now c.in_ok-ran.ensures.run.prepared c.in_ok-ran.ensures.run.ready ran c.in_ok-ran.ensures.run.run
    between c.run_on_staged.ensures.rest.repo)

pub returns-clause-kept : goal.returns-clause-kept
returns-clause-kept g c =
    let between = c.run_on_staged.new.store.kept in
    record {
      between = between;
      same = c.run_on_staged.ensures.rest.repo;
      made = settled between c.set_fixes.new.self.kept c.as_slice.result.now c.in_ok-ran.ran.changes c.in_ok-set_fixes.ensures.change.done c.as_slice.ensures.same;
    }

pub returns-clause-command : goal.returns-clause-command
returns-clause-command g c =
    let children = g.C.Children in
    let tells = children.tells c.args.children.now in
    let from = moment (children.call_count c.args.children.now) (children.fault_count c.args.children.now) (remembered_by c.args.store.now.kept) in
    let calls = children.call_count c.run_on_staged.new.children in
    let faults = children.fault_count c.run_on_staged.new.children in
    let old = c.args.store.now in
    let between = c.run_on_staged.new.store in
    let new = c.set_fixes.new.self in
    let run = c.in_ok-ran.ensures.run in
    set_safely g.S.Store tells from calls faults old between new refl c.run_on_staged.ensures.rest c.run_on_staged.ensures.left c.args.ask.now run.prepared run.ready c.in_ok-ran.ran run.run
    c.as_slice.result.now c.as_slice.ensures.same c.in_ok-set_fixes.ensures.change.done
    c.in_ok-ran.ran (change_done g.S.Store between new (setting c.as_slice.result.now between.kept) tt c.in_ok-ran.ran c.in_ok-set_fixes.ensures.change.done c.in_ok-set_fixes.ensures.transaction)
