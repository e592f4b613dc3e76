use Rattle.std.proofs.Common.{refl}
use Rattle.repo_store.specs.StoreBooks.{remembered_by}
use Rattle.hook_run.specs.declared.reuse.Reuse.TheVariants as reuse
use Rattle.hook_run.specs.Moments.{moment}
use Rattle.commit_flow.proofs.PlayLemmas.{same_remembered, unmade_of}
use Rattle.commit_flow.proofs.SafeLemmas.{runless_safely}
use Rattle.commit_flow.proofs.host.Host.played.Goals as goal

pub returns-in-Add-clause-played : goal.returns-in-Add-clause-played
returns-in-Add-clause-played g c =
    let children = g.C.Children in
    let tells = children.tells c.args.children.now in
    let calls = children.call_count c.args.children.now in
    let faults = children.fault_count c.args.children.now in
    let old = c.args.self.now.store in
    let new = c.play_add.new.self.store in
    rw c.in-Add.is (runless_safely g.S.Store tells (moment calls faults (remembered_by old.kept)) (moment calls faults (remembered_by new.kept)) old new refl refl _ c.play_add.result (λ runs. runs)
    c.play_add.ensures.step
    (unmade_of tells reuse.All calls faults (remembered_by old.kept) (remembered_by new.kept) (same_remembered old.kept new.kept c.play_add.ensures.answers c.play_add.ensures.limit))
    c.play_add.ensures.one)

pub returns-in-Remove-clause-played : goal.returns-in-Remove-clause-played
returns-in-Remove-clause-played g c =
    let children = g.C.Children in
    let tells = children.tells c.args.children.now in
    let calls = children.call_count c.args.children.now in
    let faults = children.fault_count c.args.children.now in
    let old = c.args.self.now.store in
    let new = c.play_remove.new.self.store in
    rw c.in-Remove.is (runless_safely g.S.Store tells (moment calls faults (remembered_by old.kept)) (moment calls faults (remembered_by new.kept)) old new refl refl _ c.play_remove.result
    (λ runs. runs) c.play_remove.ensures.step
    (unmade_of tells reuse.All calls faults (remembered_by old.kept) (remembered_by new.kept) (same_remembered old.kept new.kept c.play_remove.ensures.answers c.play_remove.ensures.limit))
    c.play_remove.ensures.one)

pub returns-in-Stage-clause-played : goal.returns-in-Stage-clause-played
returns-in-Stage-clause-played g c =
    let children = g.C.Children in
    let tells = children.tells c.args.children.now in
    let calls = children.call_count c.args.children.now in
    let faults = children.fault_count c.args.children.now in
    let old = c.args.self.now.store in
    let new = c.play_stage.new.self.store in
    rw c.in-Stage.is (runless_safely g.S.Store tells (moment calls faults (remembered_by old.kept)) (moment calls faults (remembered_by new.kept)) old new refl refl _ c.play_stage.result
    (λ runs. runs) c.play_stage.ensures.step
    (unmade_of tells reuse.All calls faults (remembered_by old.kept) (remembered_by new.kept) c.play_stage.ensures.remembered) c.play_stage.ensures.one)

pub returns-in-Accept-clause-played : goal.returns-in-Accept-clause-played
returns-in-Accept-clause-played g c =
    let children = g.C.Children in
    let tells = children.tells c.args.children.now in
    let calls = children.call_count c.args.children.now in
    let faults = children.fault_count c.args.children.now in
    let old = c.args.self.now.store in
    let new = c.play_accept.new.self.store in
    rw c.in-Accept.is (runless_safely g.S.Store tells (moment calls faults (remembered_by old.kept)) (moment calls faults (remembered_by new.kept)) old new refl refl _ c.play_accept.result
    (λ runs. runs) c.play_accept.ensures.step
    (unmade_of tells reuse.All calls faults (remembered_by old.kept) (remembered_by new.kept) (same_remembered old.kept new.kept c.play_accept.ensures.answers c.play_accept.ensures.limit))
    c.play_accept.ensures.one)

pub returns-in-Forget-clause-played : goal.returns-in-Forget-clause-played
returns-in-Forget-clause-played g c =
    let children = g.C.Children in
    let calls = children.call_count c.args.children.now in
    let faults = children.fault_count c.args.children.now in
    let old = c.args.self.now.store in
    let new = c.play_forget.new.self.store in
    rw c.in-Forget.is (runless_safely g.S.Store (children.tells c.args.children.now) (moment calls faults (remembered_by old.kept)) (moment calls faults (remembered_by new.kept)) old new refl refl _
    c.play_forget.result (λ runs. runs) c.play_forget.ensures.step
    (refl, record { forgotten = c.play_forget.ensures.forgotten; called = refl; faulted = refl }) c.play_forget.ensures.one)

pub returns-in-Limit-clause-played : goal.returns-in-Limit-clause-played
returns-in-Limit-clause-played g c =
    let children = g.C.Children in
    let calls = children.call_count c.args.children.now in
    let faults = children.fault_count c.args.children.now in
    let old = c.args.self.now.store in
    let new = c.play_limit.new.self.store in
    rw c.in-Limit.is (runless_safely g.S.Store (children.tells c.args.children.now) (moment calls faults (remembered_by old.kept)) (moment calls faults (remembered_by new.kept)) old new refl refl _
    c.play_limit.result (λ runs. runs) c.play_limit.ensures.step
    (refl, record { limited = c.play_limit.ensures.limited; called = refl; faulted = refl }) c.play_limit.ensures.one)
