use Rattle.std.proofs.Common.{Ok, Err, refl, subst, ◌≡◌, arith}
use Rattle.repo_store.specs.Kept.{unstaging}
use Rattle.repo_store.specs.AllOrNothing.{IsAllOrNothing}
use Rattle.repo_store.specs.Shown.{Shown, IsOneTransaction}
use Rattle.repo_store.proofs.KeptLemmas.{unstaging_tables}
use Rattle.repo_store.proofs.CompleteLemmas.{complete_unstaged}
use Rattle.repo_store.proofs.RuleLemmas.{obeys_unstaged}
use Rattle.repo_store.proofs.StandLemmas.{tables_of, unnamed_in, refused_stands, done_stands, refused_transaction, done_transaction}
use Rattle.repo_store.proofs.store.Store.unstage.Goals as goal

pub invariant_of-self : goal.invariant_of-self
invariant_of-self g c =
    let new = c.unstage_rows.new.conn in
    let kept = c.self.inside.lists.kept in
    let complete = complete_unstaged c.args.path.now kept c.self.invariant.complete in
    let obeys = obeys_unstaged kept c.self.invariant.obeys c.args.path.now complete in
    refused_stands g.S.Store c.self.inside.conn new c.self.inside.next c.self.inside.next kept (unstaging c.args.path.now kept) _ c.self.invariant (unstaging_tables c.args.path.now kept)
    (g.met.S.Store.shut_if_dirty new.store) complete obeys (c.self.invariant.first, c.self.invariant.last) c.self.inside.next refl
    kept refl c.in-Err.error (c.in-Err.ensures (tables_of kept) c.self.inside.next kept.answers)

pub invariant_of-self-2 : goal.invariant_of-self-2
invariant_of-self-2 g c =
    let new = c.unstage_rows.new.conn in
    let kept = c.self.inside.lists.kept in
    let complete = complete_unstaged c.args.path.now kept c.self.invariant.complete in
    let obeys = obeys_unstaged kept c.self.invariant.obeys c.args.path.now complete in
    done_stands g.S.Store c.self.inside.conn new c.self.inside.next c.self.inside.next kept (unstaging c.args.path.now kept) _ c.self.invariant (unstaging_tables c.args.path.now kept)
    (g.met.S.Store.shut_if_dirty new.store) complete obeys (c.self.invariant.first, c.self.invariant.last) c.self.inside.next refl
    c.unstage.new.self.kept c.unstage.ensures c.in_default.field-0 (c.in_default.ensures (tables_of kept) c.self.inside.next kept.answers)

pub returns-in-Err-clause-change : goal.returns-in-Err-clause-change
returns-in-Err-clause-change g c =
    let kept = c.self.inside.lists.kept in
    subst (λ (s : Shown g.row.S.Denot). IsAllOrNothing s.kept kept (Err c.fault_of.result) (unstaging c.args.path.now s.kept)) c.self.view_is (record { done = tt; same = refl })

pub returns-in-Err-clause-transaction : goal.returns-in-Err-clause-transaction
returns-in-Err-clause-transaction g c =
    let new = c.unstage_rows.new.conn in
    let kept = c.self.inside.lists.kept in
    let complete = complete_unstaged c.args.path.now kept c.self.invariant.complete in
    let obeys = obeys_unstaged kept c.self.invariant.obeys c.args.path.now complete in
    subst (λ (s : Shown g.row.S.Denot). IsOneTransaction g.S.Store s (record { conn = new; kept = kept; next = c.self.inside.next }) (Err c.fault_of.result) (unstaging c.args.path.now s.kept))
    c.self.view_is
    (refused_transaction g.S.Store c.self.inside.conn new c.self.inside.next c.self.inside.next kept (unstaging c.args.path.now kept) _ c.self.invariant (unstaging_tables c.args.path.now kept)
    (g.met.S.Store.shut_if_dirty new.store) complete obeys (c.self.invariant.first, c.self.invariant.last) c.self.inside.next refl
    kept refl c.in-Err.error (c.in-Err.ensures (tables_of kept) c.self.inside.next kept.answers) c.fault_of.result _ _ _ _ (c.in-Err.ensures (unnamed_in kept) c.self.inside.next kept.answers)
    (λ (h : 2 ≡ 0). let never : ⊥ = omega arith in never))

pub returns-clause-change : goal.returns-clause-change
returns-clause-change g c =
    subst (λ (s : Shown g.row.S.Denot). IsAllOrNothing s.kept c.unstage.new.self.kept (Ok tt) (unstaging c.args.path.now s.kept)) c.self.view_is (record { done = c.unstage.ensures; same = tt })

pub returns-clause-transaction : goal.returns-clause-transaction
returns-clause-transaction g c =
    let new = c.unstage_rows.new.conn in
    let kept = c.self.inside.lists.kept in
    let complete = complete_unstaged c.args.path.now kept c.self.invariant.complete in
    let obeys = obeys_unstaged kept c.self.invariant.obeys c.args.path.now complete in
    subst (λ (s : Shown g.row.S.Denot). IsOneTransaction g.S.Store s (record { conn = new; kept = c.unstage.new.self.kept; next = c.self.inside.next }) (Ok tt) (unstaging c.args.path.now s.kept))
    c.self.view_is
    (done_transaction g.S.Store c.self.inside.conn new c.self.inside.next c.self.inside.next kept (unstaging c.args.path.now kept) _ c.self.invariant (unstaging_tables c.args.path.now kept)
    (g.met.S.Store.shut_if_dirty new.store) complete obeys (c.self.invariant.first, c.self.invariant.last)
    (g.met.S.Store.settled new.store) c.self.inside.next refl c.unstage.new.self.kept c.unstage.ensures c.in_default.field-0 (c.in_default.ensures (tables_of kept) c.self.inside.next kept.answers) tt
    _ _ _ _ (c.in_default.ensures (unnamed_in kept) c.self.inside.next kept.answers) (λ (h : 2 ≡ 0). let never : ⊥ = omega arith in never))
