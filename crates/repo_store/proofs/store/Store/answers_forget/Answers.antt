use Rattle.std.proofs.Common.{Ok, Err, refl, subst, ◌≡◌, arith}
use Rattle.repo_store.specs.Kept.{forgetting}
use Rattle.repo_store.specs.AllOrNothing.{IsAllOrNothing}
use Rattle.repo_store.specs.Shown.{Shown, IsOneTransaction}
use Rattle.repo_store.proofs.CompleteLemmas.{complete_forgotten}
use Rattle.repo_store.proofs.RuleLemmas.{obeys_forgotten}
use Rattle.repo_store.proofs.SameLemmas.{same_itself}
use Rattle.repo_store.proofs.StandLemmas.{tables_of, unnamed_in, refused_stands, done_stands, refused_transaction, done_transaction}
use Rattle.repo_store.proofs.store.Store.answers_forget.Goals as goal

pub invariant_of-self : goal.invariant_of-self
invariant_of-self g c =
    let new = c.forget_rows.new.conn in
    let kept = c.self.inside.lists.kept in
    let complete = complete_forgotten kept c.self.invariant.complete in
    let obeys = obeys_forgotten kept c.self.invariant.obeys complete in
    refused_stands g.S.Store c.self.inside.conn new c.self.inside.next c.self.inside.next kept (forgetting kept) _ c.self.invariant (same_itself (tables_of (forgetting kept)))
    (g.met.S.Store.shut_if_dirty new.store) complete obeys (c.self.invariant.first, c.self.invariant.last) c.self.inside.next refl
    kept refl c.in-Err.error (c.in-Err.ensures (tables_of kept) c.self.inside.next kept.answers)

pub invariant_of-self-2 : goal.invariant_of-self-2
invariant_of-self-2 g c =
    let new = c.forget_rows.new.conn in
    let kept = c.self.inside.lists.kept in
    let complete = complete_forgotten kept c.self.invariant.complete in
    let obeys = obeys_forgotten kept c.self.invariant.obeys complete in
    done_stands g.S.Store c.self.inside.conn new c.self.inside.next c.self.inside.next kept (forgetting kept) _ c.self.invariant (same_itself (tables_of (forgetting kept)))
    (g.met.S.Store.shut_if_dirty new.store) complete obeys (c.self.invariant.first, c.self.invariant.last) c.self.inside.next refl
    c.forget_answers.new.self.kept c.forget_answers.ensures c.in_default.field-0 (c.in_default.ensures (tables_of kept) c.self.inside.next kept.answers)

pub returns-in-Err-clause-change : goal.returns-in-Err-clause-change
returns-in-Err-clause-change g c =
    let kept = c.self.inside.lists.kept in
    subst (λ (s : Shown g.row.S.Denot). IsAllOrNothing s.kept kept (Err c.fault_of.result) (forgetting s.kept)) c.self.view_is (record { done = tt; same = refl })

pub returns-in-Err-clause-transaction : goal.returns-in-Err-clause-transaction
returns-in-Err-clause-transaction g c =
    let new = c.forget_rows.new.conn in
    let kept = c.self.inside.lists.kept in
    let complete = complete_forgotten kept c.self.invariant.complete in
    let obeys = obeys_forgotten kept c.self.invariant.obeys complete in
    subst (λ (s : Shown g.row.S.Denot). IsOneTransaction g.S.Store s (record { conn = new; kept = kept; next = c.self.inside.next }) (Err c.fault_of.result) (forgetting s.kept)) c.self.view_is
    (refused_transaction g.S.Store c.self.inside.conn new c.self.inside.next c.self.inside.next kept (forgetting kept) _ c.self.invariant (same_itself (tables_of (forgetting kept)))
    (g.met.S.Store.shut_if_dirty new.store) complete obeys (c.self.invariant.first, c.self.invariant.last) c.self.inside.next refl
    kept refl c.in-Err.error (c.in-Err.ensures (tables_of kept) c.self.inside.next kept.answers) c.fault_of.result _ _ _ _ (c.in-Err.ensures (unnamed_in kept) c.self.inside.next kept.answers)
    (λ (h : 2 ≡ 0). let never : ⊥ = omega arith in never))

pub returns-clause-change : goal.returns-clause-change
returns-clause-change g c =
    subst (λ (s : Shown g.row.S.Denot). IsAllOrNothing s.kept c.forget_answers.new.self.kept (Ok c.count_answers-number.result) (forgetting s.kept)) c.self.view_is
    (record { done = c.forget_answers.ensures; same = tt })

pub returns-clause-transaction : goal.returns-clause-transaction
returns-clause-transaction g c =
    let new = c.forget_rows.new.conn in
    let kept = c.self.inside.lists.kept in
    let complete = complete_forgotten kept c.self.invariant.complete in
    let obeys = obeys_forgotten kept c.self.invariant.obeys complete in
    subst (λ (s : Shown g.row.S.Denot). IsOneTransaction g.S.Store s (record { conn = new; kept = c.forget_answers.new.self.kept; next = c.self.inside.next }) (Ok c.count_answers-number.result)
    (forgetting s.kept)) c.self.view_is
    (done_transaction g.S.Store c.self.inside.conn new c.self.inside.next c.self.inside.next kept (forgetting kept) _ c.self.invariant (same_itself (tables_of (forgetting kept)))
    (g.met.S.Store.shut_if_dirty new.store) complete obeys (c.self.invariant.first, c.self.invariant.last)
    (g.met.S.Store.settled new.store) c.self.inside.next refl c.forget_answers.new.self.kept c.forget_answers.ensures c.in_default.field-0
    (c.in_default.ensures (tables_of kept) c.self.inside.next kept.answers) c.count_answers-number.result _ _ _ _ (c.in_default.ensures (unnamed_in kept) c.self.inside.next kept.answers)
    (λ (h : 2 ≡ 0). let never : ⊥ = omega arith in never))
