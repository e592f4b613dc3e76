use Rattle.std.proofs.Common.{◌≡◌, ◌+◌, inr, length, Ok, Err, refl, ◌∙◌, arith}
use Rattle.repo_store.proofs.SameLemmas.{same_itself}
use Rattle.repo_store.proofs.StandLemmas.{tables_of, unnamed_in, stands_of, done_stands, refused_transaction, done_transaction}
use Rattle.repo_store.proofs.StoreUseLemmas.{key_count, numbered_anew}
use Rattle.repo_store.proofs.store.Store.leave_a_tick.Goals as goal

pub returns-in-Err-clause-numbered : goal.returns-in-Err-clause-numbered
returns-in-Err-clause-numbered g c =
    let new = c.renumber_rows.new.conn in
    let kept = c.self.inside.lists.kept in
    let next = c.self.inside.next in
    let inv = c.self.invariant in
    let keys = c.as_slice.ensures.value ∙ c.in_ok-keys.ensures in
    let few = inv.complete.few in
    let most = inv.complete.limited.at_most in
    let later = length kept.answers + 1 in
    inr (numbered_anew g.S.Store c.args.self.now c.self.inside.conn new kept next next (Err c.fault_of.result) c.self.view_is (stands_of g.S.Store c.self.inside.conn kept next inv)
    (refused_transaction g.S.Store c.self.inside.conn new next later kept kept (tables_of kept) inv (same_itself (tables_of kept)) (g.met.S.Store.shut_if_dirty new.store) inv.complete inv.obeys
    (omega arith, omega arith) next refl
    kept refl c.in-Err.error (c.in-Err.ensures (tables_of kept) next kept.answers keys) c.fault_of.result _ _ _ _ (c.in-Err.ensures (unnamed_in kept) next kept.answers keys)
    (λ (h : 2 ≡ 0). let never : ⊥ = omega arith in never)))

pub invariant_of-self-2 : goal.invariant_of-self-2
invariant_of-self-2 g c =
    let new = c.renumber_rows.new.conn in
    let kept = c.self.inside.lists.kept in
    let next = c.self.inside.next in
    let inv = c.self.invariant in
    let keys = c.as_slice.ensures.value ∙ c.in_ok-keys.ensures in
    let count = key_count c.as_slice.result.now kept.answers keys in
    let few = inv.complete.few in
    let most = inv.complete.limited.at_most in
    let later = length kept.answers + 1 in
    let at : c.len.result + 1 ≡ later = omega (arith, c.len.ensures, c.as_slice.ensures.len, count) in
    done_stands g.S.Store c.self.inside.conn new next later kept kept (tables_of kept) inv (same_itself (tables_of kept)) (g.met.S.Store.shut_if_dirty new.store) inv.complete inv.obeys
    (omega arith, omega arith) (c.len.result + 1) at
    kept refl c.in_default.field-0 (c.in_default.ensures (tables_of kept) next kept.answers keys)

pub returns-clause-numbered : goal.returns-clause-numbered
returns-clause-numbered g c =
    let new = c.renumber_rows.new.conn in
    let kept = c.self.inside.lists.kept in
    let next = c.self.inside.next in
    let inv = c.self.invariant in
    let keys = c.as_slice.ensures.value ∙ c.in_ok-keys.ensures in
    let count = key_count c.as_slice.result.now kept.answers keys in
    let few = inv.complete.few in
    let most = inv.complete.limited.at_most in
    let later = length kept.answers + 1 in
    let at : c.len.result + 1 ≡ later = omega (arith, c.len.ensures, c.as_slice.ensures.len, count) in
    inr (numbered_anew g.S.Store c.args.self.now c.self.inside.conn new kept next (c.len.result + 1) (Ok tt) c.self.view_is (stands_of g.S.Store c.self.inside.conn kept next inv)
    (done_transaction g.S.Store c.self.inside.conn new next later kept kept (tables_of kept) inv (same_itself (tables_of kept)) (g.met.S.Store.shut_if_dirty new.store) inv.complete inv.obeys
    (omega arith, omega arith)
    (g.met.S.Store.settled new.store) (c.len.result + 1) at kept refl c.in_default.field-0 (c.in_default.ensures (tables_of kept) next kept.answers keys) tt _ _ _ _
    (c.in_default.ensures (unnamed_in kept) next kept.answers keys) (λ (h : 2 ≡ 0). let never : ⊥ = omega arith in never)))

pub returns-clause-stands : goal.returns-clause-stands
returns-clause-stands g c = stands_of g.S.Store c.renumber_rows.new.conn c.self.inside.lists.kept (c.len.result + 1) (invariant_of-self-2 g c)
