use Rattle.std.proofs.Common.{◌≡◌, ◌≤◌, ◌+◌, Ok, Err, refl, sym, subst, arith}
use Rattle.std.specs.List.{Any}
use Rattle.repo_store.specs.Answers.{KeptAnswer}
use Rattle.repo_store.specs.Index.{Key, key_of}
use Rattle.repo_store.specs.Shown.{Shown, IsOneTransaction}
use Rattle.repo_store.specs.Standing.{bringing}
use Rattle.repo_store.specs.UsesOf.{greatest_tick}
use Rattle.repo_store.proofs.AnswerTableLemmas.{bringing_same, complete_brought}
use Rattle.repo_store.proofs.RuleLemmas.{obeys_brought}
use Rattle.repo_store.proofs.StandLemmas.{tables_of, unnamed_in, refused_stands, done_stands, refused_transaction, done_transaction}
use Rattle.repo_store.proofs.StoreUseLemmas.{use_goes}
use Rattle.repo_store.proofs.store.Store.use_answer.Goals as goal

pub invariant_of-self : goal.invariant_of-self
invariant_of-self g c =
    let new = c.use_rows.new.conn in
    let kept = c.self.inside.lists.kept in
    let next = c.self.inside.next in
    let key : Key = (c.args.words, c.args.seen) in
    let inv = c.self.invariant in
    let left : next ≤ greatest_tick = subst (λ (s : Shown g.row.S.Denot). s.next ≤ greatest_tick) (sym c.self.view_is) c.requires.left in
    let there = subst (λ (s : Shown g.row.S.Denot). Any (λ (answer : KeptAnswer). key_of answer ≡ key) s.kept.answers) (sym c.self.view_is) c.requires.there in
    let complete = complete_brought key kept inv.complete in
    refused_stands g.S.Store c.self.inside.conn new next (next + 1) kept (bringing key kept) (tables_of kept) inv (bringing_same key kept inv.complete) (g.met.S.Store.shut_if_dirty new.store) complete
    (obeys_brought kept inv.obeys key complete) (omega arith, omega arith) next refl
    kept refl c.in-Err.error (use_goes g.S.Store c.self.inside.conn new (Err c.in-Err.error) kept key next inv.complete there inv.first c.in-Err.ensures (tables_of kept))

pub returns-in-Err-clause-transaction : goal.returns-in-Err-clause-transaction
returns-in-Err-clause-transaction g c =
    let new = c.use_rows.new.conn in
    let kept = c.self.inside.lists.kept in
    let next = c.self.inside.next in
    let key : Key = (c.args.words, c.args.seen) in
    let inv = c.self.invariant in
    let left : next ≤ greatest_tick = subst (λ (s : Shown g.row.S.Denot). s.next ≤ greatest_tick) (sym c.self.view_is) c.requires.left in
    let there = subst (λ (s : Shown g.row.S.Denot). Any (λ (answer : KeptAnswer). key_of answer ≡ key) s.kept.answers) (sym c.self.view_is) c.requires.there in
    let complete = complete_brought key kept inv.complete in
    let goes = use_goes g.S.Store c.self.inside.conn new (Err c.in-Err.error) kept key next inv.complete there inv.first c.in-Err.ensures in
    subst (λ (s : Shown g.row.S.Denot). IsOneTransaction g.S.Store s (record { conn = new; kept = kept; next = next }) (Err c.fault_of.result) (bringing key s.kept)) c.self.view_is
    (refused_transaction g.S.Store c.self.inside.conn new next (next + 1) kept (bringing key kept) (tables_of kept) inv (bringing_same key kept inv.complete) (g.met.S.Store.shut_if_dirty new.store)
    complete (obeys_brought kept inv.obeys key complete) (omega arith, omega arith) next refl
    kept refl c.in-Err.error (goes (tables_of kept)) c.fault_of.result _ _ _ _ (goes (unnamed_in kept)) (λ (h : 2 ≡ 0). let never : ⊥ = omega arith in never))

pub invariant_of-self-2 : goal.invariant_of-self-2
invariant_of-self-2 g c =
    let new = c.use_rows.new.conn in
    let kept = c.self.inside.lists.kept in
    let next = c.self.inside.next in
    let key : Key = (c.args.words, c.args.seen) in
    let inv = c.self.invariant in
    let left : next ≤ greatest_tick = subst (λ (s : Shown g.row.S.Denot). s.next ≤ greatest_tick) (sym c.self.view_is) c.requires.left in
    let there = subst (λ (s : Shown g.row.S.Denot). Any (λ (answer : KeptAnswer). key_of answer ≡ key) s.kept.answers) (sym c.self.view_is) c.requires.there in
    let complete = complete_brought key kept inv.complete in
    done_stands g.S.Store c.self.inside.conn new next (next + 1) kept (bringing key kept) (tables_of kept) inv (bringing_same key kept inv.complete) (g.met.S.Store.shut_if_dirty new.store) complete
    (obeys_brought kept inv.obeys key complete) (omega arith, omega arith) (next + 1) refl
    c.bring_answer.new.self.kept c.bring_answer.ensures c.in_default.field-0
    (use_goes g.S.Store c.self.inside.conn new (Ok c.in_default.field-0) kept key next inv.complete there inv.first c.in_default.ensures (tables_of kept))

pub returns-clause-transaction : goal.returns-clause-transaction
returns-clause-transaction g c =
    let new = c.use_rows.new.conn in
    let kept = c.self.inside.lists.kept in
    let next = c.self.inside.next in
    let key : Key = (c.args.words, c.args.seen) in
    let inv = c.self.invariant in
    let left : next ≤ greatest_tick = subst (λ (s : Shown g.row.S.Denot). s.next ≤ greatest_tick) (sym c.self.view_is) c.requires.left in
    let there = subst (λ (s : Shown g.row.S.Denot). Any (λ (answer : KeptAnswer). key_of answer ≡ key) s.kept.answers) (sym c.self.view_is) c.requires.there in
    let complete = complete_brought key kept inv.complete in
    let goes = use_goes g.S.Store c.self.inside.conn new (Ok c.in_default.field-0) kept key next inv.complete there inv.first c.in_default.ensures in
    subst (λ (s : Shown g.row.S.Denot). IsOneTransaction g.S.Store s (record { conn = new; kept = c.bring_answer.new.self.kept; next = next + 1 }) (Ok tt) (bringing key s.kept)) c.self.view_is
    (done_transaction g.S.Store c.self.inside.conn new next (next + 1) kept (bringing key kept) (tables_of kept) inv (bringing_same key kept inv.complete) (g.met.S.Store.shut_if_dirty new.store)
    complete (obeys_brought kept inv.obeys key complete) (omega arith, omega arith)
    (g.met.S.Store.settled new.store) (next + 1) refl c.bring_answer.new.self.kept c.bring_answer.ensures c.in_default.field-0 (goes (tables_of kept)) tt _ _ _ _ (goes (unnamed_in kept))
    (λ (h : 2 ≡ 0). let never : ⊥ = omega arith in never))
