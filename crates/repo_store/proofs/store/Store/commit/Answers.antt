use Rattle.std.proofs.Common.{◌≡◌, ℕ, ◌+◌, List, Ok, Err, refl, length, map, ap, ap₂, subst, ◌∙◌, arith}
use Rattle.repo_store.specs.Kept.{Kept, committing}
use Rattle.repo_store.specs.Lists.{file_of}
use Rattle.repo_store.specs.Repository.{Commit}
use Rattle.repo_store.specs.AllOrNothing.{IsAllOrNothing}
use Rattle.repo_store.specs.Shown.{Shown, IsOneTransaction}
use Rattle.repo_store.proofs.KeptLemmas.{committing_handed}
use Rattle.repo_store.proofs.CompleteLemmas.{complete_committed}
use Rattle.repo_store.proofs.RuleLemmas.{obeys_committed}
use Rattle.repo_store.proofs.StandLemmas.{tables_of, unnamed_in, refused_stands, done_stands, refused_transaction, done_transaction}
use Rattle.repo_store.proofs.store.Store.commit.Goals as goal

pub invariant_of-self-in-Err : goal.invariant_of-self-in-Err
invariant_of-self-in-Err g c =
    let new = c.commit_rows.new.conn in
    let kept = c.self.inside.lists.kept in
    let prepared = c.in_ok-commit.ensures in
    let count : c.count_commits-number.result + 1 ≡ length kept.repo.history + 1 = ap (λ (n : ℕ). n + 1) (c.count_commits-number.ensures ∙ ap (λ (k : Kept). length k.repo.history) prepared.same) in
    let same = committing_handed c.args.message.now c.in_ok-commit.commit.message (c.count_commits-number.result + 1) (map file_of c.in_ok-commit.commit.files.items) kept
    (ap (λ (commit : Commit). commit.message) prepared.commit) count (ap (λ (commit : Commit). commit.tree) prepared.commit) in
    let complete = complete_committed c.args.message.now kept c.self.invariant.complete prepared.within.1 in
    let obeys = obeys_committed kept c.self.invariant.obeys c.args.message.now prepared.within.0 complete in
    refused_stands g.S.Store c.self.inside.conn new c.self.inside.next c.self.inside.next kept (committing c.args.message.now kept) _ c.self.invariant same (g.met.S.Store.shut_if_dirty new.store)
    complete obeys (c.self.invariant.first, c.self.invariant.last) c.self.inside.next refl
    c.prepare_commit.new.self.kept prepared.same c.in-Err.error (c.in-Err.ensures (tables_of kept) c.self.inside.next kept.answers)

pub returns-in-Err-clause-change : goal.returns-in-Err-clause-change
returns-in-Err-clause-change g c =
    let prepared = c.in_ok-commit.ensures in
    subst (λ (s : Shown g.row.S.Denot). IsAllOrNothing s.kept c.prepare_commit.new.self.kept (Err c.fault_of.result) (committing c.args.message.now s.kept)) c.self.view_is
    (record { done = tt; same = prepared.same })

pub returns-in-Err-clause-transaction : goal.returns-in-Err-clause-transaction
returns-in-Err-clause-transaction g c =
    let new = c.commit_rows.new.conn in
    let kept = c.self.inside.lists.kept in
    let prepared = c.in_ok-commit.ensures in
    let count : c.count_commits-number.result + 1 ≡ length kept.repo.history + 1 = ap (λ (n : ℕ). n + 1) (c.count_commits-number.ensures ∙ ap (λ (k : Kept). length k.repo.history) prepared.same) in
    let same = committing_handed c.args.message.now c.in_ok-commit.commit.message (c.count_commits-number.result + 1) (map file_of c.in_ok-commit.commit.files.items) kept
    (ap (λ (commit : Commit). commit.message) prepared.commit) count (ap (λ (commit : Commit). commit.tree) prepared.commit) in
    let complete = complete_committed c.args.message.now kept c.self.invariant.complete prepared.within.1 in
    let obeys = obeys_committed kept c.self.invariant.obeys c.args.message.now prepared.within.0 complete in
    subst (λ (s : Shown g.row.S.Denot). IsOneTransaction g.S.Store s (record { conn = new; kept = c.prepare_commit.new.self.kept; next = c.self.inside.next }) (Err c.fault_of.result)
    (committing c.args.message.now s.kept)) c.self.view_is
    (refused_transaction g.S.Store c.self.inside.conn new c.self.inside.next c.self.inside.next kept (committing c.args.message.now kept) _ c.self.invariant same
    (g.met.S.Store.shut_if_dirty new.store) complete obeys (c.self.invariant.first, c.self.invariant.last) c.self.inside.next refl
    c.prepare_commit.new.self.kept prepared.same c.in-Err.error (c.in-Err.ensures (tables_of kept) c.self.inside.next kept.answers) c.fault_of.result _ _ _ _
    (c.in-Err.ensures (unnamed_in kept) c.self.inside.next kept.answers) (λ (h : 2 ≡ 0). let never : ⊥ = omega arith in never))

pub invariant_of-self-2 : goal.invariant_of-self-2
invariant_of-self-2 g c =
    let new = c.commit_rows.new.conn in
    let kept = c.self.inside.lists.kept in
    let prepared = c.in_ok-commit.ensures in
    let count : c.count_commits-number.result + 1 ≡ length kept.repo.history + 1 = ap (λ (n : ℕ). n + 1) (c.count_commits-number.ensures ∙ ap (λ (k : Kept). length k.repo.history) prepared.same) in
    let same = committing_handed c.args.message.now c.in_ok-commit.commit.message (c.count_commits-number.result + 1) (map file_of c.in_ok-commit.commit.files.items) kept
    (ap (λ (commit : Commit). commit.message) prepared.commit) count (ap (λ (commit : Commit). commit.tree) prepared.commit) in
    let now = c.commit.ensures ∙ ap₂ (λ (m : List ℕ) (k : Kept). committing m k) (ap (λ (commit : Commit). commit.message) prepared.commit) prepared.same in
    let complete = complete_committed c.args.message.now kept c.self.invariant.complete prepared.within.1 in
    let obeys = obeys_committed kept c.self.invariant.obeys c.args.message.now prepared.within.0 complete in
    done_stands g.S.Store c.self.inside.conn new c.self.inside.next c.self.inside.next kept (committing c.args.message.now kept) _ c.self.invariant same (g.met.S.Store.shut_if_dirty new.store)
    complete obeys (c.self.invariant.first, c.self.invariant.last) c.self.inside.next refl
    c.commit.new.self.kept now c.in_default.field-0 (c.in_default.ensures (tables_of kept) c.self.inside.next kept.answers)

pub returns-clause-change : goal.returns-clause-change
returns-clause-change g c =
    let prepared = c.in_ok-commit.ensures in
    let now = c.commit.ensures ∙ ap₂ (λ (m : List ℕ) (k : Kept). committing m k) (ap (λ (commit : Commit). commit.message) prepared.commit) prepared.same in
    subst (λ (s : Shown g.row.S.Denot). IsAllOrNothing s.kept c.commit.new.self.kept (Ok (c.count_commits-number.result + 1)) (committing c.args.message.now s.kept)) c.self.view_is
    (record { done = now; same = tt })

pub returns-clause-transaction : goal.returns-clause-transaction
returns-clause-transaction g c =
    let new = c.commit_rows.new.conn in
    let kept = c.self.inside.lists.kept in
    let prepared = c.in_ok-commit.ensures in
    let count : c.count_commits-number.result + 1 ≡ length kept.repo.history + 1 = ap (λ (n : ℕ). n + 1) (c.count_commits-number.ensures ∙ ap (λ (k : Kept). length k.repo.history) prepared.same) in
    let same = committing_handed c.args.message.now c.in_ok-commit.commit.message (c.count_commits-number.result + 1) (map file_of c.in_ok-commit.commit.files.items) kept
    (ap (λ (commit : Commit). commit.message) prepared.commit) count (ap (λ (commit : Commit). commit.tree) prepared.commit) in
    let now = c.commit.ensures ∙ ap₂ (λ (m : List ℕ) (k : Kept). committing m k) (ap (λ (commit : Commit). commit.message) prepared.commit) prepared.same in
    let complete = complete_committed c.args.message.now kept c.self.invariant.complete prepared.within.1 in
    let obeys = obeys_committed kept c.self.invariant.obeys c.args.message.now prepared.within.0 complete in
    subst (λ (s : Shown g.row.S.Denot). IsOneTransaction g.S.Store s (record { conn = new; kept = c.commit.new.self.kept; next = c.self.inside.next }) (Ok (c.count_commits-number.result + 1))
    (committing c.args.message.now s.kept)) c.self.view_is
    (done_transaction g.S.Store c.self.inside.conn new c.self.inside.next c.self.inside.next kept (committing c.args.message.now kept) _ c.self.invariant same (g.met.S.Store.shut_if_dirty new.store)
    complete obeys (c.self.invariant.first, c.self.invariant.last)
    (g.met.S.Store.settled new.store) c.self.inside.next refl c.commit.new.self.kept now c.in_default.field-0 (c.in_default.ensures (tables_of kept) c.self.inside.next kept.answers)
    (c.count_commits-number.result + 1) _ _ _ _ (c.in_default.ensures (unnamed_in kept) c.self.inside.next kept.answers) (λ (h : 2 ≡ 0). let never : ⊥ = omega arith in never))
