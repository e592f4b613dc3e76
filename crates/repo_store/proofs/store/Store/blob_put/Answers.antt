use Rattle.std.proofs.Common.{◌≡◌, ℕ, Ok, Err, refl, drop, ap, ap₂, subst, ◌∙◌, arith}
use Rattle.repo_store.specs.Kept.{Kept, Mirror, keeping}
use Rattle.repo_store.specs.AllOrNothing.{IsAllOrNothing}
use Rattle.repo_store.specs.Shown.{Shown, IsOneTransaction}
use Rattle.repo_store.proofs.KeptLemmas.{keeping_handed, forgotten}
use Rattle.repo_store.proofs.CompleteLemmas.{complete_kept}
use Rattle.repo_store.proofs.RuleLemmas.{obeys_kept}
use Rattle.repo_store.proofs.StandLemmas.{tables_of, unnamed_in, refused_stands, done_stands, refused_transaction, done_transaction}
use Rattle.repo_store.proofs.store.Store.blob_put.Goals as goal

pub invariant_of-self-in-Err : goal.invariant_of-self-in-Err
invariant_of-self-in-Err g c =
    let new = c.keep_rows.new.conn in
    let kept = c.self.inside.lists.kept in
    let here : c.keep.new.self.kept ≡ keeping c.args.bytes.now kept = ap (λ (m : Mirror). m.kept) (c.in_ok-content.ensures).kept in
    let news = c.since.ensures ∙ ap₂ (λ (n : ℕ) (k : Kept). drop n k.contents) c.count-before.ensures here in
    let same = keeping_handed c.args.bytes.now c.since.result.now kept news in
    let now =
    forgotten c.args.bytes.now kept c.keep.new.self.kept c.forget_since.new.self.kept c.count-before.result c.count-before.ensures here (ap (λ (m : Mirror). m.kept) c.forget_since.ensures) in
    let complete = complete_kept c.args.bytes.now kept c.self.invariant.complete (c.in_ok-content.ensures).apart in
    let obeys = obeys_kept kept c.self.invariant.obeys c.args.bytes.now (c.in_ok-content.ensures).small complete in
    refused_stands g.S.Store c.self.inside.conn new c.self.inside.next c.self.inside.next kept (keeping c.args.bytes.now kept) _ c.self.invariant same (g.met.S.Store.shut_if_dirty new.store) complete
    obeys (c.self.invariant.first, c.self.invariant.last) c.self.inside.next refl
    c.forget_since.new.self.kept now c.in-Err.error (c.in-Err.ensures (tables_of kept) c.self.inside.next kept.answers)

pub returns-in-Err-clause-change : goal.returns-in-Err-clause-change
returns-in-Err-clause-change g c =
    let kept = c.self.inside.lists.kept in
    let here : c.keep.new.self.kept ≡ keeping c.args.bytes.now kept = ap (λ (m : Mirror). m.kept) (c.in_ok-content.ensures).kept in
    let now =
    forgotten c.args.bytes.now kept c.keep.new.self.kept c.forget_since.new.self.kept c.count-before.result c.count-before.ensures here (ap (λ (m : Mirror). m.kept) c.forget_since.ensures) in
    subst (λ (s : Shown g.row.S.Denot). IsAllOrNothing s.kept c.forget_since.new.self.kept (Err c.fault_of.result) (keeping c.args.bytes.now s.kept)) c.self.view_is (record { done = tt; same = now })

pub returns-in-Err-clause-transaction : goal.returns-in-Err-clause-transaction
returns-in-Err-clause-transaction g c =
    let new = c.keep_rows.new.conn in
    let kept = c.self.inside.lists.kept in
    let here : c.keep.new.self.kept ≡ keeping c.args.bytes.now kept = ap (λ (m : Mirror). m.kept) (c.in_ok-content.ensures).kept in
    let news = c.since.ensures ∙ ap₂ (λ (n : ℕ) (k : Kept). drop n k.contents) c.count-before.ensures here in
    let same = keeping_handed c.args.bytes.now c.since.result.now kept news in
    let now =
    forgotten c.args.bytes.now kept c.keep.new.self.kept c.forget_since.new.self.kept c.count-before.result c.count-before.ensures here (ap (λ (m : Mirror). m.kept) c.forget_since.ensures) in
    let complete = complete_kept c.args.bytes.now kept c.self.invariant.complete (c.in_ok-content.ensures).apart in
    let obeys = obeys_kept kept c.self.invariant.obeys c.args.bytes.now (c.in_ok-content.ensures).small complete in
    subst (λ (s : Shown g.row.S.Denot). IsOneTransaction g.S.Store s (record { conn = new; kept = c.forget_since.new.self.kept; next = c.self.inside.next }) (Err c.fault_of.result)
    (keeping c.args.bytes.now s.kept)) c.self.view_is
    (refused_transaction g.S.Store c.self.inside.conn new c.self.inside.next c.self.inside.next kept (keeping c.args.bytes.now kept) _ c.self.invariant same (g.met.S.Store.shut_if_dirty new.store)
    complete obeys (c.self.invariant.first, c.self.invariant.last) c.self.inside.next refl
    c.forget_since.new.self.kept now c.in-Err.error (c.in-Err.ensures (tables_of kept) c.self.inside.next kept.answers) c.fault_of.result _ _ _ _
    (c.in-Err.ensures (unnamed_in kept) c.self.inside.next kept.answers) (λ (h : 2 ≡ 0). let never : ⊥ = omega arith in never))

pub invariant_of-self-in_default : goal.invariant_of-self-in_default
invariant_of-self-in_default g c =
    let new = c.keep_rows.new.conn in
    let kept = c.self.inside.lists.kept in
    let here : c.keep.new.self.kept ≡ keeping c.args.bytes.now kept = ap (λ (m : Mirror). m.kept) (c.in_ok-content.ensures).kept in
    let news = c.since.ensures ∙ ap₂ (λ (n : ℕ) (k : Kept). drop n k.contents) c.count-before.ensures here in
    let same = keeping_handed c.args.bytes.now c.since.result.now kept news in
    let complete = complete_kept c.args.bytes.now kept c.self.invariant.complete (c.in_ok-content.ensures).apart in
    let obeys = obeys_kept kept c.self.invariant.obeys c.args.bytes.now (c.in_ok-content.ensures).small complete in
    done_stands g.S.Store c.self.inside.conn new c.self.inside.next c.self.inside.next kept (keeping c.args.bytes.now kept) _ c.self.invariant same (g.met.S.Store.shut_if_dirty new.store) complete
    obeys (c.self.invariant.first, c.self.invariant.last) c.self.inside.next refl
    c.keep.new.self.kept here c.in_default.field-0 (c.in_default.ensures (tables_of kept) c.self.inside.next kept.answers)

pub returns-clause-change : goal.returns-clause-change
returns-clause-change g c =
    let kept = c.self.inside.lists.kept in
    let here : c.keep.new.self.kept ≡ keeping c.args.bytes.now kept = ap (λ (m : Mirror). m.kept) (c.in_ok-content.ensures).kept in
    subst (λ (s : Shown g.row.S.Denot). IsAllOrNothing s.kept c.keep.new.self.kept (Ok (record { bytes = c.digest.result })) (keeping c.args.bytes.now s.kept)) c.self.view_is
    (record { done = here; same = tt })

pub returns-clause-transaction : goal.returns-clause-transaction
returns-clause-transaction g c =
    let new = c.keep_rows.new.conn in
    let kept = c.self.inside.lists.kept in
    let here : c.keep.new.self.kept ≡ keeping c.args.bytes.now kept = ap (λ (m : Mirror). m.kept) (c.in_ok-content.ensures).kept in
    let news = c.since.ensures ∙ ap₂ (λ (n : ℕ) (k : Kept). drop n k.contents) c.count-before.ensures here in
    let same = keeping_handed c.args.bytes.now c.since.result.now kept news in
    let complete = complete_kept c.args.bytes.now kept c.self.invariant.complete (c.in_ok-content.ensures).apart in
    let obeys = obeys_kept kept c.self.invariant.obeys c.args.bytes.now (c.in_ok-content.ensures).small complete in
    subst (λ (s : Shown g.row.S.Denot). IsOneTransaction g.S.Store s (record { conn = new; kept = c.keep.new.self.kept; next = c.self.inside.next }) (Ok (record { bytes = c.digest.result }))
    (keeping c.args.bytes.now s.kept)) c.self.view_is
    (done_transaction g.S.Store c.self.inside.conn new c.self.inside.next c.self.inside.next kept (keeping c.args.bytes.now kept) _ c.self.invariant same (g.met.S.Store.shut_if_dirty new.store)
    complete obeys (c.self.invariant.first, c.self.invariant.last)
    (g.met.S.Store.settled new.store) c.self.inside.next refl c.keep.new.self.kept here c.in_default.field-0 (c.in_default.ensures (tables_of kept) c.self.inside.next kept.answers)
    (record { bytes = c.digest.result }) _ _ _ _ (c.in_default.ensures (unnamed_in kept) c.self.inside.next kept.answers) (λ (h : 2 ≡ 0). let never : ⊥ = omega arith in never))
