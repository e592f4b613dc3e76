use Rattle.std.proofs.Common.{◌≡◌, ℕ, List, Ok, Err, refl, length, map, drop, ap, ap₂, subst, ◌∙◌, arith}
use Rattle.std.proofs.lemmas.Result.{err_from_is_err_and}
use Rattle.hook_base.specs.declared.change.Change.{Change}
use Rattle.store_faults.specs.Faults.{IsRefusal}
use Rattle.repo_store.specs.Kept.{FixCollides, HasLarge, Kept, Mirror, setting}
use Rattle.repo_store.specs.Lists.{fix_of}
use Rattle.repo_store.specs.Repository.{staged_changes}
use Rattle.repo_store.specs.AllOrNothing.{IsAllOrNothing}
use Rattle.repo_store.specs.Shown.{Shown, IsOneTransaction}
use Rattle.repo_store.proofs.FixLemmas.{changes_grow, no_rows}
use Rattle.repo_store.proofs.KeptLemmas.{setting_handed, forgotten_changes}
use Rattle.repo_store.proofs.CompleteLemmas.{complete_set}
use Rattle.repo_store.proofs.RuleLemmas.{obeys_set}
use Rattle.repo_store.proofs.StandLemmas.{tables_of, unnamed_in, refused_stands, done_stands, refused_transaction, done_transaction}
use Rattle.repo_store.proofs.store.Store.set_fixes.Goals as goal

pub since-news-requires : goal.since-news-requires
since-news-requires g c =
    let kept = c.self.inside.lists.kept in
    let grown = changes_grow (staged_changes c.args.changes.now kept.repo.staged) kept.contents in
    let there = ap (λ (k : Kept). length k.contents) (c.in_ok-fixes.ensures).kept in
    let count = c.count-before.ensures in
    omega arith

pub returns-in_err-fixes-clause-why : goal.returns-in_err-fixes-clause-why
returns-in_err-fixes-clause-why g c =
    let p = err_from_is_err_and c.from_residual.result c.from_residual.ensures.1 in
    rw (p.1, p.2) (subst (λ (s : Shown g.row.S.Denot). let fixes = staged_changes c.args.changes.now s.kept.repo.staged in IsRefusal (HasLarge fixes) ⊥ (FixCollides fixes s.kept.contents)
    c.in_err-fixes.field-0.0) c.self.view_is (c.in_err-fixes.ensures).why)

pub invariant_of-self-in-Err : goal.invariant_of-self-in-Err
invariant_of-self-in-Err g c =
    let new = c.set_rows.new.conn in
    let kept = c.self.inside.lists.kept in
    let none = no_rows kept c.has_no_fixes-were_none.result c.has_no_fixes-were_none.ensures in
    let taken = staged_changes c.args.changes.now kept.repo.staged in
    let prepared = c.in_ok-fixes.ensures in
    let news = c.since-news.ensures ∙ ap₂ (λ (n : ℕ) (k : Kept). drop n k.contents) c.count-before.ensures prepared.kept in
    let fixes : map fix_of c.as_slice.result.now ≡ taken = ap (map fix_of) c.as_slice.ensures.value ∙ prepared.fixes in
    let same = setting_handed c.args.changes.now (map fix_of c.as_slice.result.now) c.since-news.result.now kept fixes news in
    let now =
    forgotten_changes taken kept c.prepare_fixes.new.self.kept c.forget_since.new.self.kept c.count-before.result c.count-before.ensures prepared.kept
    (ap (λ (m : Mirror). m.kept) c.forget_since.ensures) in
    let complete = complete_set c.args.changes.now kept c.self.invariant.complete c.requires prepared.apart in
    let obeys = obeys_set kept c.self.invariant.obeys c.args.changes.now prepared.within complete in
    refused_stands g.S.Store c.self.inside.conn new c.self.inside.next c.self.inside.next kept (setting c.args.changes.now kept) _ c.self.invariant same (g.met.S.Store.shut_if_dirty new.store)
    complete obeys (c.self.invariant.first, c.self.invariant.last) c.self.inside.next refl
    c.forget_since.new.self.kept now c.in-Err.error (c.in-Err.ensures (tables_of kept) c.self.inside.next kept.answers none)

pub returns-in-Err-clause-change : goal.returns-in-Err-clause-change
returns-in-Err-clause-change g c =
    let kept = c.self.inside.lists.kept in
    let taken = staged_changes c.args.changes.now kept.repo.staged in
    let prepared = c.in_ok-fixes.ensures in
    let now =
    forgotten_changes taken kept c.prepare_fixes.new.self.kept c.forget_since.new.self.kept c.count-before.result c.count-before.ensures prepared.kept
    (ap (λ (m : Mirror). m.kept) c.forget_since.ensures) in
    subst (λ (s : Shown g.row.S.Denot). IsAllOrNothing s.kept c.forget_since.new.self.kept (Err c.fault_of.result) (setting c.args.changes.now s.kept)) c.self.view_is
    (record { done = tt; same = now })

pub returns-in-Err-clause-transaction : goal.returns-in-Err-clause-transaction
returns-in-Err-clause-transaction g c =
    let new = c.set_rows.new.conn in
    let kept = c.self.inside.lists.kept in
    let none = no_rows kept c.has_no_fixes-were_none.result c.has_no_fixes-were_none.ensures in
    let taken = staged_changes c.args.changes.now kept.repo.staged in
    let prepared = c.in_ok-fixes.ensures in
    let news = c.since-news.ensures ∙ ap₂ (λ (n : ℕ) (k : Kept). drop n k.contents) c.count-before.ensures prepared.kept in
    let fixes : map fix_of c.as_slice.result.now ≡ taken = ap (map fix_of) c.as_slice.ensures.value ∙ prepared.fixes in
    let same = setting_handed c.args.changes.now (map fix_of c.as_slice.result.now) c.since-news.result.now kept fixes news in
    let now =
    forgotten_changes taken kept c.prepare_fixes.new.self.kept c.forget_since.new.self.kept c.count-before.result c.count-before.ensures prepared.kept
    (ap (λ (m : Mirror). m.kept) c.forget_since.ensures) in
    let complete = complete_set c.args.changes.now kept c.self.invariant.complete c.requires prepared.apart in
    let obeys = obeys_set kept c.self.invariant.obeys c.args.changes.now prepared.within complete in
    subst (λ (s : Shown g.row.S.Denot). IsOneTransaction g.S.Store s (record { conn = new; kept = c.forget_since.new.self.kept; next = c.self.inside.next }) (Err c.fault_of.result)
    (setting c.args.changes.now s.kept)) c.self.view_is
    (refused_transaction g.S.Store c.self.inside.conn new c.self.inside.next c.self.inside.next kept (setting c.args.changes.now kept) _ c.self.invariant same (g.met.S.Store.shut_if_dirty new.store)
    complete obeys (c.self.invariant.first, c.self.invariant.last) c.self.inside.next refl
    c.forget_since.new.self.kept now c.in-Err.error (c.in-Err.ensures (tables_of kept) c.self.inside.next kept.answers none) c.fault_of.result _ _ _ _
    (c.in-Err.ensures (unnamed_in kept) c.self.inside.next kept.answers none) (λ (h : 2 ≡ 0). let never : ⊥ = omega arith in never))

pub invariant_of-self-2 : goal.invariant_of-self-2
invariant_of-self-2 g c =
    let new = c.set_rows.new.conn in
    let kept = c.self.inside.lists.kept in
    let none = no_rows kept c.has_no_fixes-were_none.result c.has_no_fixes-were_none.ensures in
    let taken = staged_changes c.args.changes.now kept.repo.staged in
    let prepared = c.in_ok-fixes.ensures in
    let news = c.since-news.ensures ∙ ap₂ (λ (n : ℕ) (k : Kept). drop n k.contents) c.count-before.ensures prepared.kept in
    let fixes : map fix_of c.as_slice.result.now ≡ taken = ap (map fix_of) c.as_slice.ensures.value ∙ prepared.fixes in
    let same = setting_handed c.args.changes.now (map fix_of c.as_slice.result.now) c.since-news.result.now kept fixes news in
    let now = c.set_fixes.ensures ∙ ap₂ (λ (k : Kept) (l : List Change). record k { repo = record k.repo { fixes = l } }) prepared.kept prepared.fixes in
    let complete = complete_set c.args.changes.now kept c.self.invariant.complete c.requires prepared.apart in
    let obeys = obeys_set kept c.self.invariant.obeys c.args.changes.now prepared.within complete in
    done_stands g.S.Store c.self.inside.conn new c.self.inside.next c.self.inside.next kept (setting c.args.changes.now kept) _ c.self.invariant same (g.met.S.Store.shut_if_dirty new.store) complete
    obeys (c.self.invariant.first, c.self.invariant.last) c.self.inside.next refl
    c.set_fixes.new.self.kept now c.in_default.field-0 (c.in_default.ensures (tables_of kept) c.self.inside.next kept.answers none)

pub returns-clause-change : goal.returns-clause-change
returns-clause-change g c =
    let prepared = c.in_ok-fixes.ensures in
    let now = c.set_fixes.ensures ∙ ap₂ (λ (k : Kept) (l : List Change). record k { repo = record k.repo { fixes = l } }) prepared.kept prepared.fixes in
    subst (λ (s : Shown g.row.S.Denot). IsAllOrNothing s.kept c.set_fixes.new.self.kept (Ok tt) (setting c.args.changes.now s.kept)) c.self.view_is (record { done = now; same = tt })

pub returns-clause-transaction : goal.returns-clause-transaction
returns-clause-transaction g c =
    let new = c.set_rows.new.conn in
    let kept = c.self.inside.lists.kept in
    let none = no_rows kept c.has_no_fixes-were_none.result c.has_no_fixes-were_none.ensures in
    let taken = staged_changes c.args.changes.now kept.repo.staged in
    let prepared = c.in_ok-fixes.ensures in
    let news = c.since-news.ensures ∙ ap₂ (λ (n : ℕ) (k : Kept). drop n k.contents) c.count-before.ensures prepared.kept in
    let fixes : map fix_of c.as_slice.result.now ≡ taken = ap (map fix_of) c.as_slice.ensures.value ∙ prepared.fixes in
    let same = setting_handed c.args.changes.now (map fix_of c.as_slice.result.now) c.since-news.result.now kept fixes news in
    let now = c.set_fixes.ensures ∙ ap₂ (λ (k : Kept) (l : List Change). record k { repo = record k.repo { fixes = l } }) prepared.kept prepared.fixes in
    let complete = complete_set c.args.changes.now kept c.self.invariant.complete c.requires prepared.apart in
    let obeys = obeys_set kept c.self.invariant.obeys c.args.changes.now prepared.within complete in
    subst (λ (s : Shown g.row.S.Denot). IsOneTransaction g.S.Store s (record { conn = new; kept = c.set_fixes.new.self.kept; next = c.self.inside.next }) (Ok tt) (setting c.args.changes.now s.kept))
    c.self.view_is
    (done_transaction g.S.Store c.self.inside.conn new c.self.inside.next c.self.inside.next kept (setting c.args.changes.now kept) _ c.self.invariant same (g.met.S.Store.shut_if_dirty new.store)
    complete obeys (c.self.invariant.first, c.self.invariant.last)
    (g.met.S.Store.settled new.store) c.self.inside.next refl c.set_fixes.new.self.kept now c.in_default.field-0 (c.in_default.ensures (tables_of kept) c.self.inside.next kept.answers none) tt _ _ _ _
    (c.in_default.ensures (unnamed_in kept) c.self.inside.next kept.answers none) (λ (h : 2 ≡ 0). let never : ⊥ = omega arith in never))
