use Rattle.std.proofs.Common.{◌≡◌, ℕ, None, Ok, Err, refl, map, drop, ap, ap₂, subst, ◌∙◌, arith}
use Rattle.repo_store.specs.declared.staging_refusal.StagingFault.TheVariants.{Store}
use Rattle.repo_store.specs.Edits.{all_edited}
use Rattle.repo_store.specs.Kept.{Kept}
use Rattle.repo_store.specs.SharedEdits.{edit_of}
use Rattle.repo_store.specs.Shown.{Shown, IsOneTransaction}
use Rattle.repo_store.proofs.EditLemmas.{all_same, all_stand, editing_handed, edits_go}
use Rattle.repo_store.proofs.StandLemmas.{tables_of, unnamed_in, refused_stands, done_stands, refused_transaction, done_transaction}
use Rattle.repo_store.proofs.store.Store.stage_all.Goals as goal

pub invariant_of-self-in-Err : goal.invariant_of-self-in-Err
invariant_of-self-in-Err g c =
    let new = c.edit_rows.new.conn in
    let kept = c.self.inside.lists.kept in
    let edits = c.args.edits.now in
    let prepared = c.in_ok-made.ensures in
    let news = c.since-news.ensures ∙ ap₂ (λ (n : ℕ) (k : Kept). drop n k.contents) (prepared.before).count prepared.edited in
    let made = ap (map edit_of) c.as_slice.ensures.value ∙ prepared.made in
    let same = editing_handed edits kept (map edit_of c.as_slice.result.now) c.since-news.result.now c.requires prepared.sound.staged_rise made news in
    let stand = all_stand edits kept prepared.editable c.self.invariant.complete c.self.invariant.obeys in
    let now = all_same kept c.edit_all.new.self.kept c.in_ok-made.field-0.before prepared.before prepared.longer c.restore.new.self.kept c.restore.ensures in
    refused_stands g.S.Store c.self.inside.conn new c.self.inside.next c.self.inside.next kept (all_edited edits kept) _ c.self.invariant same (g.met.S.Store.shut_if_dirty new.store) stand.0 stand.1
    (c.self.invariant.first, c.self.invariant.last) c.self.inside.next refl
    c.restore.new.self.kept now c.in-Err.error (edits_go g.S.Store c.self.inside.conn new (Err c.in-Err.error) edits kept c.self.inside.next (tables_of kept) _
    (c.in-Err.ensures (tables_of kept) c.self.inside.next kept.answers))

pub returns-in-Err-clause-transaction : goal.returns-in-Err-clause-transaction
returns-in-Err-clause-transaction g c =
    let new = c.edit_rows.new.conn in
    let kept = c.self.inside.lists.kept in
    let edits = c.args.edits.now in
    let prepared = c.in_ok-made.ensures in
    let news = c.since-news.ensures ∙ ap₂ (λ (n : ℕ) (k : Kept). drop n k.contents) (prepared.before).count prepared.edited in
    let made = ap (map edit_of) c.as_slice.ensures.value ∙ prepared.made in
    let same = editing_handed edits kept (map edit_of c.as_slice.result.now) c.since-news.result.now c.requires prepared.sound.staged_rise made news in
    let stand = all_stand edits kept prepared.editable c.self.invariant.complete c.self.invariant.obeys in
    let now = all_same kept c.edit_all.new.self.kept c.in_ok-made.field-0.before prepared.before prepared.longer c.restore.new.self.kept c.restore.ensures in
    subst (λ (s : Shown g.row.S.Denot). IsOneTransaction g.S.Store s (record { conn = new; kept = c.restore.new.self.kept; next = c.self.inside.next })
    (Err (record { at = None; fault = Store c.fault_of.result })) (all_edited edits s.kept)) c.self.view_is
    (refused_transaction g.S.Store c.self.inside.conn new c.self.inside.next c.self.inside.next kept (all_edited edits kept) _ c.self.invariant same (g.met.S.Store.shut_if_dirty new.store) stand.0
    stand.1 (c.self.invariant.first, c.self.invariant.last) c.self.inside.next refl
    c.restore.new.self.kept now c.in-Err.error (edits_go g.S.Store c.self.inside.conn new (Err c.in-Err.error) edits kept c.self.inside.next (tables_of kept) _
    (c.in-Err.ensures (tables_of kept) c.self.inside.next kept.answers)) _ _ _ _ _ (c.in-Err.ensures (unnamed_in kept) c.self.inside.next kept.answers)
    (λ (h : 2 ≡ 0). let never : ⊥ = omega arith in never))

pub invariant_of-self-in_default : goal.invariant_of-self-in_default
invariant_of-self-in_default g c =
    let new = c.edit_rows.new.conn in
    let kept = c.self.inside.lists.kept in
    let edits = c.args.edits.now in
    let prepared = c.in_ok-made.ensures in
    let news = c.since-news.ensures ∙ ap₂ (λ (n : ℕ) (k : Kept). drop n k.contents) (prepared.before).count prepared.edited in
    let made = ap (map edit_of) c.as_slice.ensures.value ∙ prepared.made in
    let same = editing_handed edits kept (map edit_of c.as_slice.result.now) c.since-news.result.now c.requires prepared.sound.staged_rise made news in
    let stand = all_stand edits kept prepared.editable c.self.invariant.complete c.self.invariant.obeys in
    done_stands g.S.Store c.self.inside.conn new c.self.inside.next c.self.inside.next kept (all_edited edits kept) _ c.self.invariant same (g.met.S.Store.shut_if_dirty new.store) stand.0 stand.1
    (c.self.invariant.first, c.self.invariant.last) c.self.inside.next refl
    c.edit_all.new.self.kept prepared.edited c.in_default.field-0 (edits_go g.S.Store c.self.inside.conn new (Ok c.in_default.field-0) edits kept c.self.inside.next (tables_of kept) _
    (c.in_default.ensures (tables_of kept) c.self.inside.next kept.answers))

pub returns-clause-transaction : goal.returns-clause-transaction
returns-clause-transaction g c =
    let new = c.edit_rows.new.conn in
    let kept = c.self.inside.lists.kept in
    let edits = c.args.edits.now in
    let prepared = c.in_ok-made.ensures in
    let news = c.since-news.ensures ∙ ap₂ (λ (n : ℕ) (k : Kept). drop n k.contents) (prepared.before).count prepared.edited in
    let made = ap (map edit_of) c.as_slice.ensures.value ∙ prepared.made in
    let same = editing_handed edits kept (map edit_of c.as_slice.result.now) c.since-news.result.now c.requires prepared.sound.staged_rise made news in
    let stand = all_stand edits kept prepared.editable c.self.invariant.complete c.self.invariant.obeys in
    subst (λ (s : Shown g.row.S.Denot). IsOneTransaction g.S.Store s (record { conn = new; kept = c.edit_all.new.self.kept; next = c.self.inside.next }) (Ok tt) (all_edited edits s.kept))
    c.self.view_is
    (done_transaction g.S.Store c.self.inside.conn new c.self.inside.next c.self.inside.next kept (all_edited edits kept) _ c.self.invariant same (g.met.S.Store.shut_if_dirty new.store) stand.0
    stand.1 (c.self.invariant.first, c.self.invariant.last)
    (g.met.S.Store.settled new.store) c.self.inside.next refl c.edit_all.new.self.kept prepared.edited c.in_default.field-0
    (edits_go g.S.Store c.self.inside.conn new (Ok c.in_default.field-0) edits kept c.self.inside.next (tables_of kept) _ (c.in_default.ensures (tables_of kept) c.self.inside.next kept.answers))
    tt _ _ _ _ (c.in_default.ensures (unnamed_in kept) c.self.inside.next kept.answers) (λ (h : 2 ≡ 0). let never : ⊥ = omega arith in never))
