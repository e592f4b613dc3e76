use Rattle.std.proofs.Common.{◌≡◌, inl, inr, Ok, Some, sym, subst, ap, ◌∙◌}
use Rattle.std.proofs.lemmas.Result.{err_from_is_err_and}
use Rattle.store_faults.specs.declared.fault.StoreFault.{StoreFault}
use Rattle.repo_store.specs.Index.{Key}
use Rattle.repo_store.specs.Kept.{Kept, using}
use Rattle.repo_store.specs.ListedAnswers.{HaveAnswer}
use Rattle.repo_store.specs.Shown.{IsOneUse, Shown}
use Rattle.repo_store.specs.Standing.{bringing}
use Rattle.repo_store.proofs.StoreFindLemmas.{first_using, numbering_refused, there_by, use_done, use_refused, used_so}
use Rattle.repo_store.proofs.store.Store.answer_find.Goals as goal
use Rattle.repo_store.proofs.store.Store.answer_find.Goals.{then-not-is_first_answer+in_ok-leave_a_tick+in_ok-use_answer, else-not-is_first_answer}

pub returns-in_err-leave_a_tick-clause-transaction : goal.returns-in_err-leave_a_tick-clause-transaction
returns-in_err-leave_a_tick-clause-transaction g c =
    let old = c.args.self.now in
    let p = err_from_is_err_and c.from_residual-in_err-leave_a_tick.result c.from_residual-in_err-leave_a_tick.ensures.1 in
    rw p.1 (inr (numbering_refused g.S.Store old c.leave_a_tick.new.self _ (using c.args.words.now c.args.seen.now old.kept) c.leave_a_tick.ensures.numbered c.leave_a_tick.ensures.stands))

pub use_answer-requires-clause-there : goal.use_answer-requires-clause-there
use_answer-requires-clause-there g c =
    let kept = c.self.inside.lists.kept in
    let key : Key = (c.in-Some.found.words, c.in-Some.found.seen) in
    let have = rw c.in-Some.is at c.in_ok-found.ensures.key in
    let same = ap (λ (s : Shown g.row.S.Denot). s.kept) c.self.view_is ∙ sym c.leave_a_tick.ensures.same in
    there_by c.args.words.now c.args.seen.now c.leave_a_tick.new.self.kept.answers key (subst (λ (k : Kept). HaveAnswer c.args.words.now c.args.seen.now k.answers key) same have)

pub returns-in_err-use_answer-clause-transaction : goal.returns-in_err-use_answer-clause-transaction
returns-in_err-use_answer-clause-transaction g c =
    let old = c.args.self.now in
    let mid = c.leave_a_tick.new.self in
    let new = c.use_answer.new.self in
    let key : Key = (c.in-Some.found.words, c.in-Some.found.seen) in
    let have = rw c.in-Some.is at c.in_ok-found.ensures.key in
    let p = err_from_is_err_and c.from_residual-in_err-use_answer.result c.from_residual-in_err-use_answer.ensures.1 in
    let used = used_so c.args.words.now c.args.seen.now c.self.inside.lists.kept key c.self.invariant.complete have in
    let shown = ap (λ (s : Shown g.row.S.Denot). s.kept) c.self.view_is in
    let asked : bringing key mid.kept ≡ using c.args.words.now c.args.seen.now old.kept =
    ap (bringing key) (c.leave_a_tick.ensures.same ∙ sym shown) ∙ used ∙ ap (using c.args.words.now c.args.seen.now) shown in
    rw p.1 (inr (use_refused g.S.Store old mid new _ _ (bringing key mid.kept) (using c.args.words.now c.args.seen.now old.kept) c.leave_a_tick.ensures.numbered asked
    c.in_err-use_answer.ensures.transaction))

pub returns-clause-change : goal.returns-clause-change
returns-clause-change g c =
    let old = c.args.self.now in
    let key : Key = (c.in-Some.found.words, c.in-Some.found.seen) in
    let have = rw c.in-Some.is at c.in_ok-found.ensures.key in
    let kept = c.self.inside.lists.kept in
    let used = used_so c.args.words.now c.args.seen.now kept key c.self.invariant.complete have in
    let shown = ap (λ (s : Shown g.row.S.Denot). s.kept) c.self.view_is in
    elim c.if-not-is_first_answer.branch [
      | then-not-is_first_answer+in_ok-leave_a_tick+in_ok-use_answer w ↦
          record {
            done =
                ap (λ (s : Shown g.row.S.Denot). s.kept) w.self-is ∙ w.in_ok-use_answer.ensures.change.done ∙ ap (bringing key) (w.leave_a_tick.ensures.same ∙ sym shown) ∙ used
                ∙ ap (using c.args.words.now c.args.seen.now) shown;
            same = tt;
          }
      | else-not-is_first_answer w ↦
          let first = first_using c.args.words.now c.args.seen.now kept key c.self.invariant.complete have (c.is_first_answer.ensures.0 w.if-not-is_first_answer.false) in
          record { done = ap (λ (s : Shown g.row.S.Denot). s.kept) w.self-is ∙ sym shown ∙ sym first ∙ ap (using c.args.words.now c.args.seen.now) shown; same = tt }
    ]

pub returns-clause-transaction : goal.returns-clause-transaction
returns-clause-transaction g c =
    let old = c.args.self.now in
    let key : Key = (c.in-Some.found.words, c.in-Some.found.seen) in
    let have = rw c.in-Some.is at c.in_ok-found.ensures.key in
    let kept = c.self.inside.lists.kept in
    let used = used_so c.args.words.now c.args.seen.now kept key c.self.invariant.complete have in
    let shown = ap (λ (s : Shown g.row.S.Denot). s.kept) c.self.view_is in
    elim c.if-not-is_first_answer.branch [
      | then-not-is_first_answer+in_ok-leave_a_tick+in_ok-use_answer w ↦
          let mid = w.leave_a_tick.new.self in
          let new = w.use_answer.new.self in
          let asked : bringing key mid.kept ≡ using c.args.words.now c.args.seen.now old.kept =
          ap (bringing key) (w.leave_a_tick.ensures.same ∙ sym shown) ∙ used ∙ ap (using c.args.words.now c.args.seen.now) shown in
          inr (subst (λ (s : Shown g.row.S.Denot). IsOneUse {E = StoreFault} g.S.Store old s (Ok (Some c.in-Some.found.answer)) (using c.args.words.now c.args.seen.now old.kept)) (sym w.self-is)
          (use_done g.S.Store old mid new _ _ (bringing key mid.kept) (using c.args.words.now c.args.seen.now old.kept) w.leave_a_tick.ensures.numbered asked w.in_ok-use_answer.ensures.transaction))
      | else-not-is_first_answer w ↦ inl w.self-is
    ]
