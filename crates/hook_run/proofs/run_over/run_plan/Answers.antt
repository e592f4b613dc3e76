use Rattle.std.proofs.Common.{◌≡◌, ◌<◌, ◌∷◌, [], inl, inr, rules, subst, sym}
use Rattle.std.proofs.lemmas.Result.{err_from_is_err_and}
use Rattle.child_port.specs.TellingLemmas.{SameTells-trans}
use Rattle.hook_run.specs.declared.hooks_run.HooksRun.{HooksRun}
use Rattle.hook_run.specs.declared.need.Need.TheVariants.{Child, Over}
use Rattle.hook_run.specs.AnswerLemmas.{adds-back_to, answered-adds, answered-back_to}
use Rattle.hook_run.specs.Moments.{moment}
use Rattle.hook_run.specs.PlanRuns.{IsPlanRun}
use Rattle.hook_run.specs.PlanBounds.{most_left}
use Rattle.hook_run.specs.Plans.{Plan, need_of, part_with}
use Rattle.hook_run.proofs.PartLemmas.{at-moment, left-then, stopped-back_to}
use Rattle.hook_run.proofs.RunLemmas.{PlanSoFar, plan-lost, plan-more, plan-none, plan-run, plan-stopped}
use Rattle.hook_run.proofs.run_over.run_plan.Goals as goal

pub parts-init : goal.parts-init
parts-init g c =
    let children = g.C.Children in
    let book = g.B.Book in
    let tells = children.tells c.args.children.now in
    let from = moment (children.call_count c.args.children.now) (children.fault_count c.args.children.now) (book.contents c.args.book.now) in
    let begun = c.look_ahead-begun in
    let to = moment (children.call_count begun.new.children) (children.fault_count begun.new.children) (book.contents c.args.book.now) in
    record {
      so_far =
          subst (λ (p : Plan). PlanSoFar tells c.args.reuse from to 0 c.args.plan p) (sym begun.ensures.plan)
          (at-moment (λ to. PlanSoFar tells c.args.reuse from to 0 c.args.plan c.args.plan)
          (children.call_count c.args.children.now) (children.call_count begun.new.children) (children.fault_count c.args.children.now) (children.fault_count begun.new.children)
          (book.contents c.args.book.now) (sym begun.ensures.calls) (sym begun.ensures.faults)
          (plan-none tells c.args.reuse from c.args.plan));
      left = λ left leaves. inl leaves;
      rest = g.met.B.Book.rests_itself c.args.book.now;
      same = begun.ensures.same;
    }

pub parts-preserved : goal.parts-preserved
parts-preserved g c =
    let children = g.C.Children in
    let book = g.B.Book in
    let tells = children.tells c.args.children.now in
    let it = c.parts.invariant in
    let outcome = c.in_ok-came.came.outcome in
    let unsteady = c.in_ok-came.came.unsteady in
    let answered =
    answered-back_to tells (children.tells c.parts.children) it.same c.args.reuse
    (moment (children.call_count c.parts.children) (children.fault_count c.parts.children) (book.contents c.parts.book))
    (moment (children.call_count c.answer_told.new.children) (children.fault_count c.answer_told.new.children) (book.contents c.answer_told.new.book))
    (part_with c.parts.plan outcome unsteady ∷ [])
    c.in_ok-came.ensures.answered in
    let from = moment (children.call_count c.args.children.now) (children.fault_count c.args.children.now) (book.contents c.args.book.now) in
    let then = c.answer_told.new.children in
    let ahead = c.look_ahead-plan in
    let to = moment (children.call_count ahead.new.children) (children.fault_count ahead.new.children) (book.contents c.answer_told.new.book) in
    record {
      so_far =
          subst (λ (p : Plan). PlanSoFar tells c.args.reuse from to c.reused_with-reused.result c.args.plan p) (sym ahead.ensures.plan)
          (at-moment (λ to. PlanSoFar tells c.args.reuse from to c.reused_with-reused.result c.args.plan c.in_ok-told.told)
          (children.call_count then) (children.call_count ahead.new.children) (children.fault_count then) (children.fault_count ahead.new.children)
          (book.contents c.answer_told.new.book) (sym ahead.ensures.calls) (sym ahead.ensures.faults)
          (plan-more tells c.args.reuse from (moment (children.call_count c.parts.children) (children.fault_count c.parts.children) (book.contents c.parts.book))
          (moment (children.call_count then) (children.fault_count then) (book.contents c.answer_told.new.book)) c.args.plan c.parts.plan c.in_ok-told.told
          outcome unsteady c.in_ok-came.came.reused c.parts.reused c.reused_with-reused.result it.so_far answered c.in_ok-came.ensures.reused c.reused_with-reused.ensures c.in_ok-told.ensures.after));
      left = λ left leaves. left-then tells (book.contents c.args.book.now) (book.contents c.parts.book) left (book.leaves c.args.book.now left) (book.leaves c.parts.book left)
          (answered-adds tells c.args.reuse (moment (children.call_count c.args.children.now) (children.fault_count c.args.children.now) (book.contents c.args.book.now))
          (moment (children.call_count c.parts.children) (children.fault_count c.parts.children) (book.contents c.parts.book)) it.so_far.parts it.so_far.answered) (it.left left)
          (elim (c.answer_told.ensures.left left leaves) [
            | inl held ↦ inl held
            | inr adds ↦ inr (adds-back_to tells (children.tells c.parts.children) it.same (book.contents c.parts.book) left adds)
          ]);
      rest = g.met.B.Book.rests_on c.args.book.now c.parts.book c.answer_told.new.book it.rest c.answer_told.ensures.rest;
      same =
          SameTells-trans tells (children.tells then) (children.tells ahead.new.children)
          (SameTells-trans tells (children.tells c.parts.children) (children.tells then) it.same c.answer_told.ensures.same) ahead.ensures.same;
    }

pub parts-smaller : goal.parts-smaller
parts-smaller g c = subst (λ (p : Plan). most_left p < most_left c.parts.plan) (sym c.look_ahead-plan.ensures.plan) c.in_ok-told.ensures.fewer

pub returns-clause-run : goal.returns-clause-run
returns-clause-run g c =
    let children = g.C.Children in
    let book = g.B.Book in
    let tells = children.tells c.args.children.now in
    let it = c.parts.invariant in
    let over : need_of c.parts.plan ≡ Over = search rules in
    let from = moment (children.call_count c.args.children.now) (children.fault_count c.args.children.now) (book.contents c.args.book.now) in
    let ran : HooksRun = record { out = c.finish.result; reused = c.parts.reused } in
    at-moment (λ to. IsPlanRun tells c.args.reuse from to c.args.plan ran)
    (children.call_count c.parts.children) (children.call_count c.tell_news-all.new.children) (children.fault_count c.parts.children) (children.fault_count c.tell_news-all.new.children)
    (book.contents c.parts.book)
    (sym c.tell_news-all.ensures.calls) (sym c.tell_news-all.ensures.faults)
    (plan-run tells c.args.reuse from (moment (children.call_count c.parts.children) (children.fault_count c.parts.children) (book.contents c.parts.book)) c.args.plan c.parts.plan ran it.so_far over
    c.finish.ensures)

pub returns-in_err-came-clause-stopped : goal.returns-in_err-came-clause-stopped
returns-in_err-came-clause-stopped g c =
    let children = g.C.Children in
    let book = g.B.Book in
    let tells = children.tells c.args.children.now in
    let it = c.parts.invariant in
    let needs : need_of c.parts.plan ≡ Child = search rules in
    let p = err_from_is_err_and c.from_residual.result c.from_residual.ensures.1 in
    rw (p.1, p.2)
    (plan-stopped tells c.args.reuse (moment (children.call_count c.args.children.now) (children.fault_count c.args.children.now) (book.contents c.args.book.now))
    (moment (children.call_count c.parts.children) (children.fault_count c.parts.children) (book.contents c.parts.book))
    (moment (children.call_count c.answer_told.new.children) (children.fault_count c.answer_told.new.children) (book.contents c.answer_told.new.book)) c.parts.reused c.args.plan c.parts.plan
    c.in_err-came.field-0.0 it.so_far needs
    (stopped-back_to tells (children.tells c.parts.children) it.same c.args.reuse (moment (children.call_count c.parts.children) (children.fault_count c.parts.children) (book.contents c.parts.book))
    (moment (children.call_count c.answer_told.new.children) (children.fault_count c.answer_told.new.children) (book.contents c.answer_told.new.book)) c.parts.plan c.in_err-came.field-0.0
    c.in_err-came.ensures.stopped))

pub returns-in_err-came-clause-refused : goal.returns-in_err-came-clause-refused
returns-in_err-came-clause-refused g c =
    let p = err_from_is_err_and c.from_residual.result c.from_residual.ensures.1 in
    rw (p.1, p.2) c.in_err-came.ensures.refused

pub returns-in_err-came-clause-left : goal.returns-in_err-came-clause-left
returns-in_err-came-clause-left g c = λ left leaves.
    let children = g.C.Children in
    let book = g.B.Book in
    let tells = children.tells c.args.children.now in
    let it = c.parts.invariant in
    left-then tells (book.contents c.args.book.now) (book.contents c.parts.book) left (book.leaves c.args.book.now left) (book.leaves c.parts.book left)
    (answered-adds tells c.args.reuse (moment (children.call_count c.args.children.now) (children.fault_count c.args.children.now) (book.contents c.args.book.now))
    (moment (children.call_count c.parts.children) (children.fault_count c.parts.children) (book.contents c.parts.book)) it.so_far.parts it.so_far.answered) (it.left left)
    (elim (c.answer_told.ensures.left left leaves) [
      | inl held ↦ inl held
      | inr adds ↦ inr (adds-back_to tells (children.tells c.parts.children) it.same (book.contents c.parts.book) left adds)
    ])

pub returns-in_err-came-clause-rest : goal.returns-in_err-came-clause-rest
returns-in_err-came-clause-rest g c = g.met.B.Book.rests_on c.args.book.now c.parts.book c.answer_told.new.book c.parts.invariant.rest c.answer_told.ensures.rest

pub returns-in_err-told-clause-stopped : goal.returns-in_err-told-clause-stopped
returns-in_err-told-clause-stopped g c =
    let children = g.C.Children in
    let book = g.B.Book in
    let tells = children.tells c.args.children.now in
    let it = c.parts.invariant in
    let outcome = c.in_ok-came.came.outcome in
    let unsteady = c.in_ok-came.came.unsteady in
    let needs : need_of c.parts.plan ≡ Child = search rules in
    let answered =
    answered-back_to tells (children.tells c.parts.children) it.same c.args.reuse
    (moment (children.call_count c.parts.children) (children.fault_count c.parts.children) (book.contents c.parts.book))
    (moment (children.call_count c.answer_told.new.children) (children.fault_count c.answer_told.new.children) (book.contents c.answer_told.new.book))
    (part_with c.parts.plan outcome unsteady ∷ [])
    c.in_ok-came.ensures.answered in
    let p = err_from_is_err_and c.from_residual-in_err-told.result c.from_residual-in_err-told.ensures.1 in
    rw p.1 (plan-lost tells c.args.reuse (moment (children.call_count c.args.children.now) (children.fault_count c.args.children.now) (book.contents c.args.book.now))
    (moment (children.call_count c.parts.children) (children.fault_count c.parts.children) (book.contents c.parts.book))
    (moment (children.call_count c.answer_told.new.children) (children.fault_count c.answer_told.new.children) (book.contents c.answer_told.new.book)) c.parts.reused c.args.plan c.parts.plan
    outcome unsteady _ it.so_far answered needs p.2)

pub returns-in_err-told-clause-left : goal.returns-in_err-told-clause-left
returns-in_err-told-clause-left g c = λ left leaves.
    let children = g.C.Children in
    let book = g.B.Book in
    let tells = children.tells c.args.children.now in
    let it = c.parts.invariant in
    left-then tells (book.contents c.args.book.now) (book.contents c.parts.book) left (book.leaves c.args.book.now left) (book.leaves c.parts.book left)
    (answered-adds tells c.args.reuse (moment (children.call_count c.args.children.now) (children.fault_count c.args.children.now) (book.contents c.args.book.now))
    (moment (children.call_count c.parts.children) (children.fault_count c.parts.children) (book.contents c.parts.book)) it.so_far.parts it.so_far.answered) (it.left left)
    (elim (c.answer_told.ensures.left left leaves) [
      | inl held ↦ inl held
      | inr adds ↦ inr (adds-back_to tells (children.tells c.parts.children) it.same (book.contents c.parts.book) left adds)
    ])

pub returns-in_err-told-clause-rest : goal.returns-in_err-told-clause-rest
returns-in_err-told-clause-rest g c = g.met.B.Book.rests_on c.args.book.now c.parts.book c.answer_told.new.book c.parts.invariant.rest c.answer_told.ensures.rest
