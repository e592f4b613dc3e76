use Rattle.std.proofs.Common.{inl, inr}
use Rattle.std.proofs.lemmas.Result.{err_from_is_err_and}
use Rattle.hook_run.specs.AnswerLemmas.{adds-outcome}
use Rattle.hook_run.specs.Plans.{seen_of_plan, words_of_plan}
use Rattle.hook_run.proofs.PartLemmas.{outcome-at, unput, unstarted}
use Rattle.hook_run.proofs.part_answer.start_part.Goals as goal

pub returns-in_err-outcome-clause-unput : goal.returns-in_err-outcome-clause-unput
returns-in_err-outcome-clause-unput g c =
    let children = g.C.Children in
    let it = c.in_err-outcome.ensures in
    let p = err_from_is_err_and c.from_residual.result c.from_residual.ensures.1 in
    rw (p.1, p.2)
    (unstarted (children.tells c.args.children.now) c.args.plan.now (children.call_count c.args.children.now) (children.fault_count c.args.children.now)
    (children.call_count c.outcome_of.new.children) (children.fault_count c.outcome_of.new.children) (g.B.Book.contents c.args.book.now) c.in_err-outcome.field-0.0
    it.refused_calls it.refused_faults it.asked it.spent)

pub returns-in_err-put_outcome-clause-unput : goal.returns-in_err-put_outcome-clause-unput
returns-in_err-put_outcome-clause-unput g c =
    let children = g.C.Children in
    let told = c.in_ok-outcome.ensures in
    let p = err_from_is_err_and c.from_residual-in_err-put_outcome.result c.from_residual-in_err-put_outcome.ensures.1 in
    rw (p.1, p.2)
    (unput (children.tells c.args.children.now) c.args.plan.now (children.call_count c.args.children.now) (children.fault_count c.args.children.now)
    (children.call_count c.outcome_of.new.children) (children.fault_count c.outcome_of.new.children) (g.B.Book.contents c.args.book.now) (g.B.Book.contents c.put_outcome.new.book)
    c.in_ok-outcome.outcome c.in_err-put_outcome.field-0.0 c.requires told.told told.calls told.faults c.in_err-put_outcome.ensures.kept)

pub returns-in_err-put_outcome-clause-left : goal.returns-in_err-put_outcome-clause-left
returns-in_err-put_outcome-clause-left g c = λ left leaves.
    elim (c.put_outcome.ensures.left left leaves) [
      | inl old ↦ inl old
      | inr after ↦ inr (adds-outcome (g.C.Children.tells c.args.children.now) (words_of_plan c.args.plan.now) (seen_of_plan c.args.plan.now) c.in_ok-outcome.outcome
          (g.B.Book.contents c.args.book.now) left
          (outcome-at c.words.result.now (words_of_plan c.args.plan.now) c.seen.result.now (seen_of_plan c.args.plan.now) c.words.ensures c.seen.ensures c.in_ok-outcome.outcome
          (g.B.Book.contents c.args.book.now) left after)
          c.in_ok-outcome.ensures.told)
    ]

pub returns-clause-left : goal.returns-clause-left
returns-clause-left g c = λ left leaves.
    elim (c.put_outcome.ensures.left left leaves) [
      | inl old ↦ inl old
      | inr after ↦ inr (adds-outcome (g.C.Children.tells c.args.children.now) (words_of_plan c.args.plan.now) (seen_of_plan c.args.plan.now) c.in_ok-outcome.outcome
          (g.B.Book.contents c.args.book.now) left
          (outcome-at c.words.result.now (words_of_plan c.args.plan.now) c.seen.result.now (seen_of_plan c.args.plan.now) c.words.ensures c.seen.ensures c.in_ok-outcome.outcome
          (g.B.Book.contents c.args.book.now) left after)
          c.in_ok-outcome.ensures.told)
    ]
