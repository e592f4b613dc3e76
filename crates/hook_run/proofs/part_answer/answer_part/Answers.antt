use Rattle.std.proofs.Common.{◌≡◌, inl, inr, subst, true, false, rules, None, Some}
use Rattle.std.proofs.lemmas.Result.{err_from_is_err_and}
use Rattle.result_book.specs.Contents.{Finds}
use Rattle.result_book.specs.ToldLemmas.{adds-found}
use Rattle.hook_run.specs.Plans.{seen_of_plan, words_of_plan}
use Rattle.hook_run.specs.Refusals.{run_refusal_of_book}
use Rattle.hook_run.specs.Reuses.{serves}
use Rattle.hook_run.proofs.PartLemmas.{finds-at, left-then, look-up-at, none-found, part-replayed, part-started_if, part-unfound, part-unput_if}
use Rattle.hook_run.proofs.RunLemmas.{not-asked, not-spent}
use Rattle.hook_run.proofs.part_answer.answer_part.Goals as goal

pub returns-in_err-found-clause-stopped : goal.returns-in_err-found-clause-stopped
returns-in_err-found-clause-stopped g c =
    let children = g.C.Children in
    let p = err_from_is_err_and c.from_residual.result c.from_residual.ensures.1 in
    rw (p.1, p.2)
    (part-unfound (children.tells c.args.children.now) c.args.reuse c.args.plan.now (children.call_count c.args.children.now) (children.fault_count c.args.children.now)
    (g.B.Book.contents c.args.book.now) (g.B.Book.contents c.find.new.self) (run_refusal_of_book c.in_err-found.field-0.0) c.in_err-found.ensures.kept
    (not-asked c.in_err-found.field-0.0) (not-spent c.in_err-found.field-0.0))

pub returns-in_err-found-clause-left : goal.returns-in_err-found-clause-left
returns-in_err-found-clause-left g c = λ left leaves.
    elim (c.find.ensures.left left leaves) [
      | inl old ↦ inl old
      | inr after ↦ inr (adds-found (g.C.Children.tells c.args.children.now) c.words.result.now c.seen.result.now (g.B.Book.contents c.args.book.now) left after)
    ]

pub returns-clause-left : goal.returns-clause-left
returns-clause-left g c = λ left leaves.
    elim (c.find.ensures.left left leaves) [
      | inl old ↦ inl old
      | inr after ↦ inr (adds-found (g.C.Children.tells c.args.children.now) c.words.result.now c.seen.result.now (g.B.Book.contents c.args.book.now) left after)
    ]

pub returns-clause-answered : goal.returns-clause-answered
returns-clause-answered g c =
    let children = g.C.Children in
    let book = g.B.Book in
    let served : serves c.args.reuse c.in-Some.answer ≡ true = search rules in
    part-replayed (children.tells c.args.children.now) c.args.reuse c.args.plan.now (children.call_count c.args.children.now) (children.fault_count c.args.children.now)
    (book.contents c.args.book.now) (book.contents c.find.new.self) c.in-Some.answer served
    (subst (Finds (words_of_plan c.args.plan.now) (seen_of_plan c.args.plan.now) (book.contents c.args.book.now)) c.in-Some.is
    (finds-at c.words.result.now (words_of_plan c.args.plan.now) c.seen.result.now (seen_of_plan c.args.plan.now) c.words.ensures c.seen.ensures (book.contents c.args.book.now) c.in_ok-found.found
    c.in_ok-found.ensures.found))
    (look-up-at c.words.result.now (words_of_plan c.args.plan.now) c.seen.result.now (seen_of_plan c.args.plan.now) c.words.ensures c.seen.ensures (book.contents c.args.book.now)
    (book.contents c.find.new.self) c.in_ok-found.ensures.after)

pub returns-in_default-clause-answered : goal.returns-in_default-clause-answered
returns-in_default-clause-answered g c =
    let children = g.C.Children in
    let book = g.B.Book in
    part-started_if (children.tells c.args.children.now) c.args.reuse c.args.plan.now (children.call_count c.args.children.now) (children.call_count c.start_part.new.children)
    (children.fault_count c.args.children.now) (children.fault_count c.start_part.new.children)
    (book.contents c.args.book.now) (book.contents c.find.new.self) (book.contents c.start_part.new.book) None c.start_part.result
    (finds-at c.words.result.now (words_of_plan c.args.plan.now) c.seen.result.now (seen_of_plan c.args.plan.now) c.words.ensures c.seen.ensures (book.contents c.args.book.now) None
    (subst (Finds c.words.result.now c.seen.result.now (book.contents c.args.book.now)) (none-found c.in_ok-found.found c.in_default.not-Some) c.in_ok-found.ensures.found))
    (look-up-at c.words.result.now (words_of_plan c.args.plan.now) c.seen.result.now (seen_of_plan c.args.plan.now) c.words.ensures c.seen.ensures (book.contents c.args.book.now)
    (book.contents c.find.new.self) c.in_ok-found.ensures.after)
    tt c.start_part.ensures.started

pub returns-in_default-clause-stopped : goal.returns-in_default-clause-stopped
returns-in_default-clause-stopped g c =
    let children = g.C.Children in
    let book = g.B.Book in
    part-unput_if (children.tells c.args.children.now) c.args.reuse c.args.plan.now (children.call_count c.args.children.now) (children.call_count c.start_part.new.children)
    (children.fault_count c.args.children.now) (children.fault_count c.start_part.new.children)
    (book.contents c.args.book.now) (book.contents c.find.new.self) (book.contents c.start_part.new.book) None c.start_part.result c.requires
    (finds-at c.words.result.now (words_of_plan c.args.plan.now) c.seen.result.now (seen_of_plan c.args.plan.now) c.words.ensures c.seen.ensures (book.contents c.args.book.now) None
    (subst (Finds c.words.result.now c.seen.result.now (book.contents c.args.book.now)) (none-found c.in_ok-found.found c.in_default.not-Some) c.in_ok-found.ensures.found))
    (look-up-at c.words.result.now (words_of_plan c.args.plan.now) c.seen.result.now (seen_of_plan c.args.plan.now) c.words.ensures c.seen.ensures (book.contents c.args.book.now)
    (book.contents c.find.new.self) c.in_ok-found.ensures.after)
    tt c.start_part.ensures.unput

pub returns-in_default-clause-left : goal.returns-in_default-clause-left
returns-in_default-clause-left g c = λ left leaves.
    let tells = g.C.Children.tells c.args.children.now in
    let before = g.B.Book.contents c.args.book.now in
    let between = g.B.Book.contents c.find.new.self in
    left-then tells before between left (g.B.Book.leaves c.args.book.now left) (g.B.Book.leaves c.find.new.self left)
    (adds-found tells c.words.result.now c.seen.result.now before between c.in_ok-found.ensures.after)
    (λ held. elim (c.find.ensures.left left held) [
      | inl old ↦ inl old
      | inr after ↦ inr (adds-found tells c.words.result.now c.seen.result.now before left after)
    ])
    (c.start_part.ensures.left left leaves)

pub returns-then-not-serves-clause-answered : goal.returns-then-not-serves-clause-answered
returns-then-not-serves-clause-answered g c =
    let children = g.C.Children in
    let book = g.B.Book in
    let unserved : serves c.args.reuse c.in-Some.answer ≡ false = search rules in
    part-started_if (children.tells c.args.children.now) c.args.reuse c.args.plan.now (children.call_count c.args.children.now) (children.call_count c.start_part-then-not-serves.new.children)
    (children.fault_count c.args.children.now) (children.fault_count c.start_part-then-not-serves.new.children)
    (book.contents c.args.book.now) (book.contents c.find.new.self) (book.contents c.start_part-then-not-serves.new.book) (Some c.in-Some.answer) c.start_part-then-not-serves.result
    (subst (Finds (words_of_plan c.args.plan.now) (seen_of_plan c.args.plan.now) (book.contents c.args.book.now)) c.in-Some.is
    (finds-at c.words.result.now (words_of_plan c.args.plan.now) c.seen.result.now (seen_of_plan c.args.plan.now) c.words.ensures c.seen.ensures (book.contents c.args.book.now) c.in_ok-found.found
    c.in_ok-found.ensures.found))
    (look-up-at c.words.result.now (words_of_plan c.args.plan.now) c.seen.result.now (seen_of_plan c.args.plan.now) c.words.ensures c.seen.ensures (book.contents c.args.book.now)
    (book.contents c.find.new.self) c.in_ok-found.ensures.after)
    unserved c.start_part-then-not-serves.ensures.started

pub returns-then-not-serves-clause-stopped : goal.returns-then-not-serves-clause-stopped
returns-then-not-serves-clause-stopped g c =
    let children = g.C.Children in
    let book = g.B.Book in
    let unserved : serves c.args.reuse c.in-Some.answer ≡ false = search rules in
    part-unput_if (children.tells c.args.children.now) c.args.reuse c.args.plan.now (children.call_count c.args.children.now) (children.call_count c.start_part-then-not-serves.new.children)
    (children.fault_count c.args.children.now) (children.fault_count c.start_part-then-not-serves.new.children)
    (book.contents c.args.book.now) (book.contents c.find.new.self) (book.contents c.start_part-then-not-serves.new.book) (Some c.in-Some.answer) c.start_part-then-not-serves.result c.requires
    (subst (Finds (words_of_plan c.args.plan.now) (seen_of_plan c.args.plan.now) (book.contents c.args.book.now)) c.in-Some.is
    (finds-at c.words.result.now (words_of_plan c.args.plan.now) c.seen.result.now (seen_of_plan c.args.plan.now) c.words.ensures c.seen.ensures (book.contents c.args.book.now) c.in_ok-found.found
    c.in_ok-found.ensures.found))
    (look-up-at c.words.result.now (words_of_plan c.args.plan.now) c.seen.result.now (seen_of_plan c.args.plan.now) c.words.ensures c.seen.ensures (book.contents c.args.book.now)
    (book.contents c.find.new.self) c.in_ok-found.ensures.after)
    unserved c.start_part-then-not-serves.ensures.unput

pub returns-then-not-serves-clause-left : goal.returns-then-not-serves-clause-left
returns-then-not-serves-clause-left g c = λ left leaves.
    let tells = g.C.Children.tells c.args.children.now in
    let before = g.B.Book.contents c.args.book.now in
    let between = g.B.Book.contents c.find.new.self in
    left-then tells before between left (g.B.Book.leaves c.args.book.now left) (g.B.Book.leaves c.find.new.self left)
    (adds-found tells c.words.result.now c.seen.result.now before between c.in_ok-found.ensures.after)
    (λ held. elim (c.find.ensures.left left held) [
      | inl old ↦ inl old
      | inr after ↦ inr (adds-found tells c.words.result.now c.seen.result.now before left after)
    ])
    (c.start_part-then-not-serves.ensures.left left leaves)
