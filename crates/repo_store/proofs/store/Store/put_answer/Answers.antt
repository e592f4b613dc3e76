use Rattle.std.proofs.Common.{◌+◌, ◌≤◌, ◌∷◌, Ok, Err, length, drop, refl, sym, subst, ap, ap₂, ◌∙◌, arith}
use Rattle.repo_store.specs.AllOrNothing.{IsAllOrNothing}
use Rattle.repo_store.specs.AnswerRefs.{copied_answer}
use Rattle.repo_store.specs.Answers.{KeptAnswer}
use Rattle.repo_store.specs.Kept.{Kept, Mirror}
use Rattle.repo_store.specs.Remembering.{remembering, with_contents}
use Rattle.repo_store.specs.Shown.{Shown, IsOneTransaction}
use Rattle.repo_store.specs.Standing.{TellKeys}
use Rattle.repo_store.specs.UsedAnswers.{with_answer_within}
use Rattle.repo_store.specs.UsesOf.{greatest_tick}
use Rattle.repo_store.specs.WrittenAnswers.{contents_for}
use Rattle.repo_store.proofs.AnswerTableLemmas.{remembering_handed}
use Rattle.repo_store.proofs.ManyLemmas.{contents_grow}
use Rattle.repo_store.proofs.RememberLemmas.{complete_remembered, forgotten_answer, obeys_remembered, tell_keys_handed}
use Rattle.repo_store.proofs.StandLemmas.{tables_of, unnamed_in, refused_stands, done_stands, refused_transaction, done_transaction}
use Rattle.repo_store.proofs.StoreUseLemmas.{put_goes, puts_apart}
use Rattle.repo_store.proofs.store.Store.put_answer.Goals as goal

pub put_prepared-requires-clause-since : goal.put_prepared-requires-clause-since
put_prepared-requires-clause-since g c =
    let kept = c.self.inside.lists.kept in
    let grown = contents_grow (contents_for (copied_answer c.args.words.now c.args.seen.now c.args.answer)) kept.contents in
    let there = ap (λ (k : Kept). length k.contents) (c.in_ok-answer.ensures).kept in
    let count = c.count-before.ensures in
    omega arith

pub put_prepared-requires-clause-told : goal.put_prepared-requires-clause-told
put_prepared-requires-clause-told g c =
    let kept = c.self.inside.lists.kept in
    let answer = copied_answer c.args.words.now c.args.seen.now c.args.answer in
    let prepared = c.in_ok-answer.ensures in
    subst (λ (k : Kept). TellKeys (c.in_ok-answer.answer ∷ k.answers)) (sym prepared.kept)
    (tell_keys_handed answer kept c.self.invariant.complete prepared.sound prepared.all.apart c.in_ok-answer.answer prepared.answer)

pub invariant_of-self-in-Err : goal.invariant_of-self-in-Err
invariant_of-self-in-Err g c =
    let new = c.put_prepared.new.conn in
    let kept = c.self.inside.lists.kept in
    let next = c.self.inside.next in
    let answer = copied_answer c.args.words.now c.args.seen.now c.args.answer in
    let prepared = c.in_ok-answer.ensures in
    let inv = c.self.invariant in
    let left : next ≤ greatest_tick = subst (λ (s : Shown g.row.S.Denot). s.next ≤ greatest_tick) (sym c.self.view_is) c.requires.left in
    let news = drop (length kept.contents) (with_contents (contents_for answer) kept.contents) in
    let same = remembering_handed answer kept inv.complete prepared.sound prepared.all.apart news answer refl refl in
    let complete = complete_remembered answer kept inv.complete prepared.sound prepared.all.apart in
    let obeys = obeys_remembered answer kept inv.complete prepared.sound prepared.all.apart inv.obeys prepared.all.small in
    let now =
    forgotten_answer (contents_for answer) kept c.put_prepared.new.lists.kept c.forget_since.new.self.kept c.count-before.result c.count-before.ensures (c.in-Err.ensures.same ∙ prepared.kept)
    (ap (λ (m : Mirror). m.kept) c.forget_since.ensures) in
    refused_stands g.S.Store c.self.inside.conn new next (next + 1) kept (remembering answer kept) _ inv same (g.met.S.Store.shut_if_dirty new.store) complete obeys (omega arith, omega arith) next
    refl
    c.forget_since.new.self.kept now c.in-Err.fault (put_goes g.S.Store c.self.inside.conn new (Err c.in-Err.fault) c.count-before.result next c.prepare_answer.new.self.kept kept c.in_ok-answer.answer
    answer (with_contents (contents_for answer) kept.contents) prepared.kept prepared.answer c.count-before.ensures c.in-Err.ensures.rows (tables_of kept))

pub returns-in-Err-clause-change : goal.returns-in-Err-clause-change
returns-in-Err-clause-change g c =
    let kept = c.self.inside.lists.kept in
    let answer = copied_answer c.args.words.now c.args.seen.now c.args.answer in
    let prepared = c.in_ok-answer.ensures in
    let now =
    forgotten_answer (contents_for answer) kept c.put_prepared.new.lists.kept c.forget_since.new.self.kept c.count-before.result c.count-before.ensures (c.in-Err.ensures.same ∙ prepared.kept)
    (ap (λ (m : Mirror). m.kept) c.forget_since.ensures) in
    subst (λ (s : Shown g.row.S.Denot). IsAllOrNothing s.kept c.forget_since.new.self.kept (Err c.in-Err.fault) (remembering answer s.kept)) c.self.view_is (record { done = tt; same = now })

pub returns-in-Err-clause-transaction : goal.returns-in-Err-clause-transaction
returns-in-Err-clause-transaction g c =
    let new = c.put_prepared.new.conn in
    let kept = c.self.inside.lists.kept in
    let next = c.self.inside.next in
    let answer = copied_answer c.args.words.now c.args.seen.now c.args.answer in
    let prepared = c.in_ok-answer.ensures in
    let inv = c.self.invariant in
    let left : next ≤ greatest_tick = subst (λ (s : Shown g.row.S.Denot). s.next ≤ greatest_tick) (sym c.self.view_is) c.requires.left in
    let news = drop (length kept.contents) (with_contents (contents_for answer) kept.contents) in
    let same = remembering_handed answer kept inv.complete prepared.sound prepared.all.apart news answer refl refl in
    let complete = complete_remembered answer kept inv.complete prepared.sound prepared.all.apart in
    let obeys = obeys_remembered answer kept inv.complete prepared.sound prepared.all.apart inv.obeys prepared.all.small in
    let now =
    forgotten_answer (contents_for answer) kept c.put_prepared.new.lists.kept c.forget_since.new.self.kept c.count-before.result c.count-before.ensures (c.in-Err.ensures.same ∙ prepared.kept)
    (ap (λ (m : Mirror). m.kept) c.forget_since.ensures) in
    let goes =
    put_goes g.S.Store c.self.inside.conn new (Err c.in-Err.fault) c.count-before.result next c.prepare_answer.new.self.kept kept c.in_ok-answer.answer answer
    (with_contents (contents_for answer) kept.contents) prepared.kept prepared.answer c.count-before.ensures c.in-Err.ensures.rows in
    subst (λ (s : Shown g.row.S.Denot). IsOneTransaction g.S.Store s (record { conn = new; kept = c.forget_since.new.self.kept; next = next }) (Err c.in-Err.fault) (remembering answer s.kept))
    c.self.view_is
    (refused_transaction g.S.Store c.self.inside.conn new next (next + 1) kept (remembering answer kept) _ inv same (g.met.S.Store.shut_if_dirty new.store) complete obeys (omega arith, omega arith)
    next refl
    c.forget_since.new.self.kept now c.in-Err.fault (goes (tables_of kept)) c.in-Err.fault _ _ _ _ (goes (unnamed_in kept)) (puts_apart kept answer news))

pub invariant_of-self-2 : goal.invariant_of-self-2
invariant_of-self-2 g c =
    let new = c.put_prepared.new.conn in
    let kept = c.self.inside.lists.kept in
    let next = c.self.inside.next in
    let answer = copied_answer c.args.words.now c.args.seen.now c.args.answer in
    let prepared = c.in_ok-answer.ensures in
    let inv = c.self.invariant in
    let left : next ≤ greatest_tick = subst (λ (s : Shown g.row.S.Denot). s.next ≤ greatest_tick) (sym c.self.view_is) c.requires.left in
    let news = drop (length kept.contents) (with_contents (contents_for answer) kept.contents) in
    let same = remembering_handed answer kept inv.complete prepared.sound prepared.all.apart news answer refl refl in
    let complete = complete_remembered answer kept inv.complete prepared.sound prepared.all.apart in
    let obeys = obeys_remembered answer kept inv.complete prepared.sound prepared.all.apart inv.obeys prepared.all.small in
    let now = c.in_default.ensures.done ∙ ap₂ (λ (a : KeptAnswer) (k : Kept). record k { answers = with_answer_within k.limit a k.answers }) prepared.answer prepared.kept in
    done_stands g.S.Store c.self.inside.conn new next (next + 1) kept (remembering answer kept) _ inv same (g.met.S.Store.shut_if_dirty new.store) complete obeys (omega arith, omega arith) (next + 1)
    refl
    c.put_prepared.new.lists.kept now c.in_default.field-0 (put_goes g.S.Store c.self.inside.conn new (Ok c.in_default.field-0) c.count-before.result next c.prepare_answer.new.self.kept kept
    c.in_ok-answer.answer answer (with_contents (contents_for answer) kept.contents) prepared.kept prepared.answer c.count-before.ensures c.in_default.ensures.rows (tables_of kept))

pub returns-clause-transaction : goal.returns-clause-transaction
returns-clause-transaction g c =
    let new = c.put_prepared.new.conn in
    let kept = c.self.inside.lists.kept in
    let next = c.self.inside.next in
    let answer = copied_answer c.args.words.now c.args.seen.now c.args.answer in
    let prepared = c.in_ok-answer.ensures in
    let inv = c.self.invariant in
    let left : next ≤ greatest_tick = subst (λ (s : Shown g.row.S.Denot). s.next ≤ greatest_tick) (sym c.self.view_is) c.requires.left in
    let news = drop (length kept.contents) (with_contents (contents_for answer) kept.contents) in
    let same = remembering_handed answer kept inv.complete prepared.sound prepared.all.apart news answer refl refl in
    let complete = complete_remembered answer kept inv.complete prepared.sound prepared.all.apart in
    let obeys = obeys_remembered answer kept inv.complete prepared.sound prepared.all.apart inv.obeys prepared.all.small in
    let now = c.in_default.ensures.done ∙ ap₂ (λ (a : KeptAnswer) (k : Kept). record k { answers = with_answer_within k.limit a k.answers }) prepared.answer prepared.kept in
    let goes =
    put_goes g.S.Store c.self.inside.conn new (Ok c.in_default.field-0) c.count-before.result next c.prepare_answer.new.self.kept kept c.in_ok-answer.answer answer
    (with_contents (contents_for answer) kept.contents) prepared.kept prepared.answer c.count-before.ensures c.in_default.ensures.rows in
    subst (λ (s : Shown g.row.S.Denot). IsOneTransaction g.S.Store s (record { conn = new; kept = c.put_prepared.new.lists.kept; next = next + 1 }) (Ok tt) (remembering answer s.kept)) c.self.view_is
    (done_transaction g.S.Store c.self.inside.conn new next (next + 1) kept (remembering answer kept) _ inv same (g.met.S.Store.shut_if_dirty new.store) complete obeys (omega arith, omega arith)
    (g.met.S.Store.settled new.store) (next + 1) refl
    c.put_prepared.new.lists.kept now c.in_default.field-0 (goes (tables_of kept)) tt _ _ _ _ (goes (unnamed_in kept)) (puts_apart kept answer news))
