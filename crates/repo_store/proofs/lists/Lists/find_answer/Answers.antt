use Rattle.std.proofs.Common.{◌≡◌, List, ℕ, Some, sym, ap, ap₂, subst, ◌∙◌}
use Rattle.std.proofs.lemmas.Result.{err_from_is_err_and}
use Rattle.std.specs.List.{AllByRecursion, Contains}
use Rattle.std.specs.Option.{option_map}
use Rattle.answer_records.specs.Records.{words_record}
use Rattle.repo_store.specs.AnswerRefs.{stored_answer}
use Rattle.repo_store.specs.Answers.{KeptAnswer}
use Rattle.store_faults.specs.Faults.{IsRefusal}
use Rattle.repo_store.specs.Index.{Key, key_of}
use Rattle.repo_store.specs.Kept.{Mirror}
use Rattle.repo_store.specs.KeptContents.{AreKnownFiles, ArePlacedFiles, IsKnownRecord, IsPlacedRecord}
use Rattle.repo_store.specs.Remembering.{AnyCollides}
use Rattle.repo_store.specs.WrittenAnswers.{contents_of_key}
use Rattle.repo_store.proofs.FixLemmas.{refusal_weaker}
use Rattle.repo_store.proofs.SearchLemmas.{found_by_key, known_apart, none_by_key, none_by_seen, none_by_words, seen_collide, seen_placed, words_collide, words_placed}
use Rattle.repo_store.proofs.lists.Lists.find_answer.Goals as goal

pub returns-in_err-words-clause-why : goal.returns-in_err-words-clause-why
returns-in_err-words-clause-why c =
    let fault = c.in_err-words.field-0.0 in
    let p = err_from_is_err_and c.from_residual.result c.from_residual.ensures.1 in
    rw (p.1, p.2) (subst (λ (m : Mirror). IsRefusal ⊥ ⊥ (AnyCollides (contents_of_key c.args.words.now c.args.seen.now) m.kept.contents) fault) c.self.view_is
    (refusal_weaker (λ h. h) (λ h. h) (words_collide c.self.inside.contents c.args.words.now c.args.seen.now) fault (c.in_err-words.ensures).why))

pub returns-in_default-clause-found : goal.returns-in_default-clause-found
returns-in_default-clause-found c =
    let kept = c.args.self.now.kept in
    let absent = rw c.in_default.is at (c.in_ok-words.ensures).absent in
    let here = subst (λ (m : Mirror). ¬ IsPlacedRecord m.kept.contents (words_record c.args.words.now)) c.self.view_is absent in
    sym (ap (option_map stored_answer) (none_by_words kept c.requires c.args.words.now c.args.seen.now here))

pub returns-in_err-seen-clause-why : goal.returns-in_err-seen-clause-why
returns-in_err-seen-clause-why c =
    let fault = c.in_err-seen.field-0.0 in
    let p = err_from_is_err_and c.from_residual-in_err-seen.result c.from_residual-in_err-seen.ensures.1 in
    rw (p.1, p.2) (subst (λ (m : Mirror). IsRefusal ⊥ ⊥ (AnyCollides (contents_of_key c.args.words.now c.args.seen.now) m.kept.contents) fault) c.self.view_is
    (refusal_weaker (λ h. h) (λ h. h) (seen_collide c.self.inside.contents c.args.words.now c.args.seen.now) fault (c.in_err-seen.ensures).why))

pub returns-in_default-2-clause-found : goal.returns-in_default-2-clause-found
returns-in_default-2-clause-found c =
    let kept = c.args.self.now.kept in
    let absent = rw c.in_default-2.is at (c.in_ok-seen.ensures).absent in
    let here = subst (λ (m : Mirror). ¬ ArePlacedFiles m.kept.contents c.args.seen.now) c.self.view_is absent in
    sym (ap (option_map stored_answer) (none_by_seen kept c.requires c.args.words.now c.args.seen.now here))

pub returns-in_ok-answer-in-Some-find-clause-found : goal.returns-in_ok-answer-in-Some-find-clause-found
returns-in_ok-answer-in-Some-find-clause-found c =
    let kept = c.args.self.now.kept in
    let words_digest = rw c.in-Some.is at (c.in_ok-words.ensures).digest in
    let words_known = subst (λ (m : Mirror). IsKnownRecord m.kept.contents (words_record c.args.words.now)) c.self.view_is (rw c.in-Some.is at (c.in_ok-words.ensures).known) in
    let seen_digest = rw c.in-Some-2.is at (c.in_ok-seen.ensures).digest in
    let seen_known = subst (λ (m : Mirror). AreKnownFiles m.kept.contents c.args.seen.now) c.self.view_is (rw c.in-Some-2.is at (c.in_ok-seen.ensures).known) in
    let answer = c.in-Some-find.answer.now in
    let there = subst (λ (m : Mirror). Contains m.kept.answers answer) c.self.view_is (c.in-Some-find.ensures).found in
    let same = (c.in-Some-find.ensures).key ∙ ap₂ (λ (w s : List ℕ). let made : Key = (w, s) in made) words_digest seen_digest in
    ap Some c.in_ok-answer-in-Some-find.ensures ∙ sym (ap (option_map stored_answer) (found_by_key kept c.requires c.args.words.now c.args.seen.now answer there same words_known seen_known))

pub returns-in-None-clause-found : goal.returns-in-None-clause-found
returns-in-None-clause-found c =
    let kept = c.args.self.now.kept in
    let words_digest = rw c.in-Some.is at (c.in_ok-words.ensures).digest in
    let seen_digest = rw c.in-Some-2.is at (c.in_ok-seen.ensures).digest in
    let same = ap₂ (λ (w s : List ℕ). let made : Key = (w, s) in made) words_digest seen_digest in
    let absent = subst (λ (m : Mirror). AllByRecursion (λ (a : KeptAnswer). ¬ (key_of a ≡ (c.in-Some.words, c.in-Some-2.seen))) m.kept.answers) c.self.view_is (c.in-None.ensures).absent in
    let none = subst (λ (q : Key). AllByRecursion (λ (a : KeptAnswer). ¬ (key_of a ≡ q)) kept.answers) same absent in
    sym (ap (option_map stored_answer) (none_by_key kept c.requires c.args.words.now c.args.seen.now none))

pub returns-in_default-clause-apart : goal.returns-in_default-clause-apart
returns-in_default-clause-apart c placed =
    let kept = c.args.self.now.kept in
    let absent = rw c.in_default.is at (c.in_ok-words.ensures).absent in
    let here = subst (λ (m : Mirror). ¬ IsPlacedRecord m.kept.contents (words_record c.args.words.now)) c.self.view_is absent in
    absurd (here (words_placed kept.contents c.args.words.now c.args.seen.now placed))

pub returns-in_default-2-clause-apart : goal.returns-in_default-2-clause-apart
returns-in_default-2-clause-apart c placed =
    let kept = c.args.self.now.kept in
    let absent = rw c.in_default-2.is at (c.in_ok-seen.ensures).absent in
    let here = subst (λ (m : Mirror). ¬ ArePlacedFiles m.kept.contents c.args.seen.now) c.self.view_is absent in
    absurd (here (seen_placed kept.contents c.args.words.now c.args.seen.now placed))

pub returns-in_ok-answer-in-Some-find-clause-apart : goal.returns-in_ok-answer-in-Some-find-clause-apart
returns-in_ok-answer-in-Some-find-clause-apart c placed =
    let words_known = subst (λ (m : Mirror). IsKnownRecord m.kept.contents (words_record c.args.words.now)) c.self.view_is (rw c.in-Some.is at (c.in_ok-words.ensures).known) in
    let seen_known = subst (λ (m : Mirror). AreKnownFiles m.kept.contents c.args.seen.now) c.self.view_is (rw c.in-Some-2.is at (c.in_ok-seen.ensures).known) in
    known_apart c.args.self.now.kept.contents c.args.words.now c.args.seen.now c.requires.apart words_known seen_known

pub returns-in-None-clause-apart : goal.returns-in-None-clause-apart
returns-in-None-clause-apart c placed =
    let words_known = subst (λ (m : Mirror). IsKnownRecord m.kept.contents (words_record c.args.words.now)) c.self.view_is (rw c.in-Some.is at (c.in_ok-words.ensures).known) in
    let seen_known = subst (λ (m : Mirror). AreKnownFiles m.kept.contents c.args.seen.now) c.self.view_is (rw c.in-Some-2.is at (c.in_ok-seen.ensures).known) in
    known_apart c.args.self.now.kept.contents c.args.words.now c.args.seen.now c.requires.apart words_known seen_known

pub returns-in_ok-answer-in-Some-find-clause-key : goal.returns-in_ok-answer-in-Some-find-clause-key
returns-in_ok-answer-in-Some-find-clause-key c =
    let kept = c.args.self.now.kept in
    let words_digest = rw c.in-Some.is at (c.in_ok-words.ensures).digest in
    let words_known = subst (λ (m : Mirror). IsKnownRecord m.kept.contents (words_record c.args.words.now)) c.self.view_is (rw c.in-Some.is at (c.in_ok-words.ensures).known) in
    let seen_digest = rw c.in-Some-2.is at (c.in_ok-seen.ensures).digest in
    let seen_known = subst (λ (m : Mirror). AreKnownFiles m.kept.contents c.args.seen.now) c.self.view_is (rw c.in-Some-2.is at (c.in_ok-seen.ensures).known) in
    let answer = c.in-Some-find.answer.now in
    let there = subst (λ (m : Mirror). Contains m.kept.answers answer) c.self.view_is (c.in-Some-find.ensures).found in
    let same = (c.in-Some-find.ensures).key ∙ ap₂ (λ (w s : List ℕ). let made : Key = (w, s) in made) words_digest seen_digest in
    (answer, (found_by_key kept c.requires c.args.words.now c.args.seen.now answer there same words_known seen_known, (c.in-Some-find.ensures).key))
