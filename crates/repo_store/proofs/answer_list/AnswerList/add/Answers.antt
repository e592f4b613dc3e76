use Rattle.std.proofs.Common.{◌∷◌, ◌-◌, ◌≤◌, ◌≡◌, List, length, subst, sym, arith}
use Rattle.std.specs.List.{AllByRecursion}
use Rattle.std.specs.Map.{values_of}
use Rattle.lru.specs.LruCache.{lru_cache, put_entries}
use Rattle.repo_store.specs.Answers.{KeptAnswer}
use Rattle.repo_store.specs.Index.{Key, key_of, keys_eq}
use Rattle.repo_store.specs.ListedAnswers.{ListedAnswers}
use Rattle.repo_store.proofs.AnswerListLemmas.{added_is, listed_now, shown_now, values_now}
use Rattle.repo_store.proofs.answer_list.AnswerList.add.Goals as goal

pub invariant_of-self-2 : goal.invariant_of-self-2
invariant_of-self-2 c =
    let old = c.self.inside.cache in
    let it = c.self.invariant in
    let answer = c.args.answer in
    let put = subst (λ (key : Key). c.put.new.self ≡ lru_cache (put_entries keys_eq old key answer) old.cap) c.key_of.ensures c.in_ok-put.ensures.entries in
    let none = subst (λ (list : ListedAnswers). AllByRecursion (λ (other : KeptAnswer). ¬ (key_of other ≡ key_of answer)) list.answers) (sym c.self.view_is) c.requires in
    let small = c.len-length.ensures.fits in
    let count = c.len-length.ensures.len in
    let cap = it.unbounded in
    let room : length old.entries ≤ old.cap - 1 = omega arith in
    listed_now c.put.new.self (put_entries keys_eq old (key_of answer) answer) old.cap (answer ∷ values_of old.entries) put (added_is old.entries it.keys answer old.cap none room)
    c.self.inside.limit c.self.inside.next it.unbounded it.limited it.ticking

pub returns-clause-added : goal.returns-clause-added
returns-clause-added c =
    let old = c.self.inside.cache in
    let it = c.self.invariant in
    let answer = c.args.answer in
    let put = subst (λ (key : Key). c.put.new.self ≡ lru_cache (put_entries keys_eq old key answer) old.cap) c.key_of.ensures c.in_ok-put.ensures.entries in
    let none = subst (λ (list : ListedAnswers). AllByRecursion (λ (other : KeptAnswer). ¬ (key_of other ≡ key_of answer)) list.answers) (sym c.self.view_is) c.requires in
    let small = c.len-length.ensures.fits in
    let count = c.len-length.ensures.len in
    let cap = it.unbounded in
    let room : length old.entries ≤ old.cap - 1 = omega arith in
    shown_now c.args.self.now _ _ c.self.inside.limit c.self.inside.next (λ (answers : List KeptAnswer). answer ∷ answers) c.self.view_is
    (values_now c.put.new.self (put_entries keys_eq old (key_of answer) answer) old.cap (answer ∷ values_of old.entries) put (added_is old.entries it.keys answer old.cap none room))
