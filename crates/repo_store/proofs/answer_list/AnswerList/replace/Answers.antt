use Rattle.std.proofs.Common.{◌≡◌, IsSome, List, subst, sym}
use Rattle.std.specs.List.{AllByRecursion, Any}
use Rattle.std.specs.Map.{lookup, values_of}
use Rattle.lru.specs.LruCache.{lru_cache, put_entries}
use Rattle.repo_store.specs.Answers.{KeptAnswer}
use Rattle.repo_store.specs.Index.{Key, key_of, keys_eq}
use Rattle.repo_store.specs.ListedAnswers.{ListedAnswers}
use Rattle.repo_store.specs.Remembered.{TellsKey}
use Rattle.repo_store.specs.UsedAnswers.{in_front}
use Rattle.repo_store.proofs.AnswerListLemmas.{is_there, listed_now, ok_done, replaced_is, shown_now, values_now}
use Rattle.repo_store.proofs.answer_list.AnswerList.replace.Goals as goal

pub invariant_of-self : goal.invariant_of-self
invariant_of-self c =
    let old = c.self.inside.cache in
    let it = c.self.invariant in
    let answer = c.args.answer in
    let there = subst (λ (list : ListedAnswers). Any (λ (other : KeptAnswer). key_of other ≡ key_of answer) list.answers) (sym c.self.view_is) c.requires.there in
    let told = subst (λ (list : ListedAnswers). AllByRecursion (TellsKey answer) list.answers) (sym c.self.view_is) c.requires.told in
    let found = subst (λ (key : Key). IsSome (lookup (keys_eq key) old.entries)) (sym c.key_of.ensures) (is_there (key_of answer) old.entries it.keys there) in
    let done = ok_done c.put-before.result (c.put-before.ensures.succeeds found) c.put-before.ensures.entries in
    let put = subst (λ (key : Key). c.put-before.new.self ≡ lru_cache (put_entries keys_eq old key answer) old.cap) c.key_of.ensures done in
    listed_now c.put-before.new.self (put_entries keys_eq old (key_of answer) answer) old.cap (in_front answer (values_of old.entries)) put
    (replaced_is old.entries it.keys c.len-length.ensures.valid.0 answer old.cap there told)
    c.self.inside.limit c.self.inside.next it.unbounded it.limited it.ticking

pub returns : goal.returns
returns c =
    let old = c.self.inside.cache in
    let it = c.self.invariant in
    let answer = c.args.answer in
    let there = subst (λ (list : ListedAnswers). Any (λ (other : KeptAnswer). key_of other ≡ key_of answer) list.answers) (sym c.self.view_is) c.requires.there in
    let told = subst (λ (list : ListedAnswers). AllByRecursion (TellsKey answer) list.answers) (sym c.self.view_is) c.requires.told in
    let found = subst (λ (key : Key). IsSome (lookup (keys_eq key) old.entries)) (sym c.key_of.ensures) (is_there (key_of answer) old.entries it.keys there) in
    let done = ok_done c.put-before.result (c.put-before.ensures.succeeds found) c.put-before.ensures.entries in
    let put = subst (λ (key : Key). c.put-before.new.self ≡ lru_cache (put_entries keys_eq old key answer) old.cap) c.key_of.ensures done in
    shown_now c.args.self.now _ _ c.self.inside.limit c.self.inside.next (λ (answers : List KeptAnswer). in_front answer answers) c.self.view_is
    (values_now c.put-before.new.self (put_entries keys_eq old (key_of answer) answer) old.cap (in_front answer (values_of old.entries)) put
    (replaced_is old.entries it.keys c.len-length.ensures.valid.0 answer old.cap there told))
