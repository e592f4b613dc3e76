-- The answers in memory, the most recently used first.
use Rattle.std.proofs.Common.{◌≡◌, ℕ, zero, suc, ◌-◌, ◌^◌, ◌<◌, ◌≤◌, Bool, true, false, not, cond, List, [], ◌∷◌, length, map, take, drop, reverse, get_or, Bor, Option, None, Some, Result, Ok, Err, OnOk, is_ok, IsSome, IfSome, IfNone, if◌then◌else◌, refl, sym, ap, ap₂, subst, ◌∙◌, arith}
use mathlib.Core.List.{reverse_aux}
use Rattle.std.specs.List.{AllByRecursion, Any, Contains, IsDistinct, slice_get}
use Rattle.std.specs.Map.{keys_of, lookup, lookup_entry, remove_entry, values_of}
use Rattle.std.specs.Option.{option_copied, option_map, option_map_or}
use Rattle.std.proofs.lemmas.Bool.{false_from_ne_true}
use Rattle.std.proofs.lemmas.List.{drop-map, take-map, take_all}
use Rattle.std.proofs.lemmas.List.Elements.{All-contains, All-from_recursion}
use Rattle.std.proofs.lemmas.Map.Keys.{IsDistinct-head, IsDistinct-tail}
use Rattle.std.proofs.lemmas.Option.{slice_get-map}
use Rattle.lru.specs.LruCache.{LruCache, lru_cache, promoted, put_entries}
use Rattle.hook_base.specs.declared.file.File.{File}
use Rattle.repo_store.specs.AnswerLemmas.{found_among as found_for, is_for_decides}
use Rattle.repo_store.specs.Answers.{KeptAnswer, HaveOwnKeys, answer_for, have_one_key, is_for}
use Rattle.repo_store.specs.Complete.{HasRecords, HaveDistinctDigests, HaveRecords}
use Rattle.repo_store.specs.Index.{Key, key_of, keys_eq}
use Rattle.store_faults.specs.Limits.{IsLimit}
use Rattle.repo_store.specs.ListedAnswers.{IsListed, IsNextTick, ListedAnswers, brought_answers, keyed_answer, first_key, has_key, keyed, of_key, of_other_keys}
use Rattle.repo_store.specs.Remembered.{TellsKey}
use Rattle.repo_store.specs.SoundAnswers.{IsSoundAnswer}
use Rattle.repo_store.specs.UsedAnswers.{in_front, in_front_if_any, used, without_key}
use Rattle.repo_store.proofs.KeyLemmas.{keys_decide, keys_same}
use Rattle.repo_store.proofs.RememberLemmas.{told_by}

abbrev Entries : Type 0
Entries = List (Key × KeptAnswer)

abbrev Cache : Type 0
Cache = LruCache Key KeptAnswer

-- ---- the list that a cache holds

values_keyed : (answers : List KeptAnswer) → values_of (keyed answers) ≡ answers
values_keyed [] = refl
values_keyed (answer ∷ answers) = ap (λ (l : List KeptAnswer). answer ∷ l) (values_keyed answers)

values_are : (entries : Entries) (answers : List KeptAnswer) → entries ≡ keyed answers → values_of entries ≡ answers
values_are entries answers is = ap values_of is ∙ values_keyed answers

keyed_again : (entries : Entries) (answers : List KeptAnswer) → entries ≡ keyed answers → entries ≡ keyed (values_of entries)
keyed_again entries answers is = is ∙ ap keyed (sym (values_are entries answers is))

-- a cache that now holds other answers
module _ (cache : Cache) (entries : Entries) (cap : ℕ) (answers : List KeptAnswer) (now_is : cache ≡ lru_cache entries cap) (is : entries ≡ keyed answers) where
  pub values_now : values_of cache.entries ≡ answers
  values_now = ap (λ (c : Cache). values_of c.entries) now_is ∙ values_are entries answers is

  pub listed_now : (limit next : ℕ) → cap ≡ 2 ^ 64 - 1 → IsLimit limit → IsNextTick next → IsListed cache.entries cache.cap limit next
  listed_now limit next unbounded limited ticking = record {
    keys = subst (λ (c : Cache). c.entries ≡ keyed (values_of c.entries)) (sym now_is) (keyed_again entries answers is);
    unbounded = ap (λ (c : Cache). c.cap) now_is ∙ unbounded;
    limited = limited;
    ticking = ticking;
  }

-- what is shown then
pub shown_now : (list : ListedAnswers) (before now : List KeptAnswer) (limit next : ℕ) (change : List KeptAnswer → List KeptAnswer)
    → ◌≡◌ {A = ListedAnswers} (record { answers = before; limit = limit; next = next }) list → now ≡ change before
    → ◌≡◌ {A = ListedAnswers} (record { answers = now; limit = limit; next = next }) (record list { answers = change list.answers })
shown_now list before now limit next change is same =
    subst (λ (l : ListedAnswers). ◌≡◌ {A = ListedAnswers} (record { answers = now; limit = limit; next = next }) (record l { answers = change l.answers })) is
    (ap (λ (answers : List KeptAnswer). let made : ListedAnswers = record { answers = answers; limit = limit; next = next } in made) same)

-- ---- the answer of a key

key_is : (key : Key) (answer : KeptAnswer) → has_key key answer ≡ true → key_of answer ≡ key
key_is key answer h = sym ((keys_decide key (key_of answer)).0 h)

pub found_value : (key : Key) (answers : List KeptAnswer) → lookup (keys_eq key) (keyed answers) ≡ of_key key answers
found_value key [] = refl
found_value key (answer ∷ answers) =
    elim (keys_eq key (key_of answer)) as (λ b. cond b (Some answer) (lookup (keys_eq key) (keyed answers)) ≡ (if b then Some answer else of_key key answers))
    [ true ↦ refl | false ↦ found_value key answers ]

found_entry : (key : Key) (answers : List KeptAnswer) → lookup_entry (keys_eq key) (keyed answers) ≡ option_map keyed_answer (of_key key answers)
found_entry key [] = refl
found_entry key (answer ∷ answers) =
    elim (keys_eq key (key_of answer)) as (λ b. cond b (Some (keyed_answer answer)) (lookup_entry (keys_eq key) (keyed answers))
    ≡ option_map keyed_answer (if b then Some answer else of_key key answers)) [
      | true ↦ refl
      | false ↦ found_entry key answers
    ]

contains_first : (answer : KeptAnswer) (answers : List KeptAnswer) → Contains (answer ∷ answers) answer
contains_first answer answers = (0, omega arith, refl)

contains_later : (other answer : KeptAnswer) (answers : List KeptAnswer) → Contains answers answer → Contains (other ∷ answers) answer
contains_later other answer answers there = (suc there.0, let within = there.1 in omega arith, there.2)

-- the answer that is found is one of them, and has the key
pub found_there : (key : Key) (answer : KeptAnswer) (answers : List KeptAnswer) → of_key key answers ≡ Some answer → Contains answers answer × (key_of answer ≡ key)
found_there key answer [] found = absurd (let never : ◌≡◌ {A = Option KeptAnswer} None (Some answer) = found in cc)
found_there key answer (other ∷ others) found =
    elim (has_key key other) as (λ b. has_key key other ≡ b → (if b then Some other else of_key key others) ≡ Some answer → Contains (other ∷ others) answer × (key_of answer ≡ key)) [
      | true ↦ λ e here. let is : other ≡ answer = cc in (subst (λ (a : KeptAnswer). Contains (other ∷ others) a) is (contains_first other others), ap key_of (sym is) ∙ key_is key other e)
      | false ↦ λ e later. let rest = found_there key answer others later in (contains_later other answer others rest.0, rest.1)
    ] refl found

-- where none is found, none has the key
pub none_there : (key : Key) (answers : List KeptAnswer) → of_key key answers ≡ None → AllByRecursion (λ (answer : KeptAnswer). ¬ (key_of answer ≡ key)) answers
none_there key [] none = tt
none_there key (other ∷ others) none =
    elim (has_key key other) as (λ b. has_key key other ≡ b → (if b then Some other else of_key key others) ≡ None → AllByRecursion (λ (answer : KeptAnswer). ¬ (key_of answer ≡ key)) (other ∷ others)) [
      | true ↦ λ e here. absurd (let never : ◌≡◌ {A = Option KeptAnswer} (Some other) None = here in cc)
      | false ↦ λ e later. (λ same. let one = (keys_decide key (key_of other)).1 (sym same) in let never : true ≡ false = sym one ∙ e in absurd (cc), none_there key others later)
    ] refl none

-- where none has the key, none is found
pub none_found : (key : Key) (answers : List KeptAnswer) → AllByRecursion (λ (answer : KeptAnswer). ¬ (key_of answer ≡ key)) answers → of_key key answers ≡ None
none_found key [] none = refl
none_found key (other ∷ others) none =
    ap (λ b. if b then Some other else of_key key others) (false_from_ne_true (has_key key other) (λ h. none.0 (key_is key other h))) ∙ none_found key others none.1

-- where one has the key, one is found
pub one_found : (key : Key) (answers : List KeptAnswer) → Any (λ (answer : KeptAnswer). key_of answer ≡ key) answers → (answer : KeptAnswer) × (of_key key answers ≡ Some answer)
one_found key answers any =
    elim (of_key key answers) as (λ o. of_key key answers ≡ o → (answer : KeptAnswer) × (o ≡ Some answer)) [
      | None ↦ λ e. absurd (go answers any.0 any.1 any.2 any.3 any.4 (none_there key answers e))
      | Some answer ↦ λ e. (answer, refl)
    ] refl
  where
    go : (answers : List KeptAnswer) (k : ℕ) (answer : KeptAnswer) → k < length answers → get_or answers k answer ≡ answer → key_of answer ≡ key
        → AllByRecursion (λ (other : KeptAnswer). ¬ (key_of other ≡ key)) answers → ⊥
    go [] k answer within is same none = absurd (omega arith)
    go (other ∷ others) zero answer within is same none = none.0 (ap key_of is ∙ same)
    go (other ∷ others) (suc k) answer within is same none = go others k answer (omega arith) is same none.1

-- ---- a key once

apart_stay : (key : Key) (answers : List KeptAnswer) → AllByRecursion (λ other. keys_eq key other ≡ false) (keys_of (keyed answers)) → answers ≡ of_other_keys key answers
apart_stay key [] apart = refl
apart_stay key (answer ∷ answers) apart =
    ap (λ (l : List KeptAnswer). answer ∷ l) (apart_stay key answers apart.1) ∙ sym (ap (λ (b : Bool). if not b then answer ∷ of_other_keys key answers else of_other_keys key answers) apart.0)

others_left : (key : Key) (answers : List KeptAnswer) → IsDistinct keys_eq (keys_of (keyed answers)) → remove_entry (keys_eq key) (keyed answers) ≡ keyed (of_other_keys key answers)
others_left key [] once = refl
others_left key (answer ∷ answers) once =
    let rest : Entries = remove_entry (keys_eq key) (keyed answers) in
    elim (keys_eq key (key_of answer)) as (λ b. keys_eq key (key_of answer) ≡ b
    → cond b (keyed answers) (keyed_answer answer ∷ rest) ≡ keyed (if not b then answer ∷ of_other_keys key answers else of_other_keys key answers)) [
      | true ↦ λ e.
          let apart = IsDistinct-head keys_eq (key_of answer) (keys_of (keyed answers)) once in
          ap keyed (apart_stay key answers (subst (λ (k : Key). AllByRecursion (λ other. keys_eq k other ≡ false) (keys_of (keyed answers))) (sym ((keys_decide key (key_of answer)).0 e)) apart))
      | false ↦ λ e. ap (λ (l : Entries). keyed_answer answer ∷ l) (others_left key answers (IsDistinct-tail keys_eq (key_of answer) (keys_of (keyed answers)) once))
    ] refl

keys_apart : (answer : KeptAnswer) (answers : List KeptAnswer) → AllByRecursion (λ other. keys_eq (key_of answer) other ≡ false) (keys_of (keyed answers))
    → AllByRecursion (λ (other : KeptAnswer). have_one_key answer other ≡ false) answers
keys_apart answer [] apart = tt
keys_apart answer (other ∷ others) apart = (
  false_from_ne_true (have_one_key answer other) (λ one.
      let same = (keys_decide (key_of answer) (key_of other)).1 (keys_same answer other one) in
      let never : true ≡ false = sym same ∙ apart.0 in
      absurd (cc)),
  keys_apart answer others apart.1,
)

own_keys : (answers : List KeptAnswer) → IsDistinct keys_eq (keys_of (keyed answers)) → HaveOwnKeys answers
own_keys [] once = tt
own_keys (answer ∷ answers) once =
    (keys_apart answer answers (IsDistinct-head keys_eq (key_of answer) (keys_of (keyed answers)) once), own_keys answers (IsDistinct-tail keys_eq (key_of answer) (keys_of (keyed answers)) once))

-- ---- the calls of a cache

-- the digests of a key tell whether the answer has it
has_told : (answer other : KeptAnswer) → TellsKey answer other → has_key (key_of answer) other ≡ is_for answer.words answer.seen other
has_told answer other tells =
    elim (have_one_key other answer) as (λ b. have_one_key other answer ≡ b → has_key (key_of answer) other ≡ b) [
      | true ↦ λ e. (keys_decide (key_of answer) (key_of other)).1 (sym (keys_same other answer e))
      | false ↦ λ e. false_from_ne_true (has_key (key_of answer) other) (λ h. let one = tells (key_is (key_of answer) other h) in let never : true ≡ false = sym one ∙ e in absurd (cc))
    ] refl

-- so the same are left
pub others_told : (answer : KeptAnswer) (answers : List KeptAnswer) → AllByRecursion (TellsKey answer) answers → of_other_keys (key_of answer) answers ≡ without_key answer.words answer.seen answers
others_told answer [] tells = refl
others_told answer (other ∷ others) tells =
    let rest : List KeptAnswer = of_other_keys (key_of answer) others in
    ap₂ (λ (b : Bool) (l : List KeptAnswer). if not b then other ∷ l else l) (has_told answer other tells.0) (others_told answer others tells.1)

module _ (entries : Entries) (is : entries ≡ keyed (values_of entries)) where
  pub taken : (count : ℕ) → take count entries ≡ keyed (take count (values_of entries))
  taken count = ap (take count) is ∙ take-map keyed_answer count (values_of entries)

  pub dropped : (count : ℕ) → drop count entries ≡ keyed (drop count (values_of entries))
  dropped count = ap (drop count) is ∙ drop-map keyed_answer count (values_of entries)

  pub found_is : (key : Key) → lookup (keys_eq key) entries ≡ of_key key (values_of entries)
  found_is key = ap (lookup (keys_eq key)) is ∙ found_value key (values_of entries)

  pub key_at : (place : ℕ) → option_map (λ (e : Key × KeptAnswer). e.0) (slice_get entries place) ≡ option_map key_of (slice_get (values_of entries) place)
  key_at place =
      ap (λ (l : Entries). option_map (λ (e : Key × KeptAnswer). e.0) (slice_get l place)) is ∙ ap (option_map (λ (e : Key × KeptAnswer). e.0)) (slice_get-map keyed_answer (values_of entries) place)
      ∙ elim (slice_get (values_of entries) place) as (λ o. option_map (λ (e : Key × KeptAnswer). e.0) (option_map keyed_answer o) ≡ option_map key_of o) [ None ↦ refl | Some answer ↦ refl ]

  module _ (once : IsDistinct keys_eq (keys_of entries)) where
    once_keyed : IsDistinct keys_eq (keys_of (keyed (values_of entries)))
    once_keyed = subst (λ (l : Entries). IsDistinct keys_eq (keys_of l)) is once

    pub keys_own : HaveOwnKeys (values_of entries)
    keys_own = own_keys (values_of entries) once_keyed

    pub promoted_is : (key : Key) → promoted (keys_eq key) entries ≡ keyed (brought_answers key (values_of entries))
    promoted_is key =
        let answers = values_of entries in
        let others = of_other_keys key answers in
        ap (promoted (keys_eq key)) is ∙ ap₂ (λ (o : Option (Key × KeptAnswer)) (l : Entries). option_map_or (λ e. e ∷ l) o (keyed answers)) (found_entry key answers)
        (others_left key answers once_keyed)
        ∙ elim (of_key key answers) as (λ o. option_map_or (λ e. e ∷ keyed others) (option_map keyed_answer o) (keyed answers) ≡ keyed (option_map_or (λ answer. answer ∷ others) o answers)) [
          | None ↦ refl
          | Some answer ↦ refl
        ]

    pub replaced_is : (answer : KeptAnswer) (cap : ℕ) → Any (λ (other : KeptAnswer). key_of other ≡ key_of answer) (values_of entries) → AllByRecursion (TellsKey answer) (values_of entries)
        → put_entries keys_eq (lru_cache entries cap) (key_of answer) answer ≡ keyed (in_front answer (values_of entries))
    replaced_is answer cap any tells =
        let answers = values_of entries in
        let key = key_of answer in
        let one = one_found key answers any in
        let other = found_there key one.0 answers one.1 in
        let there : lookup_entry (keys_eq key) entries ≡ Some (keyed_answer one.0) = ap (lookup_entry (keys_eq key)) is ∙ found_entry key answers ∙ ap (option_map keyed_answer) one.1 in
        let left : remove_entry (keys_eq key) entries ≡ keyed (of_other_keys key answers) = ap (remove_entry (keys_eq key)) is ∙ others_left key answers once_keyed in
        let rest : Entries = (key, answer) ∷ take (cap - 1) entries in
        ap₂ (λ (o : Option (Key × KeptAnswer)) (l : Entries). option_map_or (λ e. (e.0, answer) ∷ l) o rest) there left
        ∙ ap₂ (λ (k : Key) (l : List KeptAnswer). let made : Entries = (k, answer) ∷ keyed l in made) other.1 (others_told answer answers tells)

  pub added_is : (answer : KeptAnswer) (cap : ℕ) → AllByRecursion (λ (other : KeptAnswer). ¬ (key_of other ≡ key_of answer)) (values_of entries) → length entries ≤ cap - 1
      → put_entries keys_eq (lru_cache entries cap) (key_of answer) answer ≡ keyed (answer ∷ values_of entries)
  added_is answer cap none room =
      let answers = values_of entries in
      let key = key_of answer in
      let absent : lookup_entry (keys_eq key) entries ≡ None = ap (lookup_entry (keys_eq key)) is ∙ found_entry key answers ∙ ap (option_map keyed_answer) (none_found key answers none) in
      ap (λ (o : Option (Key × KeptAnswer)). option_map_or (λ e. (e.0, answer) ∷ remove_entry (keys_eq key) entries) o ((key, answer) ∷ take (cap - 1) entries)) absent
      ∙ ap (λ (l : Entries). (key, answer) ∷ l) (take_all (cap - 1) entries room ∙ is)

-- ---- what the calls of the list show

-- the answer that a cache finds
module _ (found : Option (Bor KeptAnswer)) (key : Key) (entries : Entries) (keys : entries ≡ keyed (values_of entries)) (is : option_copied found ≡ lookup (keys_eq key) entries) where
  of_key_is : option_copied found ≡ of_key key (values_of entries)
  of_key_is = is ∙ found_is entries keys key

  pub found_among : IfSome found (λ answer. Contains (values_of entries) answer.now)
  found_among =
      elim found as (λ o. option_copied o ≡ of_key key (values_of entries) → IfSome o (λ answer. Contains (values_of entries) answer.now)) [
        | None ↦ λ e. tt
        | Some answer ↦ λ e. (found_there key answer.now (values_of entries) (sym e)).0
      ] of_key_is

  pub found_key : IfSome found (λ answer. key_of answer.now ≡ key)
  found_key =
      elim found as (λ o. option_copied o ≡ of_key key (values_of entries) → IfSome o (λ answer. key_of answer.now ≡ key)) [
        | None ↦ λ e. tt
        | Some answer ↦ λ e. (found_there key answer.now (values_of entries) (sym e)).1
      ] of_key_is

  pub found_none : IfNone found (AllByRecursion (λ (answer : KeptAnswer). ¬ (key_of answer ≡ key)) (values_of entries))
  found_none =
      elim found as (λ o. option_copied o ≡ of_key key (values_of entries) → IfNone o (AllByRecursion (λ (answer : KeptAnswer). ¬ (key_of answer ≡ key)) (values_of entries))) [
        | None ↦ λ e. none_there key (values_of entries) (sym e)
        | Some answer ↦ λ e. tt
      ] of_key_is

-- a cache has the key of an answer that is one of its own
pub is_there : (key : Key) (entries : Entries) → entries ≡ keyed (values_of entries) → Any (λ (answer : KeptAnswer). key_of answer ≡ key) (values_of entries) → IsSome (lookup (keys_eq key) entries)
is_there key entries keys any = subst IsSome (sym (found_is entries keys key ∙ (one_found key (values_of entries) any).1)) refl

-- the keys of a cache are those of its answers
pub keys_are : (entries : Entries) → entries ≡ keyed (values_of entries) → keys_of entries ≡ map key_of (values_of entries)
keys_are entries keys = ap keys_of keys ∙ go (values_of entries)
  where
    go : (answers : List KeptAnswer) → keys_of (keyed answers) ≡ map key_of answers
    go [] = refl
    go (answer ∷ answers) = ap (λ (l : List Key). key_of answer ∷ l) (go answers)

turned_onto : (answers others : List KeptAnswer) → reverse_aux (map key_of answers) (map key_of others) ≡ map key_of (reverse_aux answers others)
turned_onto [] others = refl
turned_onto (answer ∷ answers) others = turned_onto answers (answer ∷ others)

-- the keys of the answers from the last one on
pub keys_turned : (answers : List KeptAnswer) (keys : List Key) → keys ≡ map key_of answers → reverse keys ≡ map key_of (reverse answers)
keys_turned answers keys is = ap reverse is ∙ turned_onto answers []

-- whether the first key of a cache is this one
pub first_is : (list : ListedAnswers) (entries : Entries) (key : Key) (answer : KeptAnswer) → entries ≡ keyed (values_of entries) → values_of entries ≡ list.answers
    → Some (key, answer) ≡ slice_get entries 0
    → first_key list.answers ≡ Some key
first_is list entries key answer keys shown is = ap first_key (sym shown) ∙ sym (key_at entries keys 0) ∙ ap (option_map (λ (e : Key × KeptAnswer). e.0)) (sym is)

pub ok_done : {T E P : Type 0} (r : Result T E) → is_ok r ≡ true → OnOk r P → P
ok_done (Ok x) e p = p
ok_done (Err y) e p = absurd (let never : false ≡ true = e in cc)

pub same_key : {a b : Key} → Some a ≡ Some b → a ≡ b
same_key e = cc

-- ---- keys by their digests

told_for : (answer : KeptAnswer) (answers : List KeptAnswer) → AllByRecursion (TellsKey answer) answers → of_key (key_of answer) answers ≡ answer_for answer.words answer.seen answers
told_for answer [] tells = refl
told_for answer (other ∷ others) tells = ap₂ (λ (b : Bool) (o : Option KeptAnswer). if b then Some other else o) (has_told answer other tells.0) (told_for answer others tells.1)

brought_told : (words : List (List ℕ)) (seen : List File) (answer : KeptAnswer) (answers : List KeptAnswer) → AllByRecursion (TellsKey answer) answers → answer_for words seen answers ≡ Some answer
    → brought_answers (key_of answer) answers ≡ used words seen answers
brought_told words seen answer answers tells found =
    let same = (is_for_decides words seen answer).0 (found_for words seen answer answers found).1 in
    let own : answer_for answer.words answer.seen answers ≡ Some answer = ap₂ (λ (w : List (List ℕ)) (s : List File). answer_for w s answers) same.0 same.1 ∙ found in
    ap₂ (λ (o : Option KeptAnswer) (l : List KeptAnswer). option_map_or (λ other. other ∷ l) o answers) (told_for answer answers tells ∙ own) (others_told answer answers tells)
    ∙ sym (ap (λ (o : Option KeptAnswer). in_front_if_any o answers) found)

module _ (contents : List (List ℕ)) (apart : HaveDistinctDigests contents) where
  -- the answer that is found is brought_answers to the front by the digests of its key
  pub brought_used : (words : List (List ℕ)) (seen : List File) (answer : KeptAnswer) (key : Key) (answers : List KeptAnswer) → AllByRecursion IsSoundAnswer answers → HaveRecords contents answers
      → answer_for words seen answers ≡ Some answer → key_of answer ≡ key → brought_answers key answers ≡ used words seen answers
  brought_used words seen answer key answers sound have found is =
      let kept = All-contains (HasRecords contents) answers answer (All-from_recursion (HasRecords contents) answers have) (found_for words seen answer answers found).0 in
      ap (λ (k : Key). brought_answers k answers) (sym is) ∙ brought_told words seen answer answers (told_by contents apart answer kept answers sound have) found
