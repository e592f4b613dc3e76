-- Lemmas: which answer is found for words and seen files, and what a use, an added answer or a changed limit
-- makes of that.
use Rattle.std.specs.Prelude.{◌≡◌, ◌↔◌, ◌⊎◌, ℕ, zero, suc, ◌<◌, ◌≤◌, not, true, false, List, [], ◌∷◌, length, Option, None, Some, if◌then◌else◌, IsPermutation, refl}
use Rattle.std.specs.Cmp.Lexicographic.{bytes_decides, pointwise, pointwise_decides}
use Rattle.std.specs.List.{AllByRecursion, Contains}
use Rattle.std.specs.Str.{bytes_eq}
use Rattle.std.proofs.Common.{inl, inr, sym, ap, ap₂, subst, ◌∙◌, get_or, arith}
use Rattle.std.proofs.lemmas.Bool.{false_from_ne_true}
use Rattle.std.proofs.lemmas.List.Elements.{All-contains, All-from_recursion, recursion_from_All}
use Rattle.std.proofs.lemmas.List.Sorted.{All-permutation, Contains-permutation}
use Rattle.sqlite_keyed.proofs.ListLemmas.{all-filter, ascending-filter}
use Rattle.hook_base.specs.declared.file.File.{File}
use Rattle.hook_base.specs.AlikeLemmas.{and_decides}
use Rattle.hook_base.specs.SameFileLemmas.{same_file_decides}
use Rattle.hook_base.specs.SameFiles.{is_same_file}
use Rattle.repo_store.specs.Answers.{KeptAnswer, HaveOwnKeys, answer_for, have_one_key, is_for}
use Rattle.repo_store.specs.UsedAnswers.{in_front, in_front_if_any, used, with_answer_within, within_limit, without_key}

-- ---- whether an answer has these words and seen files

pub is_for_decides : (words : List (List ℕ)) (seen : List File) (answer : KeptAnswer)
    → (is_for words seen answer ≡ true) ↔ ((answer.words ≡ words) × (answer.seen ≡ seen))
is_for_decides words seen answer =
    and_decides (pointwise bytes_eq answer.words words) (pointwise is_same_file answer.seen seen)
    (pointwise_decides bytes_decides answer.words words) (pointwise_decides same_file_decides answer.seen seen)

-- an answer has its own words and seen files
pub is_for_itself : (answer : KeptAnswer) → is_for answer.words answer.seen answer ≡ true
is_for_itself answer = (is_for_decides answer.words answer.seen answer).1 (refl, refl)

pub one_key : (a b : KeptAnswer) → have_one_key a b ≡ true → (a.words ≡ b.words) × (a.seen ≡ b.seen)
one_key a b h = (is_for_decides b.words b.seen a).0 h

pub own_key : (a b : KeptAnswer) → a.words ≡ b.words → a.seen ≡ b.seen → have_one_key a b ≡ true
own_key a b words seen = (is_for_decides b.words b.seen a).1 (words, seen)

-- two answers with the same words and seen files have one key
pub one_key_for : (words : List (List ℕ)) (seen : List File) (a b : KeptAnswer) → is_for words seen a ≡ true
    → is_for words seen b ≡ true → have_one_key a b ≡ true
one_key_for words seen a b one other =
    let here = (is_for_decides words seen a).0 one in
    let there = (is_for_decides words seen b).0 other in
    own_key a b (here.0 ∙ sym there.0) (here.1 ∙ sym there.1)

-- if two answers have the same key, an answer of another key than the first has another key than the second
pub other_key : (a b c : KeptAnswer) → have_one_key a b ≡ true → have_one_key a c ≡ false → have_one_key b c ≡ false
other_key a b c one apart =
    let same = one_key a b one in
    false_from_ne_true (have_one_key b c) (λ h.
    let also = one_key b c h in
    let both : have_one_key a c ≡ true = own_key a c (same.0 ∙ also.0) (same.1 ∙ also.1) in
    let never : true ≡ false = sym both ∙ apart in
    absurd (cc))

pub other_key_back : (a b : KeptAnswer) → have_one_key a b ≡ false → have_one_key b a ≡ false
other_key_back a b apart =
    false_from_ne_true (have_one_key b a) (λ h.
    let same = one_key b a h in
    let back : have_one_key a b ≡ true = own_key a b (sym same.0) (sym same.1) in
    let never : true ≡ false = sym back ∙ apart in
    absurd (cc))

all_moved : (P : KeptAnswer → Type 0) (answers others : List KeptAnswer) → IsPermutation answers others
    → AllByRecursion P answers → AllByRecursion P others
all_moved P answers others moved all =
    recursion_from_All P others (All-permutation P answers others moved (All-from_recursion P answers all))

-- ---- which answer is found

contains_first : (answer : KeptAnswer) (answers : List KeptAnswer) → Contains (answer ∷ answers) answer
contains_first answer answers = (0, omega arith, refl)

contains_later : (other answer : KeptAnswer) (answers : List KeptAnswer) → Contains answers answer
    → Contains (other ∷ answers) answer
contains_later other answer answers there = (suc there.0, let within = there.1 in omega arith, there.2)

module _ (words : List (List ℕ)) (seen : List File) where
  -- the answer that is found is one of them, and has the words and the seen files
  pub found_among : (answer : KeptAnswer) (answers : List KeptAnswer) → answer_for words seen answers ≡ Some answer
      → Contains answers answer × (is_for words seen answer ≡ true)
  found_among answer [] found = absurd (let never : ◌≡◌ {A = Option KeptAnswer} None (Some answer) = found in cc)
  found_among answer (other ∷ others) found =
      elim (is_for words seen other) as (λ b. is_for words seen other ≡ b
      → (if b then Some other else answer_for words seen others) ≡ Some answer
      → Contains (other ∷ others) answer × (is_for words seen answer ≡ true)) [
        | true ↦ λ e here. let is : other ≡ answer =
            cc in (
              subst (λ (a : KeptAnswer). Contains (other ∷ others) a) is (contains_first other others),
              ap
                  (is_for words seen) (sym is) ∙ e,
            )
        | false ↦ λ e later. let rest =
            found_among answer others later in (contains_later other answer others rest.0, rest.1)
      ] refl found

  -- if none is found, none has the words and the seen files
  pub none_among : (answers : List KeptAnswer) → answer_for words seen answers ≡ None
      → AllByRecursion (λ answer. is_for words seen answer ≡ false) answers
  none_among [] none = tt
  none_among (other ∷ others) none =
      elim (is_for words seen other) as (λ b. is_for words seen other ≡ b
      → (if b then Some other else answer_for words seen others) ≡ None
      → AllByRecursion (λ answer. is_for words seen answer ≡ false) (other ∷ others)) [
        | true ↦ λ e here. absurd (let never : ◌≡◌ {A = Option KeptAnswer} (Some other) None = here in cc)
        | false ↦ λ e later. (e, none_among others later)
      ] refl none

  pub finds_none : (answers : List KeptAnswer) → AllByRecursion (λ answer. is_for words seen answer ≡ false) answers
      → answer_for words seen answers ≡ None
  finds_none [] none = refl
  finds_none (other ∷ others) none =
      ap (λ b. if b then Some other else answer_for words seen others) none.0 ∙ finds_none others none.1

  -- of answers with keys of their own, the one that has the words and the seen files is found
  pub finds : (answer : KeptAnswer) (answers : List KeptAnswer) → HaveOwnKeys answers → Contains answers answer
      → is_for words seen answer ≡ true → answer_for words seen answers ≡ Some answer
  finds answer answers own there is = go answers own there.0 there.1 there.2
    where
      apart_at : (other : KeptAnswer) (others : List KeptAnswer) (k : ℕ) → k < length others
          → get_or others k answer ≡ answer → AllByRecursion (λ (a : KeptAnswer). have_one_key other a ≡ false) others
          → have_one_key other answer ≡ false
      apart_at other [] k within at all = absurd (omega arith)
      apart_at other (first ∷ others) zero within at all = ap (have_one_key other) (sym at) ∙ all.0
      apart_at other (first ∷ others) (suc k) within at all = apart_at other others k (omega arith) at all.1

      go : (answers : List KeptAnswer) → HaveOwnKeys answers → (k : ℕ) → k < length answers
          → get_or answers k answer ≡ answer → answer_for words seen answers ≡ Some answer
      go [] own k within at = absurd (omega arith)
      go (other ∷ others) own zero within at =
          ap (λ b. if b then Some other else answer_for words seen others) (ap (is_for words seen) at ∙ is) ∙ ap Some at
      go (other ∷ others) own (suc k) within at =
          let apart = apart_at other others k (omega arith) at own.0 in
          let not_first =
          false_from_ne_true (is_for words seen other)
          (λ h. let one = one_key_for words seen other answer h is in let never : true ≡ false = sym one
          ∙ apart in absurd (cc)) in
          ap (λ b. if b then Some other else answer_for words seen others) not_first
          ∙ go others own.1 k (omega arith) at

  -- in another order the same answer is found
  pub answer_for_permuted : (answers others : List KeptAnswer) → IsPermutation answers others → HaveOwnKeys others
      → answer_for words seen others ≡ answer_for words seen answers
  answer_for_permuted answers others moved own =
      elim (answer_for words seen answers) as (λ found. answer_for words seen answers ≡ found
      → answer_for words seen others ≡ found) [
        | None ↦ λ e. finds_none others (all_moved (λ answer. is_for words seen answer ≡ false) answers others moved
            (none_among answers e))
        | Some answer ↦ λ e. let it =
            found_among answer answers e in finds answer others own
            (Contains-permutation answers others answer moved it.0) it.1
      ] refl

  -- what is cached for other words or seen files stays
  others_found : (answer : KeptAnswer) (answers : List KeptAnswer) → is_for words seen answer ≡ false
      → answer_for words seen (without_key answer.words answer.seen answers) ≡ answer_for words seen answers
  others_found answer [] other = refl
  others_found answer (first ∷ rest) other =
      let left = without_key answer.words answer.seen rest in
      elim (have_one_key first answer) as (λ b. have_one_key first answer ≡ b
      → answer_for words seen (if not b then first ∷ left else left)
      ≡ (if is_for words seen first then Some first else answer_for words seen rest)) [
        | true ↦ λ e.
            let same = one_key first answer e in
            let not_first : is_for words seen first ≡ false = false_from_ne_true (is_for words seen first) (λ h.
            let it = (is_for_decides words seen first).0 h in
            let one : is_for words seen answer ≡ true =
            (is_for_decides words seen answer).1 (sym same.0 ∙ it.0, sym same.1 ∙ it.1) in
            let never : true ≡ false = sym one ∙ other in
            absurd (cc)) in
            others_found answer rest other ∙ sym
            (ap (λ b. if b then Some first else answer_for words seen rest) not_first)
        | false ↦ λ e. ap (λ (o : Option KeptAnswer). if is_for words seen first then Some first else o)
            (others_found answer rest other)
      ] refl

  pub answer_for_others : (answer : KeptAnswer) (answers : List KeptAnswer) → is_for words seen answer ≡ false
      → answer_for words seen (in_front answer answers) ≡ answer_for words seen answers
  answer_for_others answer answers other =
      ap (λ b. if b then Some answer else answer_for words seen (without_key answer.words answer.seen answers)) other
      ∙ others_found answer answers other

  -- within a limit the same answer is found, or none
  pub answer_for_within : (limit : ℕ) (answers : List KeptAnswer)
      → (answer_for words seen (within_limit limit answers) ≡ answer_for words seen answers)
      ⊎ (answer_for words seen (within_limit limit answers) ≡ None)
  answer_for_within zero answers = inr refl
  answer_for_within (suc limit) [] = inl refl
  answer_for_within (suc limit) (first ∷ rest) =
      elim (is_for words seen first) as (λ b.
      ((if b then Some first else answer_for words seen (within_limit limit rest))
      ≡ (if b then Some first else answer_for words seen rest))
      ⊎ ((if b then Some first else answer_for words seen (within_limit limit rest)) ≡ None)) [
        | true ↦ inl refl
        | false ↦ answer_for_within limit rest
      ]

-- a use of this answer or of another changes nothing of what is found
pub answer_for_used : (words : List (List ℕ)) (seen : List File) (used_words : List (List ℕ)) (used_seen : List File)
    (answers : List KeptAnswer) → answer_for words seen (used used_words used_seen answers)
    ≡ answer_for words seen answers
answer_for_used words seen used_words used_seen answers =
    elim (answer_for used_words used_seen answers) as (λ found. answer_for used_words used_seen answers ≡ found
    → answer_for words seen (in_front_if_any found answers) ≡ answer_for words seen answers) [
      | None ↦ λ e. refl
      | Some answer ↦ λ e.
          elim (is_for words seen answer) as (λ b. is_for words seen answer ≡ b
          → answer_for words seen (in_front answer answers) ≡ answer_for words seen answers) [
            | true ↦ λ h.
                let here = (is_for_decides words seen answer).0 h in
                let there =
                (is_for_decides used_words used_seen answer).0
                (found_among used_words used_seen answer answers e).1 in
                let same : answer_for words seen answers ≡ answer_for used_words used_seen answers =
                ap₂ (λ (w : List (List ℕ)) (s : List File). answer_for w s answers) (sym here.0 ∙ there.0)
                (sym here.1 ∙ there.1) in
                ap (λ b. if b then Some answer else answer_for words seen
                (without_key answer.words answer.seen answers)) h ∙ sym (same ∙ e)
            | false ↦ λ h. answer_for_others words seen answer answers h
          ] refl
    ] refl

-- an answer that is brought to the front is found
pub answer_for_in_front : (answer : KeptAnswer) (answers : List KeptAnswer)
    → answer_for answer.words answer.seen (in_front answer answers) ≡ Some answer
answer_for_in_front answer answers =
    ap (λ b. if b then Some answer else answer_for answer.words answer.seen
    (without_key answer.words answer.seen answers)) (is_for_itself answer)

-- and so is one that is cached
pub answer_for_remembered : (limit : ℕ) (answer : KeptAnswer) (answers : List KeptAnswer) → 1 ≤ limit
    → answer_for answer.words answer.seen (with_answer_within limit answer answers) ≡ Some answer
answer_for_remembered zero answer answers some = absurd (omega arith)
answer_for_remembered (suc limit) answer answers some =
    ap (λ b. if b then Some answer else answer_for answer.words answer.seen
    (within_limit limit (without_key answer.words answer.seen answers))) (is_for_itself answer)

-- ---- what holds of all answers after a use, an added answer or a changed limit

module _ (P : KeptAnswer → Type 0) where
  pub all_in_front : (answer : KeptAnswer) (answers : List KeptAnswer) → P answer → AllByRecursion P answers
      → AllByRecursion P (in_front answer answers)
  all_in_front answer answers here all =
      (here, all-filter P (λ (other : KeptAnswer). not (is_for answer.words answer.seen other)) answers all)

  pub all_used : (words : List (List ℕ)) (seen : List File) (answers : List KeptAnswer) → AllByRecursion P answers
      → AllByRecursion P (used words seen answers)
  all_used words seen answers all =
      elim (answer_for words seen answers) as (λ found. answer_for words seen answers ≡ found
      → AllByRecursion P (in_front_if_any found answers)) [
        | None ↦ λ e. all
        | Some answer ↦ λ e. all_in_front answer answers
            (All-contains P answers answer (All-from_recursion P answers all)
            (found_among words seen answer answers e).0) all
      ] refl

  pub all_within : (limit : ℕ) (answers : List KeptAnswer) → AllByRecursion P answers
      → AllByRecursion P (within_limit limit answers)
  all_within zero answers all = tt
  all_within (suc limit) [] all = tt
  all_within (suc limit) (answer ∷ answers) all = (all.0, all_within limit answers all.1)

  pub all_with : (limit : ℕ) (answer : KeptAnswer) (answers : List KeptAnswer) → P answer → AllByRecursion P answers
      → AllByRecursion P (with_answer_within limit answer answers)
  all_with limit answer answers here all =
      all_within limit (in_front answer answers) (all_in_front answer answers here all)

others_apart : (answer : KeptAnswer) (answers : List KeptAnswer)
    → AllByRecursion (λ (other : KeptAnswer). have_one_key answer other ≡ false)
    (without_key answer.words answer.seen answers)
others_apart answer [] = tt
others_apart answer (other ∷ others) =
    let left = without_key answer.words answer.seen others in
    elim (have_one_key other answer) as (λ b. have_one_key other answer ≡ b
    → AllByRecursion (λ (x : KeptAnswer). have_one_key answer x ≡ false) (if not b then other ∷ left else left)) [
      | true ↦ λ e. others_apart answer others
      | false ↦ λ e. (other_key_back other answer e, others_apart answer others)
    ] refl

-- the keys stay distinct
pub own_keys_in_front : (answer : KeptAnswer) (answers : List KeptAnswer) → HaveOwnKeys answers
    → HaveOwnKeys (in_front answer answers)
own_keys_in_front answer answers own = (
  others_apart answer answers,
  ascending-filter (λ (a b : KeptAnswer). have_one_key a b ≡ false)
      (λ (other : KeptAnswer). not (is_for answer.words answer.seen other)) answers own,
)

pub own_keys_used : (words : List (List ℕ)) (seen : List File) (answers : List KeptAnswer) → HaveOwnKeys answers
    → HaveOwnKeys (used words seen answers)
own_keys_used words seen answers own =
    elim (answer_for words seen answers) as (λ found. HaveOwnKeys (in_front_if_any found answers))
    [ None ↦ own | Some answer ↦ own_keys_in_front answer answers own ]

pub own_keys_within : (limit : ℕ) (answers : List KeptAnswer) → HaveOwnKeys answers
    → HaveOwnKeys (within_limit limit answers)
own_keys_within zero answers own = tt
own_keys_within (suc limit) [] own = tt
own_keys_within (suc limit) (answer ∷ answers) own = (
  all_within (λ (other : KeptAnswer). have_one_key answer other ≡ false) limit answers own.0,
  own_keys_within limit
      answers own.1,
)

pub own_keys_with : (limit : ℕ) (answer : KeptAnswer) (answers : List KeptAnswer) → HaveOwnKeys answers
    → HaveOwnKeys (with_answer_within limit answer answers)
own_keys_with limit answer answers own =
    own_keys_within limit (in_front answer answers) (own_keys_in_front answer answers own)

-- no more are left than the limit
pub few_within : (limit : ℕ) (answers : List KeptAnswer) → length (within_limit limit answers) ≤ limit
few_within zero answers = omega arith
few_within (suc limit) [] = omega arith
few_within (suc limit) (answer ∷ answers) = let rest = few_within limit answers in omega arith
