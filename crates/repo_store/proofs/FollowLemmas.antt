-- From the uses that were read to the order of the answers.
use Rattle.std.proofs.Common.{◌≡◌, ℕ, zero, suc, ◌+◌, ◌<◌, ◌≤◌, ℤ, pos, true, false, not, List, [], ◌∷◌, ◌++◌, map, length, get_or, take, reverse, is_some, Option, None, Some, if◌then◌else◌, IsTrue, IsPermutation, Bor, refl, sym, ap, ap₂, subst, ◌∙◌, arith}
use Rattle.std.specs.Prelude.{IfNone}
use Rattle.std.specs.List.{AllByRecursion}
use Rattle.std.specs.Option.{option_map_or}
use Rattle.std.proofs.lemmas.List.{length-map, length-reverse, map-append, reverse-append, reverse-reverse, take_more}
use Rattle.std.proofs.lemmas.List.Sorted.{IsPermutation-refl, IsPermutation-cons, IsPermutation-middle, IsPermutation-reverse, IsPermutation-sym, IsPermutation-trans, length_permutation}
use Rattle.repo_store.proofs.Kit.{length-sha256}
use Rattle.store_tables.specs.declared.rows.UseRow.{UseRow}
use Rattle.repo_store.specs.Answers.{KeptAnswer}
use Rattle.repo_store.specs.Bounded.{IsTick, key_of_use}
use Rattle.repo_store.specs.FromRows.{AreMoved, HaveTicks, tick_in, tick_of}
use Rattle.repo_store.specs.Index.{Key, key_of}
use Rattle.repo_store.specs.ListedAnswers.{brought_answers, has_key, of_key, of_other_keys}
use Rattle.repo_store.specs.UsesOf.{AreUsesOf, FallBelow, use_row, use_rows}
use Rattle.repo_store.specs.WrittenAnswers.{written_seen, written_words}
use Rattle.repo_store.proofs.FromRowsLemmas.{all_of_at, all_pushed}
use Rattle.repo_store.proofs.RowRuleLemmas.{all_same}
use Rattle.repo_store.proofs.UseLemmas.{fall_higher}

-- ---- lists turned

pub turned_more : {X : Type 0} (xs : List X) (x : X) → reverse (xs ++ x ∷ []) ≡ x ∷ reverse xs
turned_more xs x = reverse-append xs (x ∷ [])

pub turned_first : {X : Type 0} (x : X) (xs : List X) → reverse (x ∷ xs) ≡ reverse xs ++ x ∷ []
turned_first x xs = reverse-append (x ∷ []) xs

pub map_turned : {X Y : Type 0} (f : X → Y) (xs : List X) → map f (reverse xs) ≡ reverse (map f xs)
map_turned f [] = refl
map_turned {X} {Y} f (x ∷ xs) =
    ap (map f) (turned_first x xs) ∙ map-append f (reverse xs) (x ∷ []) ∙ ap (λ (l : List Y). l ++ f x ∷ []) (map_turned f xs) ∙ sym (turned_first (f x) (map f xs))

front_more : {X : Type 0} (xs : List X) (i : ℕ) (x : X) → i < length xs → x ≡ get_or xs i x → take (i + 1) xs ≡ take i xs ++ x ∷ []
front_more {X} xs i x within is = take_more xs i x within ∙ ap (λ (y : X). take i xs ++ y ∷ []) (sym is)

-- ---- ticks

tick_is : (row : UseRow) (tick : ℕ) → pos tick ≡ row.tick → tick ≡ tick_of row
tick_is row tick same = ap tick_in same

tick_known : (row : UseRow) (tick : ℕ) → pos tick ≡ row.tick → row.tick ≡ pos (tick_of row)
tick_known row tick same = sym same ∙ ap pos (tick_is row tick same)

pub ticks_more : (uses : List UseRow) (i : ℕ) (row : UseRow) (tick : ℕ) → i < length uses → row ≡ get_or uses i row → pos tick ≡ row.tick → HaveTicks (take i uses) → HaveTicks (take (i + 1) uses)
ticks_more uses i row tick within is same all =
    subst HaveTicks (sym (front_more uses i row within is)) (all_pushed (λ (r : UseRow). r.tick ≡ pos (tick_of r)) (take i uses) row all (tick_known row tick same))

pub fall_more : (uses : List UseRow) (i : ℕ) (row : UseRow) (next tick : ℕ) → i < length uses → row ≡ get_or uses i row → pos tick ≡ row.tick → 1 ≤ tick → next ≤ tick
    → FallBelow next (map tick_of (reverse (take i uses)))
    → FallBelow (tick + 1) (map tick_of (reverse (take (i + 1) uses)))
fall_more uses i row next tick within is same first above fall =
    let rest = fall_higher next tick (map tick_of (reverse (take i uses))) above fall in
    let here : FallBelow (tick + 1) (tick ∷ map tick_of (reverse (take i uses))) = (first, (omega arith, rest)) in
    let front = ap (λ (l : List UseRow). map tick_of (reverse l)) (front_more uses i row within is) ∙ ap (map tick_of) (turned_more (take i uses) row) in
    subst (FallBelow (tick + 1)) (sym front) (subst (λ (t : ℕ). FallBelow (tick + 1) (t ∷ map tick_of (reverse (take i uses)))) (tick_is row tick same) here)

-- a tick out of its bounds
pub tick_broken : (uses : List UseRow) (i : ℕ) (row : UseRow) → i < length uses → row ≡ get_or uses i row → ¬ IsTick row.tick → ¬ AllByRecursion (λ (r : UseRow). IsTick r.tick) uses
tick_broken uses i row within is breaks all = breaks (go uses i row within is all)
  where
    go : (uses : List UseRow) (i : ℕ) (row : UseRow) → i < length uses → row ≡ get_or uses i row → AllByRecursion (λ (r : UseRow). IsTick r.tick) uses → IsTick row.tick
    go [] i row within is all = absurd (omega arith)
    go (first ∷ uses) zero row within is all = subst (λ (r : UseRow). IsTick r.tick) (sym is) all.0
    go (first ∷ uses) (suc i) row within is all = go uses i row (omega arith) is all.1

-- ---- which answers there are

-- bytes that are no digest are in no key
pub no_words : (words seen : List ℕ) (answers : List KeptAnswer) → ¬ (length words ≡ 32) → AllByRecursion (λ (answer : KeptAnswer). ¬ (key_of answer ≡ (words, seen))) answers
no_words words seen [] long = tt
no_words words seen (answer ∷ answers) long =
    (λ same. long (ap (λ (k : Key). length k.0) (sym same) ∙ length-sha256 (written_words answer)), no_words words seen answers long)

pub no_seen : (words seen : List ℕ) (answers : List KeptAnswer) → ¬ (length seen ≡ 32) → AllByRecursion (λ (answer : KeptAnswer). ¬ (key_of answer ≡ (words, seen))) answers
no_seen words seen [] long = tt
no_seen words seen (answer ∷ answers) long =
    (λ same. long (ap (λ (k : Key). length k.1) (sym same) ∙ length-sha256 (written_seen answer)), no_seen words seen answers long)

pub none_found : (o : Option (Bor KeptAnswer)) (words seen a b : List ℕ) (answers : List KeptAnswer) → a ≡ words → b ≡ seen
    → IfNone o (AllByRecursion (λ (answer : KeptAnswer). ¬ (key_of answer ≡ (a, b))) answers) → ¬ IsTrue (is_some o)
    → AllByRecursion (λ (answer : KeptAnswer). ¬ (key_of answer ≡ (words, seen))) answers
none_found None words seen a b answers one two absent missing =
    subst (λ (k : Key). AllByRecursion (λ (answer : KeptAnswer). ¬ (key_of answer ≡ k)) answers) (ap₂ (λ (x y : List ℕ). let made : Key = (x, y) in made) one two) absent
none_found (Some answer) words seen a b answers one two absent missing = absurd (missing refl)

all_mapped : (key : Key) (answers : List KeptAnswer) → AllByRecursion (λ (answer : KeptAnswer). ¬ (key_of answer ≡ key)) answers → AllByRecursion (λ (k : Key). ¬ (k ≡ key)) (map key_of answers)
all_mapped key [] none = tt
all_mapped key (answer ∷ answers) none = (none.0, all_mapped key answers none.1)

pub unanswered : (uses : List UseRow) (i : ℕ) (row : UseRow) (answers : List KeptAnswer) → i < length uses → row ≡ get_or uses i row
    → AllByRecursion (λ (answer : KeptAnswer). ¬ (key_of answer ≡ key_of_use row)) answers
    → ¬ IsPermutation (map key_of_use uses) (map key_of answers)
unanswered uses i row answers within is none same =
    let key = key_of_use row in
    all_of_at key_of_use (λ (k : Key). ¬ (k ≡ key)) uses i row within is
    (all_same (λ (k : Key). ¬ (k ≡ key)) (map key_of answers) (map key_of_use uses) (IsPermutation-sym _ _ same) (all_mapped key answers none)) refl

pub keys_count : (uses : List UseRow) (answers : List KeptAnswer) → IsPermutation (map key_of_use uses) (map key_of answers) → length uses ≡ length answers
keys_count uses answers same =
    let count = length_permutation (map key_of_use uses) (map key_of answers) same in
    let one = length-map uses key_of_use in
    let two = length-map answers key_of in
    omega arith

-- ---- answers brought_answers to the front

pub moved_not : (answers : List KeptAnswer) → AreMoved answers answers
moved_not answers = record { fewer = omega arith; moved = λ _. IsPermutation-refl answers }

pub moved_then : (a b c : List KeptAnswer) → AreMoved a b → AreMoved b c → AreMoved a c
moved_then a b c one two =
    let first = one.fewer in
    let second = two.fewer in
    record { fewer = omega arith; moved = λ same. IsPermutation-trans c b a (two.moved (omega arith)) (one.moved (omega arith)) }

module _ (key : Key) where
  abbrev others : List KeptAnswer → List KeptAnswer
  others = of_other_keys key

  fewer : (answers : List KeptAnswer) → length (others answers) ≤ length answers
  fewer [] = omega arith
  fewer (x ∷ xs) =
      let rest = fewer xs in
      elim (has_key key x) as (λ b. length (if not b then x ∷ others xs else others xs) ≤ suc (length xs)) [ true ↦ omega arith | false ↦ omega arith ]

  all_others : (answers : List KeptAnswer) → length (others answers) ≡ length answers → others answers ≡ answers
  all_others [] count = refl
  all_others (x ∷ xs) count =
      let rest = fewer xs in
      elim (has_key key x) as (λ b. length (if not b then x ∷ others xs else others xs) ≡ suc (length xs) → (if not b then x ∷ others xs else others xs) ≡ x ∷ xs) [
        | true ↦ λ n. absurd (omega arith)
        | false ↦ λ n. ap (λ (l : List KeptAnswer). x ∷ l) (all_others xs (omega arith))
      ] count

  front_moved : (a : KeptAnswer) (answers : List KeptAnswer) → of_key key answers ≡ Some a
      → (suc (length (others answers)) ≤ length answers) × (suc (length (others answers)) ≡ length answers → IsPermutation (a ∷ others answers) answers)
  front_moved a [] is = absurd (let never : None ≡ Some a = is in cc)
  front_moved a (x ∷ xs) is =
      let le = fewer xs in
      elim (has_key key x) as (λ b. (if b then Some x else of_key key xs) ≡ Some a
      → (suc (length (if not b then x ∷ others xs else others xs)) ≤ suc (length xs)) × (suc (length (if not b then x ∷ others xs else others xs)) ≡ suc (length xs) → IsPermutation
      (a ∷ (if not b then x ∷ others xs else others xs)) (x ∷ xs))) [
        | true ↦ λ e. (
          omega arith,
          λ n.
              let same : x ≡ a = cc in
              let all = all_others xs (omega arith) in
              subst (λ (l : List KeptAnswer). IsPermutation (a ∷ l) (x ∷ xs)) (sym all) (subst (λ (y : KeptAnswer). IsPermutation (y ∷ xs) (x ∷ xs)) same (IsPermutation-refl (x ∷ xs))),
        )
        | false ↦ λ e.
            let rest = front_moved a xs e in
            let below = rest.0 in (
              omega arith,
              λ n. IsPermutation-trans (a ∷ x ∷ others xs) (x ∷ a ∷ others xs) (x ∷ xs) (IsPermutation-middle (a ∷ []) x (others xs))
                  (IsPermutation-cons x (a ∷ others xs) xs (rest.1 (omega arith))),
            )
      ] is

  pub brought_moved : (answers : List KeptAnswer) → AreMoved answers (brought_answers key answers)
  brought_moved answers =
      elim (of_key key answers) as (λ o. of_key key answers ≡ o → AreMoved answers (option_map_or (λ answer. answer ∷ others answers) o answers)) [
        | None ↦ λ e. moved_not answers
        | Some a ↦ λ e. let it = front_moved a answers e in record { fewer = it.0; moved = it.1 }
      ] refl

-- ---- the order

pub keys_same : (uses : List UseRow) (keys : List Key) → length uses ≡ length keys → ((k : ℕ) → k < length uses → (d : UseRow) (e : Key) → get_or keys k e ≡ key_of_use (get_or uses k d))
    → map key_of_use uses ≡ keys
keys_same [] [] count same = refl
keys_same [] (key ∷ keys) count same = absurd (omega arith)
keys_same (row ∷ uses) [] count same = absurd (omega arith)
keys_same (row ∷ uses) (key ∷ keys) count same =
    ap₂ (λ (k : Key) (l : List Key). k ∷ l) (sym (same 0 (omega arith) row key)) (keys_same uses keys (omega arith) (λ j within d e. same (suc j) (omega arith) d e))

one_row : (row : UseRow) (answer : KeptAnswer) → key_of_use row ≡ key_of answer → row.tick ≡ pos (tick_of row) → row ≡ use_row answer (tick_of row)
one_row row answer key tick = made (ap (λ (k : Key). k.0) key) (ap (λ (k : Key). k.1) key) tick
  where
    made : {a b c d : List ℕ} {m n : ℤ} → a ≡ b → c ≡ d → m ≡ n → ◌≡◌ {A = UseRow} (record { words = a; seen = c; tick = m }) (record { words = b; seen = d; tick = n })
    made words seen tick = cc

rows_from : (rows : List UseRow) (answers : List KeptAnswer) → map key_of_use rows ≡ map key_of answers → HaveTicks rows → rows ≡ use_rows answers (map tick_of rows)
rows_from [] [] keys ticks = refl
rows_from [] (answer ∷ answers) keys ticks = absurd (let count = ap length keys in omega arith)
rows_from (row ∷ rows) [] keys ticks = absurd (let count = ap length keys in omega arith)
rows_from (row ∷ rows) (answer ∷ answers) keys ticks =
    let first : key_of_use row ≡ key_of answer = cc in
    let rest : map key_of_use rows ≡ map key_of answers = cc in
    ap₂ (λ (r : UseRow) (l : List UseRow). r ∷ l) (one_row row answer first ticks.0) (rows_from rows answers rest ticks.1)

keys_turned : (rows : List UseRow) (answers : List KeptAnswer) → map key_of_use rows ≡ map key_of (reverse answers) → map key_of_use (reverse rows) ≡ map key_of answers
keys_turned rows answers keys = map_turned key_of_use rows ∙ ap reverse (keys ∙ map_turned key_of answers) ∙ reverse-reverse (map key_of answers)

pub followed : (next : ℕ) (rows : List UseRow) (answers : List KeptAnswer) → map key_of_use rows ≡ map key_of (reverse answers) → HaveTicks rows → FallBelow next (map tick_of (reverse rows))
    → AreUsesOf next rows answers
followed next rows answers keys ticks fall =
    let turned = reverse rows in
    let same = keys_turned rows answers keys in
    let known = all_same (λ (row : UseRow). row.tick ≡ pos (tick_of row)) rows turned (IsPermutation-reverse rows) ticks in
    record {
      ticks = map tick_of turned;
      as_many = length-map turned tick_of ∙ sym (length-map turned key_of_use) ∙ ap length same ∙ length-map answers key_of;
      fall = fall;
      rows_are = subst (IsPermutation rows) (rows_from turned answers same known) (IsPermutation-reverse rows);
    }

pub as_before : (uses : List UseRow) (old new : List KeptAnswer) → length uses ≡ length old → map key_of_use uses ≡ map key_of (reverse new) → AreMoved old new → IsPermutation new old
as_before uses old new count keys moved =
    moved.moved (sym (length-reverse new) ∙ sym (length-map (reverse new) key_of) ∙ sym (ap length keys) ∙ length-map uses key_of_use ∙ count)
