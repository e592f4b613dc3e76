-- How the rows of uses follow what becomes of the answers.
use Rattle.std.proofs.Common.{◌≡◌, ℕ, zero, suc, ◌+◌, ◌≤◌, ◌&&◌, Bool, true, false, not, List, [], ◌∷◌, ◌++◌, filter, length, map, reverse, take, if◌then◌else◌, IsPermutation, refl, sym, ap, ap₂, subst, subst₂, ◌∙◌, arith, append_assoc, append-nil}
use Rattle.std.specs.List.{AllByRecursion}
use Rattle.std.specs.Str.{bytes_eq}
use Rattle.std.proofs.lemmas.List.{length-map, length-reverse, map-append, reverse-append, reverse-reverse, take-append-le, take_all}
use Rattle.std.proofs.lemmas.List.Elements.{All-from_recursion, recursion_from_All}
use Rattle.std.proofs.lemmas.List.Sorted.{All-permutation, IsPermutation-refl, IsPermutation-cons, IsPermutation-reverse}
use Rattle.repo_store.proofs.Kit.{IsPermutation-filter, filter_all}
use Rattle.store_tables.specs.declared.rows.UseRow.{UseRow}
use Rattle.store_tables.specs.Uses.{with_use, without_use}
use Rattle.repo_store.specs.AnswerLemmas.{is_for_itself, one_key, other_key_back, own_key}
use Rattle.repo_store.specs.Answers.{KeptAnswer, HaveOwnKeys, have_one_key}
use Rattle.repo_store.specs.Index.{Key, key_of}
use Rattle.repo_store.specs.Remembered.{TellsKey}
use Rattle.repo_store.specs.UsedAnswers.{in_front, without_key}
use Rattle.repo_store.specs.UsesOf.{AreUsesOf, FallBelow, TakesPlace, TellTheirKeys, key_rows, ticks_from, use_row, use_rows, without_uses_of}
use Rattle.repo_store.proofs.RememberLemmas.{row_told}
use Rattle.repo_store.proofs.RowRuleLemmas.{all_weaker}

pub fall_higher : (low high : ℕ) (ticks : List ℕ) → low ≤ high → FallBelow low ticks → FallBelow high ticks
fall_higher low high [] up fall = tt
fall_higher low high (tick ∷ ticks) up fall = let below = fall.1.0 in (fall.0, (omega arith, fall.1.1))

-- ---- the answers of which some are left out

module _ (stays : KeptAnswer → Bool) where
  -- the ticks of those that stay
  abbrev left : List KeptAnswer → List ℕ → List ℕ
  left [] ticks = []
  left (answer ∷ answers) [] = []
  left (answer ∷ answers) (tick ∷ ticks) = if stays answer then tick ∷ left answers ticks else left answers ticks

  as_many_left : (answers : List KeptAnswer) (ticks : List ℕ) → length ticks ≡ length answers → length (left answers ticks) ≡ length (filter stays answers)
  as_many_left [] ticks same = refl
  as_many_left (answer ∷ answers) [] same = absurd (omega arith)
  as_many_left (answer ∷ answers) (tick ∷ ticks) same =
      let rest = as_many_left answers ticks (omega arith) in
      elim (stays answer) as (λ b. length (if b then tick ∷ left answers ticks else left answers ticks) ≡ length (if b then answer ∷ filter stays answers else filter stays answers))
      [ true ↦ ap suc rest | false ↦ rest ]

  left_fall : (high : ℕ) (answers : List KeptAnswer) (ticks : List ℕ) → FallBelow high ticks → FallBelow high (left answers ticks)
  left_fall high [] ticks fall = tt
  left_fall high (answer ∷ answers) [] fall = tt
  left_fall high (answer ∷ answers) (tick ∷ ticks) fall =
      let below = fall.1.0 in
      elim (stays answer) as (λ b. FallBelow high (if b then tick ∷ left answers ticks else left answers ticks)) [
        | true ↦ (fall.0, (below, left_fall tick answers ticks fall.1.1))
        | false ↦ left_fall high answers ticks (fall_higher tick high ticks (omega arith) fall.1.1)
      ]

  no_ticks : (answers : List KeptAnswer) → [] ≡ use_rows answers []
  no_ticks [] = refl
  no_ticks (answer ∷ answers) = refl

  rows_left : (keeps : UseRow → Bool) (answers : List KeptAnswer) (ticks : List ℕ) → AllByRecursion (λ answer. (tick : ℕ) → keeps (use_row answer tick) ≡ stays answer) answers
      → filter keeps (use_rows answers ticks) ≡ use_rows (filter stays answers) (left answers ticks)
  rows_left keeps [] ticks told = refl
  rows_left keeps (answer ∷ answers) [] told = no_ticks (filter stays (answer ∷ answers))
  rows_left keeps (answer ∷ answers) (tick ∷ ticks) told =
      let row = use_row answer tick in
      let rows = use_rows answers ticks in
      let rest = rows_left keeps answers ticks told.1 in
      ap (λ b. if b then row ∷ filter keeps rows else filter keeps rows) (told.0 tick)
      ∙ elim (stays answer) as (λ b. (if b then row ∷ filter keeps rows else filter keeps rows)
      ≡ use_rows (if b then answer ∷ filter stays answers else filter stays answers) (if b then tick ∷ left answers ticks else left answers ticks)) [
        | true ↦ ap (λ (l : List UseRow). row ∷ l) rest
        | false ↦ rest
      ]

-- ---- what becomes of the answers

-- the use of a key is taken out
pub uses_without : (answer : KeptAnswer) (next : ℕ) (rows : List UseRow) (answers : List KeptAnswer) → AllByRecursion (TellsKey answer) answers → AreUsesOf next rows answers
    → AreUsesOf next (without_use (key_of answer).0 (key_of answer).1 rows) (without_key answer.words answer.seen answers)
uses_without answer next rows answers tells it =
    let stays = λ (other : KeptAnswer). not (have_one_key other answer) in
    let keeps = λ (row : UseRow). not (bytes_eq row.words (key_of answer).0 && bytes_eq row.seen (key_of answer).1) in
    record {
      ticks = left stays answers it.ticks;
      as_many = as_many_left stays answers it.ticks it.as_many;
      fall = left_fall stays next answers it.ticks it.fall;
      rows_are =
          subst (IsPermutation (filter keeps rows)) (rows_left stays keeps answers it.ticks
          (all_weaker (TellsKey answer) (λ other. (tick : ℕ) → keeps (use_row other tick) ≡ stays other) answers (λ other told tick. row_told answer other told) tells))
          (IsPermutation-filter keeps rows (use_rows answers it.ticks) it.rows_are);
    }

-- a use is noted, with the next tick
pub uses_in_front : (answer : KeptAnswer) (next : ℕ) (rows : List UseRow) (answers : List KeptAnswer) → 1 ≤ next → AreUsesOf next rows answers
    → AreUsesOf (next + 1) (with_use (use_row answer next) rows) (answer ∷ answers)
uses_in_front answer next rows answers first it =
    let count = it.as_many in
    record {
      ticks = next ∷ it.ticks;
      as_many = omega arith;
      fall = (first, (omega arith, it.fall));
      rows_are = IsPermutation-cons (use_row answer next) rows (use_rows answers it.ticks) it.rows_are;
    }

-- the answer comes to the front
pub uses_brought : (answer : KeptAnswer) (next : ℕ) (rows : List UseRow) (answers : List KeptAnswer) → 1 ≤ next → AllByRecursion (TellsKey answer) answers → AreUsesOf next rows answers
    → AreUsesOf (next + 1) (with_use (use_row answer next) (without_use (key_of answer).0 (key_of answer).1 rows)) (in_front answer answers)
uses_brought answer next rows answers first tells it =
    uses_in_front answer next (without_use (key_of answer).0 (key_of answer).1 rows) (without_key answer.words answer.seen answers) first (uses_without answer next rows answers tells it)

-- ---- the last one dropped

last_of : (P : KeptAnswer → Type 0) (answers : List KeptAnswer) (last : KeptAnswer) → AllByRecursion P (answers ++ last ∷ []) → P last
last_of P [] last all = all.0
last_of P (answer ∷ answers) last all = last_of P answers last all.1

-- of answers with keys of their own, taking out that of the last one leaves the others
pub without_last : (answers : List KeptAnswer) (last : KeptAnswer) → HaveOwnKeys (answers ++ last ∷ []) → without_key last.words last.seen (answers ++ last ∷ []) ≡ answers
without_last [] last own = ap (λ (b : Bool). if not b then last ∷ [] else []) (is_for_itself last)
without_last (answer ∷ answers) last own =
    ap (λ (b : Bool). if not b then answer ∷ without_key last.words last.seen (answers ++ last ∷ []) else without_key last.words last.seen (answers ++ last ∷ []))
    (last_of (λ (other : KeptAnswer). have_one_key answer other ≡ false) answers last own.0) ∙ ap (λ (l : List KeptAnswer). answer ∷ l) (without_last answers last own.1)

-- ---- numbered again

ticks_fall : (count : ℕ) → FallBelow (suc count) (ticks_from count)
ticks_fall zero = tt
ticks_fall (suc count) = (omega arith, (omega arith, ticks_fall count))

tick_count : (count : ℕ) → length (ticks_from count) ≡ count
tick_count zero = refl
tick_count (suc count) = ap suc (tick_count count)

pub uses_renumbered : (answers : List KeptAnswer) → AreUsesOf (suc (length answers)) (use_rows answers (ticks_from (length answers))) answers
uses_renumbered answers = record {
  ticks = ticks_from (length answers);
  as_many = tick_count (length answers);
  fall = ticks_fall (length answers);
  rows_are = IsPermutation-refl (use_rows answers (ticks_from (length answers)));
}

-- the keys, the least recently used first, turned round
turned : (xs : List KeptAnswer) → reverse (map key_of (reverse xs)) ≡ map key_of xs
turned xs = ap reverse (mapped xs) ∙ reverse-reverse (map key_of xs)
  where
    mapped : (xs : List KeptAnswer) → map key_of (reverse xs) ≡ reverse (map key_of xs)
    mapped [] = refl
    mapped (x ∷ xs) =
        ap (map key_of) (reverse-append (x ∷ []) xs) ∙ map-append key_of (reverse xs) (x ∷ []) ∙ ap (λ (keys : List Key). keys ++ key_of x ∷ []) (mapped xs)
        ∙ sym (reverse-append (key_of x ∷ []) (map key_of xs))

rows_numbered : (answers : List KeptAnswer) → key_rows (map key_of answers) ≡ use_rows answers (ticks_from (length answers))
rows_numbered [] = refl
rows_numbered (answer ∷ answers) = ap₂ (λ (count : ℕ) (rows : List UseRow). use_row answer (suc count) ∷ rows) (length-map answers key_of) (rows_numbered answers)

pub uses_numbered : (answers : List KeptAnswer) (keys : List Key) → keys ≡ map key_of (reverse answers) → AreUsesOf (length answers + 1) (key_rows (reverse keys)) answers
uses_numbered answers keys are =
    let next : suc (length answers) ≡ length answers + 1 = omega arith in
    subst₂ (λ (n : ℕ) (rows : List UseRow). AreUsesOf n rows answers) next (sym (ap (λ (l : List Key). key_rows (reverse l)) are ∙ ap key_rows (turned answers) ∙ rows_numbered answers))
    (uses_renumbered answers)

-- ---- all forgotten

pub uses_none : (next : ℕ) → AreUsesOf next [] []
uses_none next = record { ticks = []; as_many = refl; fall = tt; rows_are = IsPermutation-refl [] }

-- ---- the last ones dropped

all_front : (P : KeptAnswer → Type 0) (xs ys : List KeptAnswer) → AllByRecursion P (xs ++ ys) → AllByRecursion P xs
all_front P [] ys all = tt
all_front P (x ∷ xs) ys all = (all.0, all_front P xs ys all.1)

own_front : (xs ys : List KeptAnswer) → HaveOwnKeys (xs ++ ys) → HaveOwnKeys xs
own_front [] ys own = tt
own_front (x ∷ xs) ys own = (all_front (λ other. have_one_key x other ≡ false) xs ys own.0, own_front xs ys own.1)

dropped : (front rest : List KeptAnswer) (next : ℕ) (rows : List UseRow) → HaveOwnKeys (front ++ reverse rest) → TellTheirKeys (front ++ reverse rest) rest
    → AreUsesOf next rows (front ++ reverse rest)
    → AreUsesOf next (without_uses_of (map key_of rest) rows) front
dropped front [] next rows own tells it = subst (AreUsesOf next rows) (append-nil front) it
dropped front (last ∷ rest) next rows own tells it =
    let others = front ++ reverse rest in
    let parted : front ++ reverse (last ∷ rest) ≡ others ++ last ∷ [] =
    ap (λ (l : List KeptAnswer). front ++ l) (reverse-append (last ∷ []) rest) ∙ sym (append_assoc front (reverse rest) (last ∷ [])) in
    let apart = subst HaveOwnKeys parted own in
    let told = subst (λ (l : List KeptAnswer). TellTheirKeys l (last ∷ rest)) parted tells in
    let gone = uses_without last next rows (others ++ last ∷ []) told.0 (subst (AreUsesOf next rows) parted it) in
    let left = without_use (key_of last).0 (key_of last).1 rows in
    dropped front rest next left (own_front others (last ∷ []) apart)
    (all_weaker (λ (x : KeptAnswer). AllByRecursion (TellsKey x) (others ++ last ∷ [])) (λ (x : KeptAnswer). AllByRecursion (TellsKey x) others) rest
    (λ x all. all_front (TellsKey x) others (last ∷ []) all) told.1)
    (subst (AreUsesOf next left) (without_last others last apart) gone)

pub uses_dropped : (front back : List KeptAnswer) (keys : List Key) (next : ℕ) (rows : List UseRow) → keys ≡ map key_of (reverse back) → HaveOwnKeys (front ++ back)
    → TellTheirKeys (front ++ back) back → AreUsesOf next rows (front ++ back)
    → AreUsesOf next (without_uses_of keys rows) front
uses_dropped front back keys next rows are own tells it =
    let whole : front ++ back ≡ front ++ reverse (reverse back) = ap (λ (l : List KeptAnswer). front ++ l) (sym (reverse-reverse back)) in
    let P = λ (answer : KeptAnswer). AllByRecursion (TellsKey answer) (front ++ back) in
    let told : TellTheirKeys (front ++ back) (reverse back) =
    recursion_from_All P (reverse back) (All-permutation P back (reverse back) (IsPermutation-reverse back) (All-from_recursion P back tells)) in
    subst (λ (l : List Key). AreUsesOf next (without_uses_of l rows) front) (sym are)
    (dropped front (reverse back) next rows (subst HaveOwnKeys whole own) (subst (λ (l : List KeptAnswer). TellTheirKeys l (reverse back)) whole told) (subst (AreUsesOf next rows) whole it))

-- the first of the keys of all answers, the least recently used first, are those of the last answers
pub first_keys : (front back : List KeptAnswer) (keys : List Key) (count : ℕ) → keys ≡ map key_of (reverse (front ++ back)) → count ≡ length back → take count keys ≡ map key_of (reverse back)
first_keys front back keys count are count_is =
    let firsts = map key_of (reverse back) in
    let many : count ≡ length firsts = count_is ∙ sym (length-map (reverse back) key_of ∙ length-reverse back) in
    let parted : keys ≡ firsts ++ map key_of (reverse front) = are ∙ ap (map key_of) (reverse-append front back) ∙ map-append key_of (reverse back) (reverse front) in
    ap (take count) parted ∙ take-append-le count firsts (map key_of (reverse front)) (omega (arith, many)) ∙ take_all count firsts (omega (arith, many))

-- ---- a new answer in place of the last one

tells_back : (answer last : KeptAnswer) → TellsKey answer last → TellsKey last answer
tells_back answer last tells same = let parts = one_key last answer (tells (sym same)) in own_key answer last (sym parts.0) (sym parts.1)

pub uses_in_place : (answer last : KeptAnswer) (front : List KeptAnswer) (next : ℕ) (rows : List UseRow) → 1 ≤ next → TakesPlace answer last front → AreUsesOf next rows (front ++ last ∷ [])
    → AreUsesOf (next + 1) (without_use (key_of last).0 (key_of last).1 (with_use (use_row answer next) (without_use (key_of answer).0 (key_of answer).1 rows))) (answer ∷ front)
uses_in_place answer last front next rows first place it =
    let all = front ++ last ∷ [] in
    let put = with_use (use_row answer next) (without_use (key_of answer).0 (key_of answer).1 rows) in
    let stay : without_key answer.words answer.seen all ≡ all =
    filter_all (λ (other : KeptAnswer). not (have_one_key other answer)) all
    (all_weaker (λ (other : KeptAnswer). have_one_key other answer ≡ false) (λ (other : KeptAnswer). not (have_one_key other answer) ≡ true) all (λ other no. ap not no) place.absent) in
    let brought = subst (λ (l : List KeptAnswer). AreUsesOf (next + 1) put (answer ∷ l)) stay (uses_brought answer next rows all first place.tells it) in
    let apart : HaveOwnKeys (answer ∷ all) = (
      all_weaker (λ (other : KeptAnswer). have_one_key other answer ≡ false) (λ (other : KeptAnswer). have_one_key answer other ≡ false) all (λ other no. other_key_back other answer no) place.absent,
      place.own,
    ) in
    let gone = uses_without last (next + 1) put (answer ∷ all) (tells_back answer last (last_of (TellsKey answer) front last place.tells), place.last_tells) brought in
    subst (AreUsesOf (next + 1) (without_use (key_of last).0 (key_of last).1 put)) (without_last (answer ∷ front) last apart) gone
