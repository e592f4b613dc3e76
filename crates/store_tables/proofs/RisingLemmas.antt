-- Numbers that rise, in whatever order they are put.
use Rattle.std.proofs.Common.{◌≡◌, ◌≢◌, ℕ, zero, suc, ℤ, ◌+◌, ◌<◌, List, [], ◌∷◌, ◌++◌, map, take, length, get_or, Option, None, Some, Less, true, false, refl, sym, ap, subst, ◌∙◌, arith, IsPermutation}
use Rattle.std.specs.List.{AllByRecursion}
use Rattle.std.specs.Ordering.{int_cmp, is_eq}
use Rattle.std.proofs.lemmas.Bool.{false_from_ne_true}
use Rattle.std.proofs.lemmas.Int.{ints}
use Rattle.std.proofs.lemmas.Bool.Decides.{nat_tests}
use Rattle.std.proofs.lemmas.List.{take_more}
use Rattle.std.proofs.lemmas.List.Sorted.{IsPermutation-sym}
use Rattle.sqlite_value.specs.declared.value.Value.{Value}
use Rattle.sqlite_value.specs.declared.value.Value.TheVariants.{Int}
use Rattle.sqlite_value.specs.Order.{Row, value_cmp}
use Rattle.store_tables.proofs.Kit.{all-append, all_weaker, along_permutation, ascending-append, ascending-map, ascending_from_map, ascending_weaker, value_cmp-Int}
use Rattle.sqlite_trees.specs.Tree.{rowid, IsAscending}
use Rattle.store_tables.specs.Rowids.{AreDistinct, IsLastRowidBelow, AreRisingRowids}
use Rattle.store_tables.specs.Tables.{HaveDistinctRowids}

-- ---- a walk over numbers that rise

abbrev pub IsAtMost : Option ℤ → List ℤ → Type 0
IsAtMost None numbers = numbers ≡ []
IsAtMost (Some last) numbers = AllByRecursion (λ n. int_cmp last n ≢ Less) numbers

pub record RisesTo (numbers : List ℤ) (last : Option ℤ) : Type 0 where
  pub rising : AreRisingRowids numbers
  pub last_is : IsAtMost last numbers

lower : (n last next : ℤ) → int_cmp last n ≢ Less → int_cmp last next ≡ Less → int_cmp n next ≡ Less
lower n last next a b = grind (arith, ints, nat_tests)

not_below : (n last next : ℤ) → int_cmp last n ≢ Less → int_cmp last next ≡ Less → int_cmp next n ≢ Less
not_below n last next a b = grind (arith, ints, nat_tests)

itself : (n : ℤ) → int_cmp n n ≢ Less
itself n = grind (arith, ints, nat_tests)

under : (numbers : List ℤ) (last : Option ℤ) (next : ℤ) → IsAtMost last numbers → IsLastRowidBelow last next → AllByRecursion (λ n. int_cmp n next ≡ Less) numbers
under numbers None next none below = rw none tt
under numbers (Some last) next most below = all_weaker (λ n. int_cmp last n ≢ Less) (λ n. int_cmp n next ≡ Less) (λ n a. lower n last next a below) numbers most

still : (numbers : List ℤ) (last : Option ℤ) (next : ℤ) → IsAtMost last numbers → IsLastRowidBelow last next → AllByRecursion (λ n. int_cmp next n ≢ Less) numbers
still numbers None next none below = rw none tt
still numbers (Some last) next most below = all_weaker (λ n. int_cmp last n ≢ Less) (λ n. int_cmp next n ≢ Less) (λ n a. not_below n last next a below) numbers most

beyond : (next : ℤ) (numbers : List ℤ) → AllByRecursion (λ n. int_cmp n next ≡ Less) numbers → AllByRecursion (λ n. AllByRecursion (λ m. int_cmp n m ≡ Less) (next ∷ [])) numbers
beyond next numbers all = all_weaker (λ n. int_cmp n next ≡ Less) (λ n. AllByRecursion (λ m. int_cmp n m ≡ Less) (next ∷ [])) (λ n a. (a, tt)) numbers all

pub rises_on : (numbers : List ℤ) (last : Option ℤ) (next : ℤ) → RisesTo numbers last → IsLastRowidBelow last next → RisesTo (numbers ++ next ∷ []) (Some next)
rises_on numbers last next h below = record {
  rising = ascending-append (λ a b. int_cmp a b ≡ Less) numbers (next ∷ []) h.rising (tt, tt) (beyond next numbers (under numbers last next h.last_is below));
  last_is = all-append (λ n. int_cmp next n ≢ Less) numbers (next ∷ []) (still numbers last next h.last_is below) (itself next, tt);
}

pub rises_more : (numbers : List ℤ) (at : ℕ) (last : Option ℤ) (next : ℤ) → at < length numbers → next ≡ get_or numbers at next → RisesTo (take at numbers) last → IsLastRowidBelow last next
    → RisesTo (take (at + 1) numbers) (Some next)
rises_more numbers at last next within is h below =
    subst (λ l. RisesTo l (Some next)) (ap (λ n. take at numbers ++ n ∷ []) is ∙ sym (take_more numbers at next within)) (rises_on (take at numbers) last next h below)

-- ---- in another order

module _ {X : Type 0} (R : X → X → Type 0) (turned : (a b : X) → R a b → R b a) where
  abbrev Moves : List X → List X → Type 0
  Moves xs ys = (IsAscending R xs → IsAscending R ys) × ((x : X) → AllByRecursion (R x) xs → AllByRecursion (R x) ys)

  pub ascending-permuted : (xs ys : List X) → IsPermutation xs ys → IsAscending R xs → IsAscending R ys
  ascending-permuted xs ys same =
      (along_permutation Moves (λ xs. (λ h. h, λ x h. h)) (λ x xs ys h. (λ a. (h.1 x a.0, h.0 a.1), λ y a. (a.0, h.1 y a.1)))
      (λ x y xs. (λ a. ((turned x y a.0.0, a.1.0), (a.0.1, a.1.1)), λ z a. (a.1.0, (a.0, a.1.1))))
      (λ xs ys zs p q. (λ a. q.0 (p.0 a), λ x a. q.1 x (p.1 x a))) xs ys same).0

pub distinct_if_rising : (numbers : List ℤ) → AreRisingRowids numbers → AreDistinct numbers
distinct_if_rising numbers h = ascending_weaker (λ a b. int_cmp a b ≡ Less) (λ a b. a ≢ b) (λ a b less same. itself a (subst (λ x. int_cmp a x ≡ Less) (sym same) less)) numbers h

pub distinct_before : (old new : List ℤ) → IsPermutation old new → AreRisingRowids new → AreDistinct old
distinct_before old new same h = ascending-permuted (λ a b. a ≢ b) (λ a b other e. other (sym e)) new old (IsPermutation-sym old new same) (distinct_if_rising new h)

same_number : (a b : ℤ) → is_eq (int_cmp a b) ≡ true → a ≡ b
same_number a b h = grind (arith, ints, nat_tests)

told_apart : (a b : ℤ) → a ≢ b → is_eq (value_cmp (Int a) (Int b)) ≡ false
told_apart a b other = false_from_ne_true _ (λ tie. other (same_number a b (sym (ap is_eq (value_cmp-Int a b)) ∙ tie)))

abbrev AreTold : Value → Value → Type 0
AreTold v w = (is_eq (value_cmp v w) ≡ false) × (is_eq (value_cmp w v) ≡ false)

pub apart_from_ids : (rows : List Row) (ids : List ℤ) → IsPermutation (map rowid rows) (map Int ids) → AreDistinct ids → HaveDistinctRowids rows
apart_from_ids rows ids same distinct =
    let told : IsAscending AreTold (map Int ids) =
    ascending-map AreTold Int ids (ascending_weaker (λ a b. a ≢ b) (λ a b. AreTold (Int a) (Int b)) (λ a b other. (told_apart a b other, told_apart b a (λ e. other (sym e)))) ids distinct) in
    let there : IsAscending AreTold (map rowid rows) = ascending-permuted AreTold (λ a b h. (h.1, h.0)) (map Int ids) (map rowid rows) (IsPermutation-sym (map rowid rows) (map Int ids) same) told in
    ascending_weaker (λ a b. AreTold (rowid a) (rowid b)) (λ a b. is_eq (value_cmp (rowid a) (rowid b)) ≡ false) (λ a b h. h.0) rows (ascending_from_map AreTold rowid rows there)

any_default : {X : Type 0} (xs : List X) (at : ℕ) (d e : X) → at < length xs → get_or xs at d ≡ get_or xs at e
any_default [] at d e within = absurd (omega arith)
any_default (x ∷ xs) zero d e within = refl
any_default (x ∷ xs) (suc at) d e within = any_default xs at d e (omega arith)

pub rises_at : (numbers : List ℤ) (at : ℕ) (last : Option ℤ) (d : ℤ) → at < length numbers → RisesTo (take at numbers) last → IsLastRowidBelow last (get_or numbers at d)
    → RisesTo (take (at + 1) numbers) (Some (get_or numbers at d))
rises_at numbers at last d within h below = rises_more numbers at last (get_or numbers at d) within (any_default numbers at d (get_or numbers at d) within) h below
