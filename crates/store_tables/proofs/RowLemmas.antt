-- What is put into a table and taken out of it, whatever the order of its rows.
use Rattle.std.proofs.Common.{◌≡◌, ℤ, List, [], ◌∷◌, map, filter, Bool, true, false, not, ◌&&◌, ◌||◌, cond, Ordering, Less, Equal, Greater, refl, sym, ap, subst, ◌∙◌, inl, inr, IsPermutation, true≢false}
use Rattle.std.specs.List.{AllByRecursion, list_any}
use Rattle.std.specs.Ordering.{is_eq, match_ordering, ordering_reverse}
use Rattle.std.proofs.lemmas.Bool.{or_parts, both_ways, cases_Bool, false_from_ne_true}
use Rattle.std.proofs.lemmas.Cmp.{tied_itself}
use Rattle.std.proofs.lemmas.List.Sorted.{IsPermutation-refl, IsPermutation-cons, IsPermutation-trans, IsPermutation-sym, IsPermutation-middle, Contains-permutation}
use Rattle.sqlite_value.specs.declared.value.Value.TheVariants.{Int}
use Rattle.sqlite_value.specs.Order.{Row, value_cmp}
use Rattle.store_tables.proofs.Kit.{all-put_row, all_has, ascending-filter, contains_had, has_contained, has_filtered, has_kept, has_mapped, int_is, put_has, some_from, some_has, test_from, test_has, value_cmp_total}
use Rattle.sqlite_trees.specs.Tree.{rowid, has_rowid, put_row, without_rowid}
use Rattle.sqlite_trees.specs.View.{is_int}
use Rattle.sqlite_rules.specs.Lists.{Has}
use Rattle.sqlite_rules.specs.Edit.{id_in, without_all, is_taken, have_rowids}
use Rattle.sqlite_rules.specs.Calls.{ids_of}
use Rattle.store_tables.specs.Tables.{HaveDistinctRowids, AreKeyed, have_one_rowid}

pub has_permuted : {X : Type 0} (xs ys : List X) (x : X) → IsPermutation xs ys → Has xs x → Has ys x
has_permuted xs ys x same h = has_contained ys x (Contains-permutation xs ys x same (contains_had xs x h))

pub mapped_has : {X Y : Type 0} (f : X → Y) (xs : List X) (x : X) → Has xs x → Has (map f xs) (f x)
mapped_has f [] x h = absurd h
mapped_has f (y ∷ xs) x (inl same) = inl (ap f same)
mapped_has f (y ∷ xs) x (inr later) = inr (mapped_has f xs x later)

reversed : (o : Ordering) → is_eq (ordering_reverse o) ≡ is_eq o
reversed Less = refl
reversed Equal = refl
reversed Greater = refl

flipped : (a b : Row) → have_one_rowid a b ≡ have_one_rowid b a
flipped a b = ap is_eq (value_cmp_total.antisymm (rowid a) (rowid b)) ∙ reversed (value_cmp (rowid b) (rowid a))

abbrev Put : Ordering → Row → Row → List Row → List Row
Put o new r rows = match_ordering o (r ∷ put_row new rows) (new ∷ rows) (new ∷ r ∷ rows)

pub put_permutes : (new : Row) (rows : List Row) → is_taken rows new ≡ false → IsPermutation (new ∷ rows) (put_row new rows)
put_permutes new [] free = IsPermutation-refl (new ∷ [])
put_permutes new (r ∷ rows) free = go (value_cmp (rowid r) (rowid new)) (or_parts _ _ free).0 (put_permutes new rows (or_parts _ _ free).1)
  where
    go : (o : Ordering) → is_eq o ≡ false → IsPermutation (new ∷ rows) (put_row new rows) → IsPermutation (new ∷ r ∷ rows) (Put o new r rows)
    go Less other later =
        IsPermutation-trans (new ∷ r ∷ rows) (r ∷ new ∷ rows) (r ∷ put_row new rows) (IsPermutation-middle (new ∷ []) r rows) (IsPermutation-cons r (new ∷ rows) (put_row new rows) later)
    go Equal other later = absurd (true≢false other)
    go Greater other later = IsPermutation-refl (new ∷ r ∷ rows)

free_apart : (new : Row) (rows : List Row) → is_taken rows new ≡ false → AllByRecursion (λ r. have_one_rowid new r ≡ false) rows
free_apart new [] free = tt
free_apart new (r ∷ rows) free = (flipped new r ∙ (or_parts _ _ free).0, free_apart new rows (or_parts _ _ free).1)

pub put_apart : (new : Row) (rows : List Row) → is_taken rows new ≡ false → HaveDistinctRowids rows → HaveDistinctRowids (put_row new rows)
put_apart new [] free apart = (tt, tt)
put_apart new (r ∷ rows) free apart = go (value_cmp (rowid r) (rowid new)) refl (put_apart new rows (or_parts _ _ free).1 apart.1)
  where
    go : (o : Ordering) → value_cmp (rowid r) (rowid new) ≡ o → HaveDistinctRowids (put_row new rows) → HaveDistinctRowids (Put o new r rows)
    go Less is later = (all-put_row (λ x. have_one_rowid r x ≡ false) new rows (ap is_eq is) apart.0, later)
    go Equal is later = absurd (both_ways _ (or_parts _ _ free).0 (ap is_eq is))
    go Greater is later = (free_apart new (r ∷ rows) free, apart)

pub put_keyed : (new : Row) (rows : List Row) → is_int (rowid new) ≡ true → have_rowids rows ≡ true → have_rowids (put_row new rows) ≡ true
put_keyed new rows int keyed =
    test_from (λ r. is_int (rowid r)) (put_row new rows) (λ x h. elim (put_has new rows x h)
    [ inl same ↦ ap (λ r. is_int (rowid r)) same ∙ int | inr was ↦ test_has (λ r. is_int (rowid r)) rows x keyed was ])

-- rows with one rowid are one
apart_same : (rows : List Row) (a b : Row) → HaveDistinctRowids rows → Has rows a → Has rows b → have_one_rowid a b ≡ true → a ≡ b
apart_same [] a b apart h k tie = absurd h
apart_same (r ∷ rows) a b apart (inl h) (inl k) tie = h ∙ sym k
apart_same (r ∷ rows) a b apart (inl h) (inr k) tie = absurd (both_ways _ (all_has _ rows b apart.0 k) (ap (λ x. have_one_rowid x b) (sym h) ∙ tie))
apart_same (r ∷ rows) a b apart (inr h) (inl k) tie = absurd (both_ways _ (all_has _ rows a apart.0 h) (flipped r a ∙ ap (have_one_rowid a) (sym k) ∙ tie))
apart_same (r ∷ rows) a b apart (inr h) (inr k) tie = apart_same rows a b apart.1 h k tie

filter_twice : {X : Type 0} (p q : X → Bool) (xs : List X) → filter q (filter p xs) ≡ filter (λ x. p x && q x) xs
filter_twice p q [] = refl
filter_twice p q (x ∷ xs) =
    elim (p x) as (λ b. filter q (cond b (x ∷ filter p xs) (filter p xs)) ≡ cond (b && q x) (x ∷ filter (λ y. p y && q y) xs) (filter (λ y. p y && q y) xs))
    [ true ↦ (λ i. cond (q x) (x ∷ filter_twice p q xs i) (filter_twice p q xs i)) | false ↦ filter_twice p q xs ]

abbrev pub is_named : List ℤ → Row → Bool
is_named ids r = list_any (λ id. has_rowid id r) ids

none_named : (a b : Bool) → (not a && not b) ≡ not (a || b)
none_named true b = refl
none_named false b = refl

pub all_kept : {X : Type 0} (xs : List X) → xs ≡ filter (λ _. true) xs
all_kept [] = refl
all_kept (x ∷ xs) = ap (λ l. x ∷ l) (all_kept xs)

without_named : (ids : List ℤ) (rows : List Row) → without_all rows ids ≡ filter (λ r. not (is_named ids r)) rows
without_named [] rows = all_kept rows
without_named (id ∷ ids) rows =
    without_named ids (without_rowid id rows) ∙ filter_twice (λ r. not (has_rowid id r)) (λ r. not (is_named ids r)) rows ∙ (λ i. filter (λ r. none_named (has_rowid id r) (is_named ids r) i) rows)

pub filter_same : {X : Type 0} (p q : X → Bool) (xs : List X) → ((x : X) → Has xs x → p x ≡ q x) → filter p xs ≡ filter q xs
filter_same p q [] each = refl
filter_same p q (x ∷ xs) each = λ i. cond (each x (inl refl) i) (x ∷ filter_same p q xs (λ y h. each y (inr h)) i) (filter_same p q xs (λ y h. each y (inr h)) i)

module _ (rows : List Row) (keyed : have_rowids rows ≡ true) (test : Row → Bool) (shown : List Row) (same : IsPermutation (map (λ r. rowid r ∷ []) (filter test rows)) shown) where
  names_itself : (r : Row) → Has rows r → has_rowid (id_in (rowid r)) r ≡ true
  names_itself r h = ap (λ v. is_eq (value_cmp (rowid r) v)) (sym (int_is (rowid r) (test_has (λ x. is_int (rowid x)) rows r keyed h))) ∙ ap is_eq (tied_itself value_cmp_total (rowid r))

  passing_named : (r : Row) → Has rows r → test r ≡ true → is_named (ids_of shown) r ≡ true
  passing_named r h passes =
      some_from (λ id. has_rowid id r) (ids_of shown) (id_in (rowid r))
      (mapped_has (λ x. id_in (rowid x)) shown (rowid r ∷ []) (has_permuted _ shown (rowid r ∷ []) same (mapped_has (λ x. rowid x ∷ []) (filter test rows) r (has_kept test rows r h passes))))
      (names_itself r h)

  -- every row that passes is taken out
  pub all_out : ((r : Row) → Has rows r → test r ≡ true) → without_all rows (ids_of shown) ≡ []
  all_out each = without_named (ids_of shown) rows ∙ filter_same _ (λ _. false) rows (λ r h. ap not (passing_named r h (each r h))) ∙ none rows
    where
      none : (xs : List Row) → filter (λ _. false) xs ≡ []
      none [] = refl
      none (x ∷ xs) = none xs

  -- and, where no rowid comes twice, no other
  pub passing_out : HaveDistinctRowids rows → without_all rows (ids_of shown) ≡ filter (λ r. not (test r)) rows
  passing_out apart = without_named (ids_of shown) rows ∙ filter_same _ _ rows (λ r h. ap not (exact r h))
    where
      other_unnamed : (r : Row) → Has rows r → test r ≡ false → is_named (ids_of shown) r ≡ true → ⊥
      other_unnamed r h fails named =
          let id = some_has (λ i. has_rowid i r) (ids_of shown) named in
          let x = has_mapped (λ y. id_in (rowid y)) shown id.0 id.1 in
          let y = has_mapped (λ z. rowid z ∷ []) (filter test rows) x.0 (has_permuted shown _ x.0 (IsPermutation-sym _ shown same) x.1) in
          let there = has_filtered test rows y.0 y.1 in
          let int = int_is (rowid y.0) (test_has (λ z. is_int (rowid z)) rows y.0 keyed there.0) in
          let named_by : id.0 ≡ id_in (rowid y.0) = x.2 ∙ ap (λ z. id_in (rowid z)) y.2 in
          let tie : have_one_rowid r y.0 ≡ true = ap (λ v. is_eq (value_cmp (rowid r) v)) (int ∙ ap Int (sym named_by)) ∙ id.2 in
          both_ways _ (ap test (sym (apart_same rows r y.0 apart h there.0 tie)) ∙ fails) there.1

      exact : (r : Row) → Has rows r → is_named (ids_of shown) r ≡ test r
      exact r h = elim (cases_Bool (test r)) [ inl passes ↦ passing_named r h passes ∙ sym passes | inr fails ↦ false_from_ne_true _ (other_unnamed r h fails) ∙ sym fails ]

pub filter_apart : (p : Row → Bool) (rows : List Row) → HaveDistinctRowids rows → HaveDistinctRowids (filter p rows)
filter_apart p rows apart = ascending-filter _ p rows apart

pub filter_keyed : (p : Row → Bool) (rows : List Row) → have_rowids rows ≡ true → have_rowids (filter p rows) ≡ true
filter_keyed p rows keyed = test_from (λ r. is_int (rowid r)) (filter p rows) (λ x h. test_has (λ r. is_int (rowid r)) rows x keyed (has_filtered p rows x h).0)

pub left_keyed : (ids : List ℤ) (rows : List Row) → AreKeyed rows → AreKeyed (without_all rows ids)
left_keyed ids rows keyed = subst AreKeyed (sym (without_named ids rows)) (record { numbered = filter_keyed _ rows keyed.numbered; apart = filter_apart _ rows keyed.apart })
