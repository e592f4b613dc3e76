-- What the rows of `meta` say.
use Rattle.std.proofs.Common.{◌≡◌, ℕ, ◌≤◌, ℤ, pos, List, [], ◌∷◌, length, get_or, Option, None, Some, IfSome, IsPermutation, ◌⊎◌, inl, inr, refl, sym, ap, ap₂, subst, ◌∙◌, arith}
use Rattle.std.specs.Prelude.{IfNone}
use Rattle.std.specs.List.{AllByRecursion}
use Rattle.std.proofs.lemmas.List.Sorted.{IsPermutation-middle, IsPermutation-sym, IsPermutation-trans, length_permutation}
use Rattle.repo_store.proofs.Kit.{one_permutation}
use Rattle.store_tables.specs.declared.rows.MetaRow.{MetaRow}
use Rattle.repo_store.specs.Bounded.{AreVersionRows}
use Rattle.repo_store.specs.FromRows.{HasLimit}
use Rattle.store_faults.specs.Limits.{IsLimit}
use Rattle.repo_store.specs.Rows.{limit_row, version_row}
use Rattle.repo_store.proofs.FromRowsLemmas.{perm_same}
use Rattle.repo_store.proofs.RowRuleLemmas.{all_same}

-- ---- lists of two

module _ {X : Type 0} where
  among : (a b : X) → AllByRecursion (λ z. (z ≡ a) ⊎ (z ≡ b)) (a ∷ b ∷ [])
  among a b = (inl refl, (inr refl, tt))

  pub two_rows : (x y a b : X) → IsPermutation (x ∷ y ∷ []) (a ∷ b ∷ []) → ((x ≡ a) × (y ≡ b)) ⊎ ((y ≡ a) × (x ≡ b))
  two_rows x y a b same =
      let here = all_same (λ z. (z ≡ a) ⊎ (z ≡ b)) (a ∷ b ∷ []) (x ∷ y ∷ []) (IsPermutation-sym _ _ same) (among a b) in
      let there = all_same (λ z. (z ≡ x) ⊎ (z ≡ y)) (x ∷ y ∷ []) (a ∷ b ∷ []) same (among x y) in
      elim here.0 [
        | inl xa ↦ elim here.1.0 [
          | inl ya ↦ elim there.1.0 [ inl bx ↦ inl (xa, ya ∙ sym xa ∙ sym bx) | inr by ↦ inl (xa, sym by) ]
          | inr yb ↦ inl (xa, yb)
        ]
        | inr xb ↦ elim here.1.0 [
          | inl ya ↦ inr (ya, xb)
          | inr yb ↦ elim there.0 [ inl ax ↦ inr (yb ∙ sym xb ∙ sym ax, xb) | inr ay ↦ inr (sym ay, xb) ]
        ]
      ]

  pub exchanged : (a b : X) → IsPermutation (a ∷ b ∷ []) (b ∷ a ∷ [])
  exchanged a b = IsPermutation-middle (a ∷ []) b []

  pub pair_moved : (rows : List X) (a b : X) → rows ≡ a ∷ b ∷ [] → IsPermutation rows (a ∷ b ∷ [])
  pair_moved rows a b same = perm_same rows (a ∷ b ∷ []) same

  pub pair_turned : (rows : List X) (a b : X) → rows ≡ a ∷ b ∷ [] → IsPermutation rows (b ∷ a ∷ [])
  pair_turned rows a b same = subst (λ (l : List X). IsPermutation l (b ∷ a ∷ [])) (sym same) (exchanged a b)

  pub one_is : (rows : List X) (row : X) → length rows ≡ 1 → row ≡ get_or rows 0 row → rows ≡ row ∷ []
  one_is [] row count is = absurd (omega arith)
  one_is (x ∷ []) row count is = ap (λ (y : X). y ∷ []) (sym is)
  one_is (x ∷ y ∷ rows) row count is = absurd (omega arith)

  pub two_are : (rows : List X) (a b : X) → length rows ≡ 2 → a ≡ get_or rows 0 a → b ≡ get_or rows 1 b → rows ≡ a ∷ b ∷ []
  two_are [] a b count one two = absurd (omega arith)
  two_are (x ∷ []) a b count one two = absurd (omega arith)
  two_are (x ∷ y ∷ []) a b count one two = ap₂ (λ (p q : X). p ∷ q ∷ []) (sym one) (sym two)
  two_are (x ∷ y ∷ z ∷ rows) a b count one two = absurd (omega arith)

-- ---- the version

other_name : (n : ℤ) → version_row ≡ limit_row n → ⊥
other_name n same = let count = ap (λ (row : MetaRow). length row.name) same in absurd (omega arith)

limit_itself : (row : MetaRow) (n : ℤ) → row ≡ limit_row n → row ≡ limit_row row.value
limit_itself row n is = is ∙ ap limit_row (sym (ap (λ (r : MetaRow). r.value) is))

pub version_count : (rows : List MetaRow) → AreVersionRows rows → (1 ≤ length rows) × (length rows ≤ 2)
version_count rows (inl alone) = let count = length_permutation rows (version_row ∷ []) alone in (omega arith, omega arith)
version_count rows (inr both) = let count = length_permutation rows (version_row ∷ limit_row both.0 ∷ []) both.1 in (omega arith, omega arith)

pub alone_is : (row : MetaRow) → AreVersionRows (row ∷ []) → row ≡ version_row
alone_is row (inl alone) = let same = one_permutation row (version_row ∷ []) alone in let it : version_row ≡ row = cc in sym it
alone_is row (inr both) = absurd (let count = length_permutation (row ∷ []) (version_row ∷ limit_row both.0 ∷ []) both.1 in omega arith)

pub is_alone : (row : MetaRow) → row ≡ version_row → AreVersionRows (row ∷ [])
is_alone row is = inl (perm_same (row ∷ []) (version_row ∷ []) (ap (λ (r : MetaRow). r ∷ []) is))

abbrev pub IsPair : MetaRow → MetaRow → Type 0
IsPair version limit = (version ≡ version_row) × (limit ≡ limit_row limit.value)

pub pair_is : (a b : MetaRow) → AreVersionRows (a ∷ b ∷ []) → IsPair a b ⊎ IsPair b a
pair_is a b (inl alone) = absurd (let count = length_permutation (a ∷ b ∷ []) (version_row ∷ []) alone in omega arith)
pair_is a b (inr both) = elim (two_rows a b version_row (limit_row both.0) both.1) [ inl h ↦ inl (h.0, limit_itself b both.0 h.1) | inr h ↦ inr (h.0, limit_itself a both.0 h.1) ]

pub is_pair : (rows : List MetaRow) (a b : MetaRow) → IsPermutation rows (a ∷ b ∷ []) → IsPair a b → AreVersionRows rows
is_pair rows a b moved pair = inr (b.value, subst (IsPermutation rows) (ap₂ (λ (p q : MetaRow). p ∷ q ∷ []) pair.0 pair.1) moved)

-- ---- the limit

module _ (rows : List MetaRow) (version limit : MetaRow) (moved : IsPermutation rows (version ∷ limit ∷ [])) (is_version : version ≡ version_row) where
  limit_is : AreVersionRows rows → limit ≡ limit_row limit.value
  limit_is (inl alone) = absurd (let one = length_permutation rows (version_row ∷ []) alone in let two = length_permutation rows (version ∷ limit ∷ []) moved in omega arith)
  limit_is (inr both) =
      elim (two_rows version limit version_row (limit_row both.0) (IsPermutation-trans (version ∷ limit ∷ []) rows (version_row ∷ limit_row both.0 ∷ []) (IsPermutation-sym _ _ moved) both.1)) [
        | inl h ↦ limit_itself limit both.0 h.1
        | inr h ↦ absurd (other_name both.0 (sym is_version ∙ h.1))
      ]

  pub limited : (r : Option ℕ) → AreVersionRows rows → IfSome r (λ n. pos n ≡ limit.value) → IfSome r (λ n. IsPermutation rows (version_row ∷ limit_row (pos n) ∷ []))
  limited None versioned at = at
  limited (Some n) versioned at = subst (IsPermutation rows) (ap₂ (λ (p q : MetaRow). p ∷ q ∷ []) is_version (limit_is versioned ∙ ap limit_row (sym at))) moved

  value_is : (n : ℕ) → IsPermutation rows (version_row ∷ limit_row (pos n) ∷ []) → limit.value ≡ pos n
  value_is n same =
      elim (two_rows version limit version_row (limit_row (pos n)) (IsPermutation-trans (version ∷ limit ∷ []) rows (version_row ∷ limit_row (pos n) ∷ []) (IsPermutation-sym _ _ moved) same)) [
        | inl h ↦ ap (λ (r : MetaRow). r.value) h.1
        | inr h ↦ absurd (other_name (pos n) (sym is_version ∙ h.1))
      ]

  pub unlimited : (r : Option ℕ) → IfNone r ((n : ℕ) → IsLimit n → ¬ (limit.value ≡ pos n)) → IfNone r (¬ HasLimit rows)
  unlimited None none = λ has. none has.limit has.within (value_is has.limit has.limited)
  unlimited (Some n) none = none

pub limit_count : (rows : List MetaRow) → HasLimit rows → length rows ≡ 2
limit_count rows has = let count = length_permutation rows (version_row ∷ limit_row (pos has.limit) ∷ []) has.limited in omega arith

pub one_limit : (rows : List MetaRow) (m n : ℕ) → IsPermutation rows (version_row ∷ limit_row (pos m) ∷ []) → IsPermutation rows (version_row ∷ limit_row (pos n) ∷ []) → m ≡ n
one_limit rows m n one two = let same : pos m ≡ pos n = value_is rows version_row (limit_row (pos m)) one refl n two in cc
