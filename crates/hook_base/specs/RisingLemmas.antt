-- Lemmas on the order of paths, and on lists in that order.
use Rattle.std.specs.Prelude.{◌≡◌, ◌⊎◌, ℕ, zero, suc, ◌<◌, length, Bool, true, false, List, [], ◌∷◌, filter, if◌then◌else◌, refl}
use Rattle.std.specs.declared.cmp.Ordering.TheVariants.{Less, Equal, Greater}
use Rattle.std.specs.Ordering.{is_eq, ordering_reverse}
use Rattle.std.specs.Str.{bytes_eq}
use Rattle.std.specs.Cmp.Lexicographic.{nat_list_cmp_total, texts_ties, bytes_decides}
use Rattle.std.proofs.Common.{ap, sym, ◌∙◌, inl, inr, subst, get_or, arith}
use Rattle.std.proofs.lemmas.Cmp.{tied_itself}
use Rattle.hook_base.specs.Rising.{path_cmp, IsBelow, IsBelowAll, IsRisingBy}

-- only equal paths compare as equal
pub path_tied : (p q : List ℕ) → path_cmp p q ≡ Equal → p ≡ q
path_tied p q e = (bytes_decides p q).0 (texts_ties p q ∙ ap is_eq e)

pub path_itself : (p q : List ℕ) → p ≡ q → path_cmp p q ≡ Equal
path_itself p q e = subst (λ (r : List ℕ). path_cmp p r ≡ Equal) e (tied_itself nat_list_cmp_total p)

pub greater_from_below : (p q : List ℕ) → IsBelow p q → path_cmp q p ≡ Greater
greater_from_below p q below = nat_list_cmp_total.antisymm q p ∙ ap ordering_reverse below.is_less

pub below_from_greater : (p q : List ℕ) → path_cmp q p ≡ Greater → IsBelow p q
below_from_greater p q e = record { is_less = nat_list_cmp_total.antisymm p q ∙ ap ordering_reverse e }

pub IsBelow-trans : (p q r : List ℕ) → IsBelow p q → IsBelow q r → IsBelow p r
IsBelow-trans p q r first second = record { is_less = nat_list_cmp_total.trans p q r first.is_less second.is_less }

pub below_not_same : (p q : List ℕ) → IsBelow p q → p ≡ q → ⊥
below_not_same p q below e = let tied = path_itself p q e in let less = below.is_less in cc

false_from_not : (b : Bool) → (b ≡ true → ⊥) → b ≡ false
false_from_not true differs = absurd (differs refl)
false_from_not false differs = refl

pub bytes_differ : (p q : List ℕ) → (p ≡ q → ⊥) → bytes_eq p q ≡ false
bytes_differ p q differs = false_from_not (bytes_eq p q) (λ e. differs ((bytes_decides p q).0 e))

pub bytes_same : (p q : List ℕ) → p ≡ q → bytes_eq p q ≡ true
bytes_same p q e = (bytes_decides p q).1 e

pub below_differs : (p q : List ℕ) → IsBelow p q → bytes_eq p q ≡ false
below_differs p q below = bytes_differ p q (below_not_same p q below)

pub above_differs : (p q : List ℕ) → IsBelow q p → bytes_eq p q ≡ false
above_differs p q below = bytes_differ p q (λ e. below_not_same q p below (sym e))

-- two paths are in one order or the other, or are the same
pub path_cases : (p q : List ℕ) → (IsBelow p q ⊎ (p ≡ q)) ⊎ IsBelow q p
path_cases p q =
    elim (path_cmp p q) as (λ o. path_cmp p q ≡ o → (IsBelow p q ⊎ (p ≡ q)) ⊎ IsBelow q p) [
      | Less ↦ λ e. inl (inl (record { is_less = e }))
      | Equal ↦ λ e. inl (inr (path_tied p q e))
      | Greater ↦ λ e. inr (below_from_greater q p e)
    ] refl

module _ {X : Type 0} (path_of : X → List ℕ) where
  pub below_all_later : (p q : List ℕ) (items : List X) → IsBelow p q → IsBelowAll path_of q items
      → IsBelowAll path_of p items
  below_all_later p q [] below all = tt
  below_all_later p q (item ∷ items) below all =
      (IsBelow-trans p q (path_of item) below all.0, below_all_later p q items below all.1)

  pub below_all_filter : (p : List ℕ) (keeps : X → Bool) (items : List X) → IsBelowAll path_of p items
      → IsBelowAll path_of p (filter keeps items)
  below_all_filter p keeps [] all = tt
  below_all_filter p keeps (item ∷ items) all =
      elim (keeps item) as (λ b. IsBelowAll path_of p (if b then item ∷ filter keeps items else filter keeps items)) [
        | true ↦ (all.0, below_all_filter p keeps items all.1)
        | false ↦ below_all_filter p keeps items all.1
      ]

  -- a filter keeps a rising list rising
  pub IsRisingBy-filter : (keeps : X → Bool) (items : List X) → IsRisingBy path_of items
      → IsRisingBy path_of (filter keeps items)
  IsRisingBy-filter keeps [] rising = tt
  IsRisingBy-filter keeps (item ∷ items) rising =
      elim (keeps item) as (λ b. IsRisingBy path_of (if b then item ∷ filter keeps items else filter keeps items)) [
        | true ↦ (below_all_filter (path_of item) keeps items rising.0, IsRisingBy-filter keeps items rising.1)
        | false ↦ IsRisingBy-filter keeps items rising.1
      ]

  -- a list rises exactly if each item comes before the next

  pub rising_next : (items : List X) (k : ℕ) (d e : X) → suc k < length items → IsRisingBy path_of items
      → IsBelow (path_of (get_or items k d)) (path_of (get_or items (suc k) e))
  rising_next [] k d e within rising = absurd (omega arith)
  rising_next (item ∷ []) k d e within rising = absurd (omega arith)
  rising_next (item ∷ next ∷ items) zero d e within rising = rising.0.0
  rising_next (item ∷ next ∷ items) (suc k) d e within rising = rising_next (next ∷ items) k d e (omega arith) rising.1

  pub rising_pair : (items : List X) (i j : ℕ) (d e : X) → suc i ≡ j → j < length items → IsRisingBy path_of items
      → IsBelow (path_of (get_or items i d)) (path_of (get_or items j e))
  rising_pair items i j d e next within rising =
      subst (λ (n : ℕ). IsBelow (path_of (get_or items i d)) (path_of (get_or items n e))) next
      (rising_next items i d e (omega arith) rising)

  pub rising_from_next : (items : List X)
      → ((k : ℕ) (d : X) → suc k < length items
      → IsBelow (path_of (get_or items k d)) (path_of (get_or items (suc k) d))) → IsRisingBy path_of items
  rising_from_next [] next = tt
  rising_from_next (item ∷ []) next = (tt, tt)
  rising_from_next (item ∷ second ∷ items) next =
      let first = next 0 item (omega arith) in
      let rest = rising_from_next (second ∷ items) (λ k d within. next (suc k) d (omega arith)) in
      ((first, below_all_later (path_of item) (path_of second) items first rest.0), rest)
