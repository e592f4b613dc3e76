-- Lemmas, also for other crates: sorting paths and leaving repetitions out keeps the same paths.
use Rattle.std.proofs.Common.{◌≡◌, ℕ, Bool, true, false, ◌||◌, if◌then◌else◌, List, [], ◌∷◌, refl, ap, ◌∙◌}
use Rattle.std.specs.List.{list_any, dedup, dedup_from, AllByRecursion}
use Rattle.std.specs.List.Sorted.{IsStrictlySortedBy}
use Rattle.std.specs.Str.{bytes_eq}
use Rattle.std.specs.declared.cmp.Ordering.{Ordering}
use Rattle.std.specs.declared.cmp.Ordering.TheVariants.{Less}
use Rattle.hook_base.specs.Rising.{path_cmp, IsBelowAll, IsRisingBy}
use Rattle.file_tags.specs.ChangedFiles.{is_among}
use Rattle.file_tags.specs.TagTables.{texts_of}
use denote.Ref.{Bor}

abbrev reference_cmp : Bor (List ℕ) → Bor (List ℕ) → Ordering
reference_cmp first second = path_cmp first.now second.now

below_all-of_sorted : (path : Bor (List ℕ)) (paths : List (Bor (List ℕ)))
    → AllByRecursion (λ other. reference_cmp path other ≡ Less) paths
    → IsBelowAll (λ other. other) path.now (texts_of paths)
below_all-of_sorted path [] all = tt
below_all-of_sorted path (other ∷ paths) all = (record { is_less = all.0 }, below_all-of_sorted path paths all.1)

pub rising-of_sorted : (paths : List (Bor (List ℕ))) → IsStrictlySortedBy reference_cmp paths
    → IsRisingBy (λ path. path) (texts_of paths)
unfolding IsStrictlySortedBy
rising-of_sorted [] sorted = tt
rising-of_sorted (path ∷ paths) sorted = (below_all-of_sorted path paths sorted.0, rising-of_sorted paths sorted.1)

-- a path is among the referred ones if a reference refers to it
pub is_among-texts_of : (path : List ℕ) (paths : List (Bor (List ℕ)))
    → is_among (texts_of paths) path ≡ list_any (λ other. bytes_eq other.now path) paths
is_among-texts_of path [] = refl
is_among-texts_of path (other ∷ paths) = ap (λ rest. bytes_eq other.now path || rest) (is_among-texts_of path paths)

once : (a b c : Bool) → a ≡ b → (b || c) ≡ (b || (a || c))
once true true c same = refl
once false false c same = refl
once true false c same = cc
once false true c same = cc

module _ {X : Type 0} (same : X → X → Bool) (test : X → Bool)
    (alike : (x y : X) → same x y ≡ true → test x ≡ test y) where
  from_first : (first : X) (items : List X)
      → list_any test (dedup_from same first items) ≡ (test first || list_any test items)
  from_first first [] = refl
  from_first first (item ∷ items) =
      elim (same item first) as (λ b. same item first ≡ b
      → list_any test (if b then dedup_from same first items else first ∷ dedup_from same item items)
      ≡ (test first || (test item || list_any test items))) [
        | true ↦ λ e. from_first first items ∙ once (test item) (test first) (list_any test items) (alike item first e)
        | false ↦ λ e. ap (λ rest. test first || rest) (from_first item items)
      ] refl

  -- a test that can't distinguish repetitions finds as much without them
  pub list_any-dedup : (items : List X) → list_any test (dedup same items) ≡ list_any test items
  list_any-dedup [] = refl
  list_any-dedup (item ∷ items) = from_first item items
