-- The paths of two trees rise where the trees do, and no other rising list holds just them.
use Rattle.std.proofs.Common.{◌≡◌, ◌∙◌, ap, sym, refl, subst, inl, inr, ℕ, Bool, true, false, List, [], ◌∷◌, map}
use Rattle.std.specs.Prelude.{◌||◌}
use Rattle.std.specs.List.{list_any}
use Rattle.std.specs.Str.{bytes_eq}
use Rattle.std.specs.Cmp.Lexicographic.{bytes_decides}
use Rattle.std.specs.declared.cmp.Ordering.TheVariants.{Less, Equal, Greater}
use Rattle.hook_base.specs.declared.file.File.{File}
use Rattle.hook_base.specs.Rising.{IsBelow, IsBelowAll, IsRisingBy, path_cmp}
use Rattle.hook_base.specs.RisingLemmas.{below_all_later, below_differs, below_from_greater, bytes_same, path_cases, path_tied}
use Rattle.hook_base.specs.Trees.{IsRising, path_of}
use Rattle.repository_text.specs.StatusText.{in_order, path_itself, paths_from, paths_of_both}

-- ---- they rise

below-map : (path : List ℕ) (files : List File) → IsBelowAll path_of path files → IsBelowAll path_itself path (map path_of files)
below-map path [] below = tt
below-map path (file ∷ files) below = (below.0, below-map path files below.1)

below-from : (path : List ℕ) (file : File) (files : List File) → IsBelow path file.path
    → ((others : List File) → IsBelowAll path_of path others → IsBelowAll path_itself path (paths_of_both files others))
    → (others : List File) → IsBelowAll path_of path others → IsBelowAll path_itself path (paths_from file.path (paths_of_both files) others)
below-from path file files first later [] below = (first, later [] tt)
below-from path file files first later (other ∷ others) below =
    elim (path_cmp file.path other.path)
    as (λ o. IsBelowAll path_itself path (in_order o file.path other.path (paths_of_both files (other ∷ others)) (paths_of_both files others) (paths_of_both (file ∷ files) others))) [
      | Less ↦ (first, later (other ∷ others) below)
      | Equal ↦ (first, later others below.1)
      | Greater ↦ (below.0, below-from path file files first later others below.1)
    ]

below-both : (path : List ℕ) (files others : List File) → IsBelowAll path_of path files → IsBelowAll path_of path others
    → IsBelowAll path_itself path (paths_of_both files others)
below-both path [] others first below = below-map path others below
below-both path (file ∷ files) others first below =
    below-from path file files first.0 (λ others below. below-both path files others first.1 below) others below

rising-map : (files : List File) → IsRising files → IsRisingBy path_itself (map path_of files)
rising-map [] rising = tt
rising-map (file ∷ files) rising = (below-map file.path files rising.0, rising-map files rising.1)

rising-from : (file : File) (files : List File) → IsBelowAll path_of file.path files
    → ((others : List File) → IsRising others → IsRisingBy path_itself (paths_of_both files others))
    → (others : List File) → IsRising others → IsRisingBy path_itself (paths_from file.path (paths_of_both files) others)
rising-from file files below later [] rising = (below-both file.path files [] below tt, later [] tt)
rising-from file files below later (other ∷ others) rising =
    elim (path_cmp file.path other.path)
    as (λ o. path_cmp file.path other.path ≡ o
    → IsRisingBy path_itself (in_order o file.path other.path (paths_of_both files (other ∷ others)) (paths_of_both files others) (paths_of_both (file ∷ files) others))) [
      | Less ↦ λ is. let next : IsBelow file.path other.path = record { is_less = is } in
          (below-both file.path files (other ∷ others) below (next, below_all_later path_of file.path other.path others next rising.0), later (other ∷ others) rising)
      | Equal ↦ λ is. let same = sym (path_tied file.path other.path is) in
          (below-both file.path files others below (subst (λ (path : List ℕ). IsBelowAll path_of path others) same rising.0), later others rising.1)
      | Greater ↦ λ is. let next = below_from_greater other.path file.path is in
          (below-both other.path (file ∷ files) others (next, below_all_later path_of other.path file.path files next below) rising.0, rising-from file files below later others rising.1)
    ] refl

pub paths-rise : (files others : List File) → IsRising files → IsRising others → IsRisingBy path_itself (paths_of_both files others)
paths-rise [] others rising other_rising = rising-map others other_rising
paths-rise (file ∷ files) others rising other_rising =
    rising-from file files rising.0 (λ others other_rising. paths-rise files others rising.1 other_rising) others other_rising

-- ---- no other rising list holds the same paths

abbrev any_path : List ℕ → List (List ℕ) → Bool
any_path path paths = list_any (bytes_eq path) paths

not-among : (path : List ℕ) (paths : List (List ℕ)) → IsBelowAll path_itself path paths → any_path path paths ≡ false
not-among path [] below = refl
not-among path (other ∷ paths) below = ap (λ b. b || any_path path paths) (below_differs path other below.0) ∙ not-among path paths below.1

first-among : (path : List ℕ) (paths : List (List ℕ)) → any_path path (path ∷ paths) ≡ true
first-among path paths = ap (λ b. b || any_path path paths) (bytes_same path path refl)

apart : (b : Bool) → b ≡ true → b ≡ false → ⊥
apart b held missing = cc

-- a path that comes before all of a list isn't in it, though the other list begins with it
begins-lower : (path : List ℕ) (paths others : List (List ℕ)) → IsBelowAll path_itself path others
    → any_path path (path ∷ paths) ≡ any_path path others → ⊥
begins-lower path paths others below same =
    apart (any_path path others) (sym same ∙ first-among path paths) (not-among path others below)

rest-same : (path : List ℕ) (first second : List (List ℕ)) → IsBelowAll path_itself path first → IsBelowAll path_itself path second → (wanted : List ℕ)
    → any_path wanted (path ∷ first) ≡ any_path wanted (path ∷ second) → any_path wanted first ≡ any_path wanted second
rest-same path first second below below_too wanted same =
    elim (bytes_eq wanted path)
    as (λ b. bytes_eq wanted path ≡ b → (b || any_path wanted first) ≡ (b || any_path wanted second) → any_path wanted first ≡ any_path wanted second) [
      | true ↦ λ is same. let here = sym ((bytes_decides wanted path).0 is) in
          not-among wanted first (subst (λ (p : List ℕ). IsBelowAll path_itself p first) here below)
          ∙ sym (not-among wanted second (subst (λ (p : List ℕ). IsBelowAll path_itself p second) here below_too))
      | false ↦ λ is same. same
    ] refl same

pub one-list : (paths others : List (List ℕ)) → IsRisingBy path_itself paths → IsRisingBy path_itself others
    → ((path : List ℕ) → any_path path paths ≡ any_path path others) → paths ≡ others
one-list [] [] rising other_rising same = refl
one-list [] (other ∷ others) rising other_rising same = absurd (begins-lower other others [] tt (sym (same other)))
one-list (path ∷ paths) [] rising other_rising same = absurd (begins-lower path paths [] tt (same path))
one-list (path ∷ paths) (other ∷ others) rising other_rising same = elim (path_cases path other) [
  | inl (inl below) ↦ absurd (begins-lower path paths (other ∷ others) (below, below_all_later path_itself path other others below other_rising.0) (same path))
  | inl (inr is) ↦ let as_one : (wanted : List ℕ) → any_path wanted (path ∷ paths) ≡ any_path wanted (path ∷ others) =
      λ wanted. same wanted ∙ ap (λ p. any_path wanted (p ∷ others)) (sym is) in
      ap (λ p. p ∷ paths) is
      ∙ ap (λ rest. other ∷ rest)
      (one-list paths others rising.1 other_rising.1 (λ wanted. rest-same path paths others rising.0
      (subst (λ (p : List ℕ). IsBelowAll path_itself p others) (sym is) other_rising.0) wanted (as_one wanted)))
  | inr below ↦ absurd (begins-lower other others (path ∷ paths) (below, below_all_later path_itself other path paths below rising.0) (sym (same other)))
]
