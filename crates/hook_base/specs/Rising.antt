-- Lists in the rising order of their paths. Paths are compared by their bytes.
use Rattle.std.specs.Prelude.{◌≡◌, ℕ, List, [], ◌∷◌}
use Rattle.std.specs.declared.cmp.Ordering.{Ordering}
use Rattle.std.specs.declared.cmp.Ordering.TheVariants.{Less}
use Rattle.std.specs.Ordering.{nat_cmp}
use Rattle.std.specs.Cmp.Lexicographic.{slice_cmp}

abbrev pub path_cmp : List ℕ → List ℕ → Ordering
path_cmp = slice_cmp nat_cmp

pub record IsBelow (path later : List ℕ) : Type 0 where
  pub is_less : path_cmp path later ≡ Less

-- the path comes before the path of each item
abbrev pub IsBelowAll : {X : Type 0} → (X → List ℕ) → List ℕ → List X → Type 0
IsBelowAll path_of path [] = Unit {0}
IsBelowAll path_of path (item ∷ items) = IsBelow path (path_of item) × IsBelowAll path_of path items

-- each item's path comes before those of all later items
abbrev pub IsRisingBy : {X : Type 0} → (X → List ℕ) → List X → Type 0
IsRisingBy path_of [] = Unit {0}
IsRisingBy path_of (item ∷ items) = IsBelowAll path_of (path_of item) items × IsRisingBy path_of items
