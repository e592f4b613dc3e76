-- What a search by halves knows of a tree's rows, and what it finds.
use Rattle.std.proofs.Common.{◌≡◌, ◌∙◌, inl, inr, ℕ, zero, suc, ◌+◌, ◌<◌, ◌≤◌, List, [], ◌∷◌, None, Some, slice_get, map, refl, ap, arith, sym, subst}
use Rattle.std.proofs.lemmas.Bool.{cases_lt}
use Rattle.hook_base.specs.declared.file.File.{File}
use Rattle.hook_base.specs.Rising.{IsBelow, IsBelowAll}
use Rattle.hook_base.specs.RisingLemmas.{IsBelow-trans, below_not_same, bytes_differ}
use Rattle.hook_base.specs.TreeLemmas.{entry_of-first, entry_of-rest}
use Rattle.hook_base.specs.Trees.{IsRising, entry_of, path_of}

-- the first n rows come before the path
pub record EarlierBelow (path : List ℕ) (rows : List File) (n : ℕ) : Type 0 where
  pub below : (k : ℕ) (row : File) → k < n → slice_get rows k ≡ Some row → IsBelow row.path path

-- the rows from the nth on come after the path
pub record LaterAbove (path : List ℕ) (rows : List File) (n : ℕ) : Type 0 where
  pub above : (k : ℕ) (row : File) → n ≤ k → slice_get rows k ≡ Some row → IsBelow path row.path

same_item : (x y : File) → Some x ≡ Some y → x ≡ y
same_item x y e = cc

below_at : (path : List ℕ) (rows : List File) (k : ℕ) (row : File) → slice_get rows k ≡ Some row → IsBelowAll path_of path rows → IsBelow path row.path
below_at path [] k row at all = cc
below_at path (first ∷ rows) zero row at all = subst (λ (r : File). IsBelow path r.path) (same_item first row at) all.0
below_at path (first ∷ rows) (suc k) row at all = below_at path rows k row at all.1

earlier_below : (path : List ℕ) (rows : List File) (i j : ℕ) (early late : File) → i ≤ j → slice_get rows i ≡ Some early → slice_get rows j ≡ Some late → IsRising rows → IsBelow late.path path
    → IsBelow early.path path
earlier_below path [] i j early late order at later rising below = cc
earlier_below path (first ∷ rows) zero zero early late order at later rising below =
    subst (λ (r : File). IsBelow r.path path) (sym (same_item first late later) ∙ same_item first early at) below
earlier_below path (first ∷ rows) zero (suc j) early late order at later rising below =
    subst (λ (r : File). IsBelow r.path path) (same_item first early at) (IsBelow-trans first.path late.path path (below_at first.path rows j late later rising.0) below)
earlier_below path (first ∷ rows) (suc i) zero early late order at later rising below = absurd (omega arith)
earlier_below path (first ∷ rows) (suc i) (suc j) early late order at later rising below =
    earlier_below path rows i j early late (omega arith) at later rising.1 below

later_above : (path : List ℕ) (rows : List File) (i j : ℕ) (early late : File) → i ≤ j → slice_get rows i ≡ Some early → slice_get rows j ≡ Some late → IsRising rows → IsBelow path early.path
    → IsBelow path late.path
later_above path [] i j early late order at later rising below = cc
later_above path (first ∷ rows) zero zero early late order at later rising below =
    subst (λ (r : File). IsBelow path r.path) (sym (same_item first early at) ∙ same_item first late later) below
later_above path (first ∷ rows) zero (suc j) early late order at later rising below =
    let from_first = subst (λ (r : File). IsBelow path r.path) (sym (same_item first early at)) below in
    IsBelow-trans path first.path late.path from_first (below_at first.path rows j late later rising.0)
later_above path (first ∷ rows) (suc i) zero early late order at later rising below = absurd (omega arith)
later_above path (first ∷ rows) (suc i) (suc j) early late order at later rising below =
    later_above path rows i j early late (omega arith) at later rising.1 below

pub none_earlier : (path : List ℕ) (rows : List File) → EarlierBelow path rows 0
none_earlier path rows = record { below = λ k row within at. absurd (omega arith) }

pub none_later : (path : List ℕ) (rows : List File) (n : ℕ) → ((k : ℕ) → n ≤ k → slice_get rows k ≡ None) → LaterAbove path rows n
none_later path rows n past = record { above = λ k row beyond at. let over = past k beyond in cc }

pub more_earlier : (path : List ℕ) (rows : List File) (middle : ℕ) (row : File) → slice_get rows middle ≡ Some row → IsRising rows → IsBelow row.path path → EarlierBelow path rows (middle + 1)
more_earlier path rows middle row at rising below =
    record { below = λ k other within there. earlier_below path rows k middle other row (omega arith) there at rising below }

pub more_later : (path : List ℕ) (rows : List File) (middle : ℕ) (row : File) → slice_get rows middle ≡ Some row → IsRising rows → IsBelow path row.path → LaterAbove path rows middle
more_later path rows middle row at rising below =
    record { above = λ k other beyond there. later_above path rows middle k row other beyond at there rising below }

-- what stands at the path of a row, by its place
pub entry_at : (rows : List File) (k : ℕ) (row : File) → slice_get rows k ≡ Some row → IsRising rows → entry_of row.path rows ≡ Some row.entry
entry_at [] k row at rising = cc
entry_at (first ∷ rows) zero row at rising =
    let here = same_item first row at in
    entry_of-first row.path first rows (ap path_of (sym here)) ∙ ap (λ (r : File). Some r.entry) here
entry_at (first ∷ rows) (suc k) row at rising =
    entry_of-rest row.path first rows (below_at first.path rows k row at rising.0) ∙ entry_at rows k row at rising.1

-- the path of a row, by its place
pub path_at : (rows : List File) (k : ℕ) (row : File) → slice_get rows k ≡ Some row → slice_get (map path_of rows) k ≡ Some row.path
path_at [] k row at = cc
path_at (first ∷ rows) zero row at = ap (λ (r : File). Some r.path) (same_item first row at)
path_at (first ∷ rows) (suc k) row at = path_at rows k row at

absent : (path : List ℕ) (rows : List File) → ((k : ℕ) (row : File) → slice_get rows k ≡ Some row → path ≡ row.path → ⊥) → entry_of path rows ≡ None
absent path [] differs = refl
absent path (row ∷ rows) differs =
    rw (bytes_differ path row.path (differs 0 row refl)) (absent path rows (λ k other at same. differs (suc k) other at same))

pub missing : (path : List ℕ) (rows : List File) (n : ℕ) → EarlierBelow path rows n → LaterAbove path rows n → entry_of path rows ≡ None
missing path rows n earlier later =
    absent path rows (λ k row at same. elim (cases_lt k n) [
      | inl within ↦ below_not_same row.path path (earlier.below k row within at) (sym same)
      | inr beyond ↦ below_not_same path row.path (later.above k row beyond at) same
    ])
