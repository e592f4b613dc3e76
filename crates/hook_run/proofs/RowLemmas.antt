-- Look-ups in a tree row by row.
use Rattle.std.proofs.Common.{◌≡◌, ◌∙◌, ap, sym, subst, ℕ, zero, suc, ◌+◌, ◌≤◌, Bool, true, false, List, [], ◌∷◌, Some, length, drop, add-one}
use Rattle.std.proofs.Math.ListN.{drop_of_length-le}
use Rattle.std.specs.Prelude.{◌||◌, slice_get, None}
use Rattle.std.specs.List.{list_any}
use Rattle.std.specs.Str.{bytes_eq}
use Rattle.hook_base.specs.declared.file.File.{File}
use Rattle.hook_base.specs.Rising.{IsBelow, IsBelowAll}
use Rattle.hook_base.specs.TreeLemmas.{entry_of-first, entry_of-rest}
use Rattle.hook_base.specs.Trees.{IsRising, entry_of, path_of}

drop-at_suc : (rows : List File) (i : ℕ) (row : File) → slice_get rows i ≡ Some row → drop i rows ≡ row ∷ drop (suc i) rows
drop-at_suc [] i row at = cc
drop-at_suc (first ∷ rows) zero row at = let same : first ≡ row = cc in ap (λ (r : File). r ∷ rows) same
drop-at_suc (first ∷ rows) (suc i) row at = drop-at_suc rows i row at

pub drop-at : (rows : List File) (i : ℕ) (row : File) → slice_get rows i ≡ Some row → drop i rows ≡ row ∷ drop (i + 1) rows
drop-at rows i row at = drop-at_suc rows i row at ∙ ap (λ n. row ∷ drop n rows) (sym (add-one i))

-- a row at a place is the one that is looked for, or the look-up goes on after it
pub entry-here : (path : List ℕ) (rows : List File) (i : ℕ) (row : File) → slice_get rows i ≡ Some row → bytes_eq path row.path ≡ true
    → entry_of path (drop i rows) ≡ Some row.entry
entry-here path rows i row at same = ap (entry_of path) (drop-at rows i row at) ∙ rw same

pub entry-behind : (path : List ℕ) (rows : List File) (i : ℕ) (row : File) → slice_get rows i ≡ Some row → bytes_eq path row.path ≡ false
    → entry_of path (drop i rows) ≡ entry_of path (drop (i + 1) rows)
entry-behind path rows i row at other = ap (entry_of path) (drop-at rows i row at) ∙ rw other

pub entry-none : (path : List ℕ) (rows : List File) (i : ℕ) → length rows ≤ i → entry_of path (drop i rows) ≡ None
entry-none path rows i past = ap (entry_of path) (drop_of_length-le rows past)

any-behind : (test : File → Bool) (rows : List File) (i : ℕ) (row : File) → slice_get rows i ≡ Some row
    → list_any test (drop i rows) ≡ (test row || list_any test (drop (i + 1) rows))
any-behind test rows i row at = ap (list_any test) (drop-at rows i row at)

pub any-found : (test : File → Bool) (rows : List File) (i : ℕ) (row : File) → slice_get rows i ≡ Some row → test row ≡ true
    → list_any test (drop i rows) ≡ true
any-found test rows i row at found = any-behind test rows i row at ∙ ap (λ b. b || list_any test (drop (i + 1) rows)) found

pub any-passed : (test : File → Bool) (rows : List File) (i : ℕ) (row : File) → slice_get rows i ≡ Some row → test row ≡ false
    → list_any test (drop i rows) ≡ list_any test (drop (i + 1) rows)
any-passed test rows i row at not_found = any-behind test rows i row at ∙ ap (λ b. b || list_any test (drop (i + 1) rows)) not_found

pub any-none : (test : File → Bool) (rows : List File) (i : ℕ) → length rows ≤ i → list_any test (drop i rows) ≡ false
any-none test rows i past = ap (list_any test) (drop_of_length-le rows past)

same_row : (x y : File) → Some x ≡ Some y → x ≡ y
same_row x y e = cc

row_below : (path : List ℕ) (rows : List File) (k : ℕ) (row : File) → slice_get rows k ≡ Some row → IsBelowAll path_of path rows → IsBelow path row.path
row_below path [] k row at all = cc
row_below path (first ∷ rows) zero row at all = subst (λ (r : File). IsBelow path r.path) (same_row first row at) all.0
row_below path (first ∷ rows) (suc k) row at all = row_below path rows k row at all.1

-- what stands at the path of the row at a place of rows that rise
pub entry-at : (rows : List File) (k : ℕ) (row : File) → slice_get rows k ≡ Some row → IsRising rows → entry_of row.path rows ≡ Some row.entry
entry-at [] k row at rising = cc
entry-at (first ∷ rows) zero row at rising =
    let here = same_row first row at in
    entry_of-first row.path first rows (ap path_of (sym here)) ∙ ap (λ (r : File). Some r.entry) here
entry-at (first ∷ rows) (suc k) row at rising =
    entry_of-rest row.path first rows (row_below first.path rows k row at rising.0) ∙ entry-at rows k row at rising.1
