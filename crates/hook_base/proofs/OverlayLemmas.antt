-- Base rows with their states: what stands at an index, what each edit of a state does to the rows that stand, and that
-- these rise.
use Rattle.std.proofs.Common.{◌≡◌, ◌∙◌, ℕ, zero, suc, ◌+◌, ◌<◌, ◌≤◌, List, [], ◌∷◌, length, get_or, set, remove, Option, None, Some, ap, sym, subst, refl, arith, Bool, true, false}
use Rattle.std.specs.Prelude.{slice_get, if◌then◌else◌}
use Rattle.std.specs.Str.{bytes_eq}
use Rattle.hook_base.specs.declared.file.File.{File}
use Rattle.hook_base.specs.declared.file.FileEntry.{FileEntry}
use Rattle.hook_base.specs.declared.row_state.RowState.{RowState}
use Rattle.hook_base.specs.declared.row_state.RowState.TheVariants.{Kept, Replaced, Gone}
use Rattle.hook_base.specs.Overlays.{AreStatesOf, IsStateOf, all_kept, live_indices, live_rows, row_by, standing_at}
use Rattle.hook_base.specs.Places.{IsAt, IsGap}
use Rattle.hook_base.specs.Rising.{IsBelow, IsBelowAll}
use Rattle.hook_base.specs.RisingLemmas.{above_differs, bytes_same}
use Rattle.hook_base.specs.TreeLemmas.{entry_of-later, remove_file-later, rewrite_file-later}
use Rattle.hook_base.specs.Trees.{IsRising, apply_at, entry_of, path_of, remove_file, rewrite_file, with_bytes}

-- what stands at an index

pub standing-read : (base : List File) (states : List RowState) (k : ℕ) (d : File) (e : RowState) → k < length base → k < length states
    → standing_at base states k ≡ Some (row_by (get_or base k d) (get_or states k e))
standing-read [] states k d e within one = absurd (omega arith)
standing-read (row ∷ base) [] k d e within one = absurd (omega arith)
standing-read (row ∷ base) (state ∷ states) zero d e within one = refl
standing-read (row ∷ base) (state ∷ states) (suc k) d e within one = standing-read base states k d e (omega arith) (omega arith)

-- one state a row

pub states-length : (base : List File) (states : List RowState) → AreStatesOf base states → length states ≡ length base
states-length [] [] are = refl
states-length [] (state ∷ states) are = absurd are
states-length (row ∷ base) [] are = absurd are
states-length (row ∷ base) (state ∷ states) are = ap suc (states-length base states are.1)

pub states-set : (base : List File) (states : List RowState) (k : ℕ) (state : RowState) → AreStatesOf base states → ((d : File) → IsStateOf (get_or base k d) state)
    → AreStatesOf base (set states k state)
states-set [] [] k state are new = tt
states-set [] (old ∷ states) k state are new = absurd are
states-set (row ∷ base) [] k state are new = absurd are
states-set (row ∷ base) (old ∷ states) zero state are new = (new row, are.1)
states-set (row ∷ base) (old ∷ states) (suc k) state are new = (are.0, states-set base states k state are.1 new)

pub states-kept : (base : List File) → AreStatesOf base (all_kept base)
states-kept [] = tt
states-kept (row ∷ base) = (tt, states-kept base)

pub live_rows-kept : (base : List File) → live_rows base (all_kept base) ≡ base
live_rows-kept [] = refl
live_rows-kept (row ∷ base) = ap (λ (rest : List File). row ∷ rest) (live_rows-kept base)

-- the rows that stand rise

pub below_all-live_rows : (path : List ℕ) (base : List File) (states : List RowState) → AreStatesOf base states → IsBelowAll path_of path base → IsBelowAll path_of path (live_rows base states)
below_all-live_rows path [] states are all = tt
below_all-live_rows path (row ∷ base) [] are all = absurd are
below_all-live_rows path (row ∷ base) (Kept ∷ states) are all = (all.0, below_all-live_rows path base states are.1 all.1)
below_all-live_rows path (row ∷ base) (Replaced new ∷ states) are all =
    (subst (λ (p : List ℕ). IsBelow path p) (sym are.0) all.0, below_all-live_rows path base states are.1 all.1)
below_all-live_rows path (row ∷ base) (Gone ∷ states) are all = below_all-live_rows path base states are.1 all.1

pub IsRising-live_rows : (base : List File) (states : List RowState) → AreStatesOf base states → IsRising base → IsRising (live_rows base states)
IsRising-live_rows [] states are rising = tt
IsRising-live_rows (row ∷ base) [] are rising = absurd are
IsRising-live_rows (row ∷ base) (Kept ∷ states) are rising =
    (below_all-live_rows row.path base states are.1 rising.0, IsRising-live_rows base states are.1 rising.1)
IsRising-live_rows (row ∷ base) (Replaced new ∷ states) are rising =
    (subst (λ (p : List ℕ). IsBelowAll path_of p (live_rows base states)) (sym are.0) (below_all-live_rows row.path base states are.1 rising.0), IsRising-live_rows base states are.1 rising.1)
IsRising-live_rows (row ∷ base) (Gone ∷ states) are rising = IsRising-live_rows base states are.1 rising.1

-- edits at the place of a path in the base

later_of : (path : List ℕ) (row : File) (base : List File) (states : List RowState) → AreStatesOf base states → path ≡ row.path → IsBelowAll path_of row.path base
    → IsBelowAll path_of path (live_rows base states)
later_of path row base states are same later =
    below_all-live_rows path base states are (subst (λ (p : List ℕ). IsBelowAll path_of p base) (sym same) later)

pub live_rows-gone : (path : List ℕ) (base : List File) (states : List RowState) (k : ℕ) → IsRising base → AreStatesOf base states → IsAt path base k
    → live_rows base (set states k Gone) ≡ remove_file path (live_rows base states)
live_rows-gone path [] states k rising are at = absurd at
live_rows-gone path (row ∷ base) [] k rising are at = absurd are
live_rows-gone path (row ∷ base) (Kept ∷ states) zero rising are at =
    rw (bytes_same path row.path at) (sym (remove_file-later path (live_rows base states) (later_of path row base states are.1 at rising.0)))
live_rows-gone path (row ∷ base) (Replaced new ∷ states) zero rising are at =
    rw (bytes_same path new.path (at ∙ sym are.0)) (sym (remove_file-later path (live_rows base states) (later_of path row base states are.1 at rising.0)))
live_rows-gone path (row ∷ base) (Gone ∷ states) zero rising are at =
    sym (remove_file-later path (live_rows base states) (later_of path row base states are.1 at rising.0))
live_rows-gone path (row ∷ base) (Kept ∷ states) (suc k) rising are at =
    rw (above_differs path row.path at.0) (ap (λ (rest : List File). row ∷ rest) (live_rows-gone path base states k rising.1 are.1 at.1))
live_rows-gone path (row ∷ base) (Replaced new ∷ states) (suc k) rising are at =
    rw (above_differs path new.path (subst (λ (p : List ℕ). IsBelow p path) (sym are.0) at.0)) (ap (λ (rest : List File). new ∷ rest) (live_rows-gone path base states k rising.1 are.1 at.1))
live_rows-gone path (row ∷ base) (Gone ∷ states) (suc k) rising are at = live_rows-gone path base states k rising.1 are.1 at.1

-- where the row stands, other bytes in it are another row in its place
pub live_rows-rewritten : (path bytes : List ℕ) (base : List File) (states : List RowState) (k : ℕ) (old : File) (d : RowState) → IsRising base → AreStatesOf base states → IsAt path base k
    → standing_at base states k ≡ Some old → (get_or states k d ≡ Gone → ⊥) → live_rows base (set states k (Replaced (with_bytes bytes old))) ≡ rewrite_file path bytes (live_rows base states)
live_rows-rewritten path bytes [] states k old d rising are at stood live = absurd at
live_rows-rewritten path bytes (row ∷ base) [] k old d rising are at stood live = absurd are
live_rows-rewritten path bytes (row ∷ base) (Kept ∷ states) zero old d rising are at stood live =
    let same : row ≡ old = cc in
    rw (bytes_same path row.path at) (rw (rewrite_file-later path bytes (live_rows base states) (later_of path row base states are.1 at rising.0))
    (ap (λ (stood : File). with_bytes bytes stood ∷ live_rows base states) (sym same)))
live_rows-rewritten path bytes (row ∷ base) (Replaced new ∷ states) zero old d rising are at stood live =
    let same : new ≡ old = cc in
    rw (bytes_same path new.path (at ∙ sym are.0)) (rw (rewrite_file-later path bytes (live_rows base states) (later_of path row base states are.1 at rising.0))
    (ap (λ (stood : File). with_bytes bytes stood ∷ live_rows base states) (sym same)))
live_rows-rewritten path bytes (row ∷ base) (Gone ∷ states) zero old d rising are at stood live = absurd (live refl)
live_rows-rewritten path bytes (row ∷ base) (Kept ∷ states) (suc k) old d rising are at stood live =
    rw (above_differs path row.path at.0) (ap (λ (rest : List File). row ∷ rest) (live_rows-rewritten path bytes base states k old d rising.1 are.1 at.1 stood live))
live_rows-rewritten path bytes (row ∷ base) (Replaced new ∷ states) (suc k) old d rising are at stood live =
    rw (above_differs path new.path (subst (λ (p : List ℕ). IsBelow p path) (sym are.0) at.0))
    (ap (λ (rest : List File). new ∷ rest) (live_rows-rewritten path bytes base states k old d rising.1 are.1 at.1 stood live))
live_rows-rewritten path bytes (row ∷ base) (Gone ∷ states) (suc k) old d rising are at stood live =
    live_rows-rewritten path bytes base states k old d rising.1 are.1 at.1 stood live

-- where the row is gone, other bytes change nothing
pub rewrite_file-gone : (path bytes : List ℕ) (base : List File) (states : List RowState) (k : ℕ) (d : RowState) → IsRising base → AreStatesOf base states → IsAt path base k → get_or states k d ≡ Gone
    → rewrite_file path bytes (live_rows base states) ≡ live_rows base states
rewrite_file-gone path bytes [] states k d rising are at gone = absurd at
rewrite_file-gone path bytes (row ∷ base) [] k d rising are at gone = absurd are
rewrite_file-gone path bytes (row ∷ base) (Kept ∷ states) zero d rising are at gone = absurd (cc)
rewrite_file-gone path bytes (row ∷ base) (Replaced new ∷ states) zero d rising are at gone = absurd (cc)
rewrite_file-gone path bytes (row ∷ base) (Gone ∷ states) zero d rising are at gone =
    rewrite_file-later path bytes (live_rows base states) (later_of path row base states are.1 at rising.0)
rewrite_file-gone path bytes (row ∷ base) (Kept ∷ states) (suc k) d rising are at gone =
    rw (above_differs path row.path at.0) (ap (λ (rest : List File). row ∷ rest) (rewrite_file-gone path bytes base states k d rising.1 are.1 at.1 gone))
rewrite_file-gone path bytes (row ∷ base) (Replaced new ∷ states) (suc k) d rising are at gone =
    rw (above_differs path new.path (subst (λ (p : List ℕ). IsBelow p path) (sym are.0) at.0))
    (ap (λ (rest : List File). new ∷ rest) (rewrite_file-gone path bytes base states k d rising.1 are.1 at.1 gone))
rewrite_file-gone path bytes (row ∷ base) (Gone ∷ states) (suc k) d rising are at gone = rewrite_file-gone path bytes base states k d rising.1 are.1 at.1 gone

-- a path that the base lacks has no row that stands
pub entry_of-live_rows-gap : (path : List ℕ) (base : List File) (states : List RowState) (k : ℕ) → AreStatesOf base states → IsGap path base k → entry_of path (live_rows base states) ≡ None
entry_of-live_rows-gap path base states zero are gap =
    entry_of-later path (live_rows base states) (below_all-live_rows path base states are gap)
entry_of-live_rows-gap path [] states (suc k) are gap = absurd gap
entry_of-live_rows-gap path (row ∷ base) [] (suc k) are gap = absurd are
entry_of-live_rows-gap path (row ∷ base) (Kept ∷ states) (suc k) are gap =
    rw (above_differs path row.path gap.0) (entry_of-live_rows-gap path base states k are.1 gap.1)
entry_of-live_rows-gap path (row ∷ base) (Replaced new ∷ states) (suc k) are gap =
    rw (above_differs path new.path (subst (λ (p : List ℕ). IsBelow p path) (sym are.0) gap.0)) (entry_of-live_rows-gap path base states k are.1 gap.1)
entry_of-live_rows-gap path (row ∷ base) (Gone ∷ states) (suc k) are gap = entry_of-live_rows-gap path base states k are.1 gap.1

pub none_some : (entry : FileEntry) (there : Option FileEntry) → there ≡ None → there ≡ Some entry → ⊥
none_some entry there none some = cc

-- a change of a path that has no row changes nothing

pub remove_file-absent : (path : List ℕ) (rows : List File) → entry_of path rows ≡ None → remove_file path rows ≡ rows
remove_file-absent path [] absent = refl
remove_file-absent path (row ∷ rows) absent =
    elim (bytes_eq path row.path) as (λ (b : Bool). (if b then Some row.entry else entry_of path rows) ≡ None → (if b then remove_file path rows else row ∷ remove_file path rows) ≡ row ∷ rows) [
      | true ↦ λ absent. absurd (none_some row.entry (Some row.entry) absent refl)
      | false ↦ λ absent. ap (λ (rest : List File). row ∷ rest) (remove_file-absent path rows absent)
    ] absent

pub rewrite_file-absent : (path bytes : List ℕ) (rows : List File) → entry_of path rows ≡ None → rewrite_file path bytes rows ≡ rows
rewrite_file-absent path bytes [] absent = refl
rewrite_file-absent path bytes (row ∷ rows) absent =
    elim (bytes_eq path row.path) as (λ (b : Bool). (if b then Some row.entry else entry_of path rows) ≡ None → (if b then with_bytes bytes row else row) ∷ rewrite_file path bytes rows ≡ row ∷ rows) [
      | true ↦ λ absent. absurd (none_some row.entry (Some row.entry) absent refl)
      | false ↦ λ absent. ap (λ (rest : List File). row ∷ rest) (rewrite_file-absent path bytes rows absent)
    ] absent

pub apply_at-absent : (path : List ℕ) (now : Option (List ℕ)) (rows : List File) → entry_of path rows ≡ None → apply_at path now rows ≡ rows
apply_at-absent path None rows absent = remove_file-absent path rows absent
apply_at-absent path (Some bytes) rows absent = rewrite_file-absent path bytes rows absent

-- what stands in the place of a path has the path
pub standing-path : (path : List ℕ) (base : List File) (states : List RowState) (k : ℕ) (old : File) → AreStatesOf base states → IsAt path base k → standing_at base states k ≡ Some old
    → path ≡ old.path
standing-path path [] states k old are at stood = absurd at
standing-path path (row ∷ base) [] k old are at stood = absurd are
standing-path path (row ∷ base) (Kept ∷ states) zero old are at stood = let same : row ≡ old = cc in at ∙ ap path_of same
standing-path path (row ∷ base) (Replaced new ∷ states) zero old are at stood =
    let same : new ≡ old = cc in at ∙ (sym are.0 ∙ ap path_of same)
standing-path path (row ∷ base) (Gone ∷ states) zero old are at stood = let same : row ≡ old = cc in at ∙ ap path_of same
standing-path path (row ∷ base) (state ∷ states) (suc k) old are at stood = standing-path path base states k old are.1 at.1 stood

-- the index in the base of the row at an index among those that stand

abbrev pub IsNth : List RowState → ℕ → ℕ → Type 0
IsNth [] r k = ⊥
IsNth (Kept ∷ states) zero zero = Unit {0}
IsNth (Kept ∷ states) zero (suc k) = ⊥
IsNth (Kept ∷ states) (suc r) zero = ⊥
IsNth (Kept ∷ states) (suc r) (suc k) = IsNth states r k
IsNth (Replaced new ∷ states) zero zero = Unit {0}
IsNth (Replaced new ∷ states) zero (suc k) = ⊥
IsNth (Replaced new ∷ states) (suc r) zero = ⊥
IsNth (Replaced new ∷ states) (suc r) (suc k) = IsNth states r k
IsNth (Gone ∷ states) r zero = ⊥
IsNth (Gone ∷ states) r (suc k) = IsNth states r k

pub live_indices-length : (first : ℕ) (base : List File) (states : List RowState) → AreStatesOf base states → length (live_indices first states) ≡ length (live_rows base states)
live_indices-length first [] [] are = refl
live_indices-length first [] (state ∷ states) are = absurd are
live_indices-length first (row ∷ base) [] are = absurd are
live_indices-length first (row ∷ base) (Kept ∷ states) are = ap suc (live_indices-length (first + 1) base states are.1)
live_indices-length first (row ∷ base) (Replaced new ∷ states) are = ap suc (live_indices-length (first + 1) base states are.1)
live_indices-length first (row ∷ base) (Gone ∷ states) are = live_indices-length (first + 1) base states are.1

live_indices-least : (first : ℕ) (states : List RowState) (r d : ℕ) → r < length (live_indices first states) → first ≤ get_or (live_indices first states) r d
live_indices-least first [] r d within = absurd (omega arith)
live_indices-least first (Kept ∷ states) zero d within = omega arith
live_indices-least first (Kept ∷ states) (suc r) d within =
    let least = live_indices-least (first + 1) states r d (omega arith) in omega arith
live_indices-least first (Replaced new ∷ states) zero d within = omega arith
live_indices-least first (Replaced new ∷ states) (suc r) d within =
    let least = live_indices-least (first + 1) states r d (omega arith) in omega arith
live_indices-least first (Gone ∷ states) r d within =
    let least = live_indices-least (first + 1) states r d (omega arith) in omega arith

pub nth : (first : ℕ) (states : List RowState) (r k d : ℕ) → r < length (live_indices first states) → get_or (live_indices first states) r d ≡ first + k → IsNth states r k
nth first [] r k d within is = absurd (omega arith)
nth first (Kept ∷ states) zero zero d within is = tt
nth first (Kept ∷ states) zero (suc k) d within is = absurd (omega arith)
nth first (Kept ∷ states) (suc r) zero d within is =
    let least = live_indices-least (first + 1) states r d (omega arith) in absurd (omega arith)
nth first (Kept ∷ states) (suc r) (suc k) d within is = nth (first + 1) states r k d (omega arith) (omega arith)
nth first (Replaced new ∷ states) zero zero d within is = tt
nth first (Replaced new ∷ states) zero (suc k) d within is = absurd (omega arith)
nth first (Replaced new ∷ states) (suc r) zero d within is =
    let least = live_indices-least (first + 1) states r d (omega arith) in absurd (omega arith)
nth first (Replaced new ∷ states) (suc r) (suc k) d within is = nth (first + 1) states r k d (omega arith) (omega arith)
nth first (Gone ∷ states) r zero d within is =
    let least = live_indices-least (first + 1) states r d within in absurd (omega arith)
nth first (Gone ∷ states) r (suc k) d within is = nth (first + 1) states r k d within (omega arith)

pub nth-within : (states : List RowState) (r k : ℕ) → IsNth states r k → k < length states
nth-within [] r k is = absurd is
nth-within (Kept ∷ states) zero zero is = omega arith
nth-within (Kept ∷ states) zero (suc k) is = absurd is
nth-within (Kept ∷ states) (suc r) zero is = absurd is
nth-within (Kept ∷ states) (suc r) (suc k) is = let within = nth-within states r k is in omega arith
nth-within (Replaced new ∷ states) zero zero is = omega arith
nth-within (Replaced new ∷ states) zero (suc k) is = absurd is
nth-within (Replaced new ∷ states) (suc r) zero is = absurd is
nth-within (Replaced new ∷ states) (suc r) (suc k) is = let within = nth-within states r k is in omega arith
nth-within (Gone ∷ states) r zero is = absurd is
nth-within (Gone ∷ states) r (suc k) is = let within = nth-within states r k is in omega arith

pub standing-nth : (base : List File) (states : List RowState) (r k : ℕ) → AreStatesOf base states → IsNth states r k → standing_at base states k ≡ slice_get (live_rows base states) r
standing-nth [] [] r k are is = absurd is
standing-nth [] (state ∷ states) r k are is = absurd are
standing-nth (row ∷ base) [] r k are is = absurd are
standing-nth (row ∷ base) (Kept ∷ states) zero zero are is = refl
standing-nth (row ∷ base) (Kept ∷ states) zero (suc k) are is = absurd is
standing-nth (row ∷ base) (Kept ∷ states) (suc r) zero are is = absurd is
standing-nth (row ∷ base) (Kept ∷ states) (suc r) (suc k) are is = standing-nth base states r k are.1 is
standing-nth (row ∷ base) (Replaced new ∷ states) zero zero are is = refl
standing-nth (row ∷ base) (Replaced new ∷ states) zero (suc k) are is = absurd is
standing-nth (row ∷ base) (Replaced new ∷ states) (suc r) zero are is = absurd is
standing-nth (row ∷ base) (Replaced new ∷ states) (suc r) (suc k) are is = standing-nth base states r k are.1 is
standing-nth (row ∷ base) (Gone ∷ states) r zero are is = absurd is
standing-nth (row ∷ base) (Gone ∷ states) r (suc k) are is = standing-nth base states r k are.1 is

-- a row that stands has the path of its base row
pub path-nth : (base : List File) (states : List RowState) (r k : ℕ) (d e : File) → AreStatesOf base states → IsNth states r k → (get_or (live_rows base states) r d).path ≡ (get_or base k e).path
path-nth [] [] r k d e are is = absurd is
path-nth [] (state ∷ states) r k d e are is = absurd are
path-nth (row ∷ base) [] r k d e are is = absurd are
path-nth (row ∷ base) (Kept ∷ states) zero zero d e are is = refl
path-nth (row ∷ base) (Kept ∷ states) zero (suc k) d e are is = absurd is
path-nth (row ∷ base) (Kept ∷ states) (suc r) zero d e are is = absurd is
path-nth (row ∷ base) (Kept ∷ states) (suc r) (suc k) d e are is = path-nth base states r k d e are.1 is
path-nth (row ∷ base) (Replaced new ∷ states) zero zero d e are is = are.0
path-nth (row ∷ base) (Replaced new ∷ states) zero (suc k) d e are is = absurd is
path-nth (row ∷ base) (Replaced new ∷ states) (suc r) zero d e are is = absurd is
path-nth (row ∷ base) (Replaced new ∷ states) (suc r) (suc k) d e are is = path-nth base states r k d e are.1 is
path-nth (row ∷ base) (Gone ∷ states) r zero d e are is = absurd is
path-nth (row ∷ base) (Gone ∷ states) r (suc k) d e are is = path-nth base states r k d e are.1 is

pub live_rows-removed : (base : List File) (states : List RowState) (r k : ℕ) → AreStatesOf base states → IsNth states r k → live_rows base (set states k Gone) ≡ remove (live_rows base states) r
live_rows-removed [] [] r k are is = absurd is
live_rows-removed [] (state ∷ states) r k are is = absurd are
live_rows-removed (row ∷ base) [] r k are is = absurd are
live_rows-removed (row ∷ base) (Kept ∷ states) zero zero are is = refl
live_rows-removed (row ∷ base) (Kept ∷ states) zero (suc k) are is = absurd is
live_rows-removed (row ∷ base) (Kept ∷ states) (suc r) zero are is = absurd is
live_rows-removed (row ∷ base) (Kept ∷ states) (suc r) (suc k) are is =
    ap (λ (rest : List File). row ∷ rest) (live_rows-removed base states r k are.1 is)
live_rows-removed (row ∷ base) (Replaced new ∷ states) zero zero are is = refl
live_rows-removed (row ∷ base) (Replaced new ∷ states) zero (suc k) are is = absurd is
live_rows-removed (row ∷ base) (Replaced new ∷ states) (suc r) zero are is = absurd is
live_rows-removed (row ∷ base) (Replaced new ∷ states) (suc r) (suc k) are is =
    ap (λ (rest : List File). new ∷ rest) (live_rows-removed base states r k are.1 is)
live_rows-removed (row ∷ base) (Gone ∷ states) r zero are is = absurd is
live_rows-removed (row ∷ base) (Gone ∷ states) r (suc k) are is = live_rows-removed base states r k are.1 is

pub live_indices-removed : (first : ℕ) (states : List RowState) (r k : ℕ) → IsNth states r k → live_indices first (set states k Gone) ≡ remove (live_indices first states) r
live_indices-removed first [] r k is = absurd is
live_indices-removed first (Kept ∷ states) zero zero is = refl
live_indices-removed first (Kept ∷ states) zero (suc k) is = absurd is
live_indices-removed first (Kept ∷ states) (suc r) zero is = absurd is
live_indices-removed first (Kept ∷ states) (suc r) (suc k) is =
    ap (λ (rest : List ℕ). first ∷ rest) (live_indices-removed (first + 1) states r k is)
live_indices-removed first (Replaced new ∷ states) zero zero is = refl
live_indices-removed first (Replaced new ∷ states) zero (suc k) is = absurd is
live_indices-removed first (Replaced new ∷ states) (suc r) zero is = absurd is
live_indices-removed first (Replaced new ∷ states) (suc r) (suc k) is =
    ap (λ (rest : List ℕ). first ∷ rest) (live_indices-removed (first + 1) states r k is)
live_indices-removed first (Gone ∷ states) r zero is = absurd is
live_indices-removed first (Gone ∷ states) r (suc k) is = live_indices-removed (first + 1) states r k is

pub live_rows-replaced : (base : List File) (states : List RowState) (r k : ℕ) (by : File) → AreStatesOf base states → IsNth states r k
    → live_rows base (set states k (Replaced by)) ≡ set (live_rows base states) r by
live_rows-replaced [] [] r k by are is = absurd is
live_rows-replaced [] (state ∷ states) r k by are is = absurd are
live_rows-replaced (row ∷ base) [] r k by are is = absurd are
live_rows-replaced (row ∷ base) (Kept ∷ states) zero zero by are is = refl
live_rows-replaced (row ∷ base) (Kept ∷ states) zero (suc k) by are is = absurd is
live_rows-replaced (row ∷ base) (Kept ∷ states) (suc r) zero by are is = absurd is
live_rows-replaced (row ∷ base) (Kept ∷ states) (suc r) (suc k) by are is =
    ap (λ (rest : List File). row ∷ rest) (live_rows-replaced base states r k by are.1 is)
live_rows-replaced (row ∷ base) (Replaced new ∷ states) zero zero by are is = refl
live_rows-replaced (row ∷ base) (Replaced new ∷ states) zero (suc k) by are is = absurd is
live_rows-replaced (row ∷ base) (Replaced new ∷ states) (suc r) zero by are is = absurd is
live_rows-replaced (row ∷ base) (Replaced new ∷ states) (suc r) (suc k) by are is =
    ap (λ (rest : List File). new ∷ rest) (live_rows-replaced base states r k by are.1 is)
live_rows-replaced (row ∷ base) (Gone ∷ states) r zero by are is = absurd is
live_rows-replaced (row ∷ base) (Gone ∷ states) r (suc k) by are is = live_rows-replaced base states r k by are.1 is

pub live_indices-replaced : (first : ℕ) (states : List RowState) (r k : ℕ) (by : File) → IsNth states r k → live_indices first (set states k (Replaced by)) ≡ live_indices first states
live_indices-replaced first [] r k by is = absurd is
live_indices-replaced first (Kept ∷ states) zero zero by is = refl
live_indices-replaced first (Kept ∷ states) zero (suc k) by is = absurd is
live_indices-replaced first (Kept ∷ states) (suc r) zero by is = absurd is
live_indices-replaced first (Kept ∷ states) (suc r) (suc k) by is =
    ap (λ (rest : List ℕ). first ∷ rest) (live_indices-replaced (first + 1) states r k by is)
live_indices-replaced first (Replaced new ∷ states) zero zero by is = refl
live_indices-replaced first (Replaced new ∷ states) zero (suc k) by is = absurd is
live_indices-replaced first (Replaced new ∷ states) (suc r) zero by is = absurd is
live_indices-replaced first (Replaced new ∷ states) (suc r) (suc k) by is =
    ap (λ (rest : List ℕ). first ∷ rest) (live_indices-replaced (first + 1) states r k by is)
live_indices-replaced first (Gone ∷ states) r zero by is = absurd is
live_indices-replaced first (Gone ∷ states) r (suc k) by is = live_indices-replaced (first + 1) states r k by is

-- the indices that are kept are those of the rows that stand

pub live_count : (base : List File) (states : List RowState) (live : List ℕ) (now : List File) → AreStatesOf base states → live ≡ live_indices 0 states → live_rows base states ≡ now
    → length live ≡ length now
live_count base states live now are live_is now_is = ap length live_is ∙ (live_indices-length 0 base states are ∙ ap length now_is)

pub chosen : (base : List File) (states : List RowState) (live : List ℕ) (now : List File) (r k : ℕ) → AreStatesOf base states → live ≡ live_indices 0 states → live_rows base states ≡ now
    → r < length now → k ≡ get_or live r k → IsNth states r k
chosen base states live now r k are live_is now_is within is =
    let count = live_count base states live now are live_is now_is in
    let counted = ap length live_is in
    let found = is ∙ ap (λ (indices : List ℕ). get_or indices r k) live_is in
    nth 0 states r k k (omega arith) (omega arith)
