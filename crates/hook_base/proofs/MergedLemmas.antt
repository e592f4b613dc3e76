-- Rows with rows added to them: what stands at a path and at an index, and how each edit of the one or the other shows.
use Rattle.std.proofs.Common.{◌≡◌, ◌∙◌, ◌⊎◌, ℕ, zero, suc, ◌+◌, List, [], ◌∷◌, length, get_or, Bool, true, false, Option, None, Some, ap, sym, subst, refl, inl, inr, arith}
use Rattle.std.specs.Prelude.{is_some, slice_get, if◌then◌else◌}
use Rattle.std.specs.Str.{bytes_eq}
use Rattle.std.specs.Cmp.Lexicographic.{bytes_decides}
use Rattle.hook_base.specs.declared.file.File.{File}
use Rattle.hook_base.specs.declared.file.FileEntry.{FileEntry}
use Rattle.hook_base.specs.Overlays.{AreApart, put_rows, row_found}
use Rattle.hook_base.specs.Places.{IsAt, IsGap}
use Rattle.hook_base.specs.Rising.{IsBelow, IsBelowAll}
use Rattle.hook_base.specs.RisingLemmas.{IsBelow-trans, above_differs, bytes_same, greater_from_below, path_cases, path_itself}
use Rattle.hook_base.specs.TreeLemmas.{IsRising-put_row, IsRising-remove_file, entry_of-at, entry_of-gap, entry_of-later, path-at, same_rows}
use Rattle.hook_base.specs.Trees.{IsRising, entry_of, path_of, put_found, put_row, remove_file}
use Rattle.hook_base.proofs.OverlayLemmas.{none_some}

-- what stands at a path after each edit

same_differ : (p q r : List ℕ) → bytes_eq p q ≡ false → r ≡ q → bytes_eq p r ≡ false
same_differ p q r differ same = subst (λ (s : List ℕ). bytes_eq p s ≡ false) (sym same) differ

pub entry_of-put_here : (path : List ℕ) (new : File) (rows : List File) → path ≡ new.path → entry_of path (put_row new rows) ≡ Some new.entry
entry_of-put_here path new [] here = rw (bytes_same path new.path here)
entry_of-put_here path new (row ∷ rows) here =
    elim (path_cases new.path row.path) [
      | inl (inl below) ↦ rw below.is_less (rw (bytes_same path new.path here))
      | inl (inr same) ↦ rw (path_itself new.path row.path same) (rw (bytes_same path new.path here))
      | inr above ↦ rw (greater_from_below row.path new.path above) (rw (above_differs path row.path (subst (λ (p : List ℕ). IsBelow row.path p) (sym here) above))
          (entry_of-put_here path new rows here))
    ]

pub entry_of-put_other : (path : List ℕ) (new : File) (rows : List File) → bytes_eq path new.path ≡ false → entry_of path (put_row new rows) ≡ entry_of path rows
entry_of-put_other path new [] other = rw other
entry_of-put_other path new (row ∷ rows) other =
    elim (path_cases new.path row.path) [
      | inl (inl below) ↦ rw below.is_less (rw other)
      | inl (inr same) ↦ rw (path_itself new.path row.path same) (rw other (rw (same_differ path new.path row.path other (sym same))))
      | inr above ↦ rw (greater_from_below row.path new.path above) (ap (λ (rest : Option FileEntry). if bytes_eq path row.path then Some row.entry else rest) (entry_of-put_other path new rows other))
    ]

pub entry_of-removed : (path : List ℕ) (rows : List File) → entry_of path (remove_file path rows) ≡ None
entry_of-removed path [] = refl
entry_of-removed path (row ∷ rows) =
    elim (bytes_eq path row.path) as (λ (b : Bool). bytes_eq path row.path ≡ b → entry_of path (if b then remove_file path rows else row ∷ remove_file path rows) ≡ None) [
      | true ↦ λ here. entry_of-removed path rows
      | false ↦ λ other. rw other (entry_of-removed path rows)
    ] refl

pub entry_of-remove_other : (path from : List ℕ) (rows : List File) → bytes_eq path from ≡ false → entry_of path (remove_file from rows) ≡ entry_of path rows
entry_of-remove_other path from [] other = refl
entry_of-remove_other path from (row ∷ rows) other =
    elim (bytes_eq from row.path) as (λ (b : Bool). bytes_eq from row.path ≡ b → entry_of path (if b then remove_file from rows else row ∷ remove_file from rows) ≡ entry_of path (row ∷ rows)) [
      | true ↦ λ here. rw (same_differ path from row.path other (sym ((bytes_decides from row.path).0 here))) (entry_of-remove_other path from rows other)
      | false ↦ λ apart. ap (λ (rest : Option FileEntry). if bytes_eq path row.path then Some row.entry else rest) (entry_of-remove_other path from rows other)
    ] refl

-- what stands at a path among rows with rows added to them

abbrev pub or_entry : Option FileEntry → Option FileEntry → Option FileEntry
or_entry None other = other
or_entry (Some entry) other = Some entry

or_none : (there : Option FileEntry) → or_entry there None ≡ there
or_none None = refl
or_none (Some entry) = refl

later_at : (path : List ℕ) (new : File) (added : List File) → path ≡ new.path → IsBelowAll path_of new.path added → entry_of path added ≡ None
later_at path new added here later =
    entry_of-later path added (subst (λ (p : List ℕ). IsBelowAll path_of p added) (sym here) later)

pub entry_of-put_rows : (path : List ℕ) (added rows : List File) → IsRising added → entry_of path (put_rows added rows) ≡ or_entry (entry_of path added) (entry_of path rows)
entry_of-put_rows path [] rows rising = refl
entry_of-put_rows path (new ∷ added) rows rising =
    entry_of-put_rows path added (put_row new rows) rising.1 ∙ (elim (bytes_eq path new.path) as (λ (b : Bool). bytes_eq path new.path ≡ b
    → or_entry (entry_of path added) (entry_of path (put_row new rows)) ≡ or_entry (if b then Some new.entry else entry_of path added) (entry_of path rows)) [
      | true ↦ λ same. let here = (bytes_decides path new.path).0 same in rw (later_at path new added here rising.0) (entry_of-put_here path new rows here)
      | false ↦ λ other. rw (entry_of-put_other path new rows other)
    ] refl)

pub IsRising-put_rows : (added rows : List File) → IsRising rows → IsRising (put_rows added rows)
IsRising-put_rows [] rows rising = rising
IsRising-put_rows (new ∷ added) rows rising = IsRising-put_rows added (put_row new rows) (IsRising-put_row new rows rising)

pub put_rows-none : (added : List File) → IsRising added → put_rows added [] ≡ added
put_rows-none added rising =
    same_rows (put_rows added []) added (IsRising-put_rows added [] tt) rising (λ path. entry_of-put_rows path added [] rising ∙ or_none (entry_of path added))

-- an edit of the one or the other is the same edit of all rows

at_path : (P : Type 0) (path from : List ℕ) → (path ≡ from → P) → (bytes_eq path from ≡ false → P) → P
at_path P path from here other =
    elim (bytes_eq path from) as (λ (b : Bool). bytes_eq path from ≡ b → P) [ true ↦ λ same. here ((bytes_decides path from).0 same) | false ↦ λ differ. other differ ] refl

absent_here : (path from : List ℕ) (rows : List File) → path ≡ from → entry_of from rows ≡ None → entry_of path rows ≡ None
absent_here path from rows here absent = subst (λ (p : List ℕ). entry_of p rows ≡ None) (sym here) absent

pub put_row-rows : (new : File) (added rows : List File) → IsRising added → IsRising rows → entry_of new.path added ≡ None → put_rows added (put_row new rows) ≡ put_row new (put_rows added rows)
put_row-rows new added rows up rising absent =
    same_rows (put_rows added (put_row new rows)) (put_row new (put_rows added rows)) (IsRising-put_rows added (put_row new rows) (IsRising-put_row new rows rising))
    (IsRising-put_row new (put_rows added rows) (IsRising-put_rows added rows rising)) (λ path.
    entry_of-put_rows path added (put_row new rows) up ∙ at_path (or_entry (entry_of path added) (entry_of path (put_row new rows)) ≡ entry_of path (put_row new (put_rows added rows))) path new.path
    (λ here. rw (absent_here path new.path added here absent) (entry_of-put_here path new rows here ∙ sym (entry_of-put_here path new (put_rows added rows) here)))
    (λ other. rw (entry_of-put_other path new rows other) (sym (entry_of-put_other path new (put_rows added rows) other ∙ entry_of-put_rows path added rows up))))

pub put_row-added : (new : File) (added rows : List File) → IsRising added → IsRising rows → put_rows (put_row new added) rows ≡ put_row new (put_rows added rows)
put_row-added new added rows up rising =
    same_rows (put_rows (put_row new added) rows) (put_row new (put_rows added rows)) (IsRising-put_rows (put_row new added) rows rising)
    (IsRising-put_row new (put_rows added rows) (IsRising-put_rows added rows rising)) (λ path.
    entry_of-put_rows path (put_row new added) rows (IsRising-put_row new added up)
    ∙ at_path (or_entry (entry_of path (put_row new added)) (entry_of path rows) ≡ entry_of path (put_row new (put_rows added rows))) path new.path
    (λ here. rw (entry_of-put_here path new added here) (sym (entry_of-put_here path new (put_rows added rows) here)))
    (λ other. rw (entry_of-put_other path new added other) (sym (entry_of-put_other path new (put_rows added rows) other ∙ entry_of-put_rows path added rows up))))

pub remove_file-rows : (from : List ℕ) (added rows : List File) → IsRising added → IsRising rows → entry_of from added ≡ None
    → put_rows added (remove_file from rows) ≡ remove_file from (put_rows added rows)
remove_file-rows from added rows up rising absent =
    same_rows (put_rows added (remove_file from rows)) (remove_file from (put_rows added rows)) (IsRising-put_rows added (remove_file from rows) (IsRising-remove_file from rows rising))
    (IsRising-remove_file from (put_rows added rows) (IsRising-put_rows added rows rising)) (λ path.
    entry_of-put_rows path added (remove_file from rows) up ∙ at_path (or_entry (entry_of path added) (entry_of path (remove_file from rows)) ≡ entry_of path (remove_file from (put_rows added rows)))
    path from
    (λ here. rw (absent_here path from added here absent) (absent_here path from (remove_file from rows) here (entry_of-removed from rows)
    ∙ sym (absent_here path from (remove_file from (put_rows added rows)) here (entry_of-removed from (put_rows added rows)))))
    (λ other. rw (entry_of-remove_other path from rows other) (sym (entry_of-remove_other path from (put_rows added rows) other ∙ entry_of-put_rows path added rows up))))

pub remove_file-added : (from : List ℕ) (added rows : List File) → IsRising added → IsRising rows → entry_of from rows ≡ None
    → put_rows (remove_file from added) rows ≡ remove_file from (put_rows added rows)
remove_file-added from added rows up rising absent =
    same_rows (put_rows (remove_file from added) rows) (remove_file from (put_rows added rows)) (IsRising-put_rows (remove_file from added) rows rising)
    (IsRising-remove_file from (put_rows added rows) (IsRising-put_rows added rows rising)) (λ path.
    entry_of-put_rows path (remove_file from added) rows (IsRising-remove_file from added up)
    ∙ at_path (or_entry (entry_of path (remove_file from added)) (entry_of path rows) ≡ entry_of path (remove_file from (put_rows added rows))) path from
    (λ here. rw (absent_here path from (remove_file from added) here (entry_of-removed from added))
    (absent_here path from rows here absent ∙ sym (absent_here path from (remove_file from (put_rows added rows)) here (entry_of-removed from (put_rows added rows)))))
    (λ other. rw (entry_of-remove_other path from added other) (sym (entry_of-remove_other path from (put_rows added rows) other ∙ entry_of-put_rows path added rows up))))

-- no path has a row in both

pub apart_none : (rows : List File) → AreApart [] rows
apart_none rows = record { one_only = λ path. inl refl }

pub apart_new : (added : List File) → AreApart added []
apart_new added = record { one_only = λ path. inr refl }

-- where the rows have a path, the added rows have not, and the other way round
pub apart_added : (path : List ℕ) (entry : FileEntry) (added rows : List File) → AreApart added rows → entry_of path rows ≡ Some entry → entry_of path added ≡ None
apart_added path entry added rows apart there =
    elim (apart.one_only path) [ inl none ↦ none | inr none ↦ absurd (none_some entry (entry_of path rows) none there) ]

pub apart_rows : (path : List ℕ) (entry : FileEntry) (added rows : List File) → AreApart added rows → entry_of path added ≡ Some entry → entry_of path rows ≡ None
apart_rows path entry added rows apart there =
    elim (apart.one_only path) [ inl none ↦ absurd (none_some entry (entry_of path added) none there) | inr none ↦ none ]

pub apart-put_rows : (new : File) (added rows : List File) → AreApart added rows → entry_of new.path added ≡ None → AreApart added (put_row new rows)
apart-put_rows new added rows apart absent = record {
  one_only = λ path. at_path ((entry_of path added ≡ None) ⊎ (entry_of path (put_row new rows) ≡ None)) path new.path
      (λ here. inl (absent_here path new.path added here absent))
      (λ other. elim (apart.one_only path) [ inl none ↦ inl none | inr none ↦ inr (entry_of-put_other path new rows other ∙ none) ]);
}

pub apart-put_added : (new : File) (added rows : List File) → AreApart added rows → entry_of new.path rows ≡ None → AreApart (put_row new added) rows
apart-put_added new added rows apart absent = record {
  one_only = λ path. at_path ((entry_of path (put_row new added) ≡ None) ⊎ (entry_of path rows ≡ None)) path new.path
      (λ here. inr (absent_here path new.path rows here absent))
      (λ other. elim (apart.one_only path) [ inl none ↦ inl (entry_of-put_other path new added other ∙ none) | inr none ↦ inr none ]);
}

pub apart-remove_rows : (from : List ℕ) (added rows : List File) → AreApart added rows → AreApart added (remove_file from rows)
apart-remove_rows from added rows apart = record {
  one_only = λ path. at_path ((entry_of path added ≡ None) ⊎ (entry_of path (remove_file from rows) ≡ None)) path from
      (λ here. inr (absent_here path from (remove_file from rows) here (entry_of-removed from rows)))
      (λ other. elim (apart.one_only path) [ inl none ↦ inl none | inr none ↦ inr (entry_of-remove_other path from rows other ∙ none) ]);
}

pub apart-remove_added : (from : List ℕ) (added rows : List File) → AreApart added rows → AreApart (remove_file from added) rows
apart-remove_added from added rows apart = record {
  one_only = λ path. at_path ((entry_of path (remove_file from added) ≡ None) ⊎ (entry_of path rows ≡ None)) path from
      (λ here. inl (absent_here path from (remove_file from added) here (entry_of-removed from added)))
      (λ other. elim (apart.one_only path) [ inl none ↦ inl (entry_of-remove_other path from added other ∙ none) | inr none ↦ inr none ]);
}

-- once the first of the added rows is put, the others are apart still
apart_rest : (new : File) (added rows : List File) → IsRising (new ∷ added) → AreApart (new ∷ added) rows → AreApart added (put_row new rows)
apart_rest new added rows rising apart = record {
  one_only = λ path. at_path ((entry_of path added ≡ None) ⊎ (entry_of path (put_row new rows) ≡ None)) path new.path
      (λ here. inl (later_at path new added here rising.0))
      (λ other. elim (apart.one_only path) [ inl none ↦ inl (rw other at none) | inr none ↦ inr (entry_of-put_other path new rows other ∙ none) ]);
}

first_absent : (new : File) (added rows : List File) → AreApart (new ∷ added) rows → entry_of new.path rows ≡ None
first_absent new added rows apart = apart_rows new.path new.entry (new ∷ added) rows apart (rw (bytes_same new.path new.path refl))

-- how many there are

length-put_absent : (new : File) (rows : List File) → entry_of new.path rows ≡ None → length (put_row new rows) ≡ suc (length rows)
length-put_absent new [] absent = refl
length-put_absent new (row ∷ rows) absent =
    elim (path_cases new.path row.path) [
      | inl (inl below) ↦ rw below.is_less refl
      | inl (inr same) ↦ absurd (none_some row.entry (entry_of new.path (row ∷ rows)) absent (rw (bytes_same new.path row.path same)))
      | inr above ↦ rw (greater_from_below row.path new.path above) (ap suc (length-put_absent new rows (sym (rw (above_differs new.path row.path above)) ∙ absent)))
    ]

pub length-put_rows : (added rows : List File) → IsRising added → AreApart added rows → length (put_rows added rows) ≡ length added + length rows
length-put_rows [] rows rising apart = omega arith
length-put_rows (new ∷ added) rows rising apart =
    let rest = length-put_rows added (put_row new rows) rising.1 (apart_rest new added rows rising apart) in
    let put = length-put_absent new rows (first_absent new added rows apart) in
    omega arith

-- where a row stands

absent_apart : (row new : File) (rows : List File) → entry_of new.path (row ∷ rows) ≡ None → new.path ≡ row.path → ⊥
absent_apart row new rows absent same =
    none_some row.entry (entry_of new.path (row ∷ rows)) absent (rw (bytes_same new.path row.path same))

absent_rest : (row new : File) (rows : List File) → entry_of new.path (row ∷ rows) ≡ None → IsBelow row.path new.path → entry_of new.path rows ≡ None
absent_rest row new rows absent above = sym (rw (above_differs new.path row.path above)) ∙ absent

-- a row that is put after the path leaves its place
at-put_above : (path : List ℕ) (new : File) (rows : List File) (k : ℕ) → IsAt path rows k → IsBelow path new.path → IsAt path (put_row new rows) k
at-put_above path new [] k at above = absurd at
at-put_above path new (row ∷ rows) zero at above =
    rw (greater_from_below row.path new.path (subst (λ (p : List ℕ). IsBelow p new.path) at above)) at
at-put_above path new (row ∷ rows) (suc k) at above =
    rw (greater_from_below row.path new.path (IsBelow-trans row.path path new.path at.0 above)) (at.0, at-put_above path new rows k at.1 above)

-- one that is put before it moves it by one
at-put_below : (path : List ℕ) (new : File) (rows : List File) (k : ℕ) → IsAt path rows k → IsBelow new.path path → entry_of new.path rows ≡ None → IsAt path (put_row new rows) (suc k)
at-put_below path new [] k at below absent = absurd at
at-put_below path new (row ∷ rows) zero at below absent =
    let first = subst (λ (p : List ℕ). IsBelow new.path p) at below in rw first.is_less (below, at)
at-put_below path new (row ∷ rows) (suc k) at below absent =
    elim (path_cases new.path row.path) [
      | inl (inl before) ↦ rw before.is_less (below, at)
      | inl (inr same) ↦ absurd (absent_apart row new rows absent same)
      | inr above ↦ rw (greater_from_below row.path new.path above) (at.0, at-put_below path new rows k at.1 below (absent_rest row new rows absent above))
    ]

gap-put_below : (path : List ℕ) (new : File) (rows : List File) (k : ℕ) → IsGap path rows k → IsBelow new.path path → entry_of new.path rows ≡ None → IsGap path (put_row new rows) (suc k)
gap-put_below path new [] zero gap below absent = (below, tt)
gap-put_below path new [] (suc k) gap below absent = absurd gap
gap-put_below path new (row ∷ rows) zero gap below absent =
    let first = IsBelow-trans new.path path row.path below gap.0 in rw first.is_less (below, gap)
gap-put_below path new (row ∷ rows) (suc k) gap below absent =
    elim (path_cases new.path row.path) [
      | inl (inl before) ↦ rw before.is_less (below, gap)
      | inl (inr same) ↦ absurd (absent_apart row new rows absent same)
      | inr above ↦ rw (greater_from_below row.path new.path above) (gap.0, gap-put_below path new rows k gap.1 below (absent_rest row new rows absent above))
    ]

at-put_here : (new : File) (rows : List File) (k : ℕ) → IsGap new.path rows k → IsAt new.path (put_row new rows) k
at-put_here new [] zero gap = refl
at-put_here new [] (suc k) gap = absurd gap
at-put_here new (row ∷ rows) zero gap = rw gap.0.is_less refl
at-put_here new (row ∷ rows) (suc k) gap = rw (greater_from_below row.path new.path gap.0) (gap.0, at-put_here new rows k gap.1)

at-put_rows_above : (path : List ℕ) (added rows : List File) (k : ℕ) → IsBelowAll path_of path added → IsAt path rows k → IsAt path (put_rows added rows) k
at-put_rows_above path [] rows k above at = at
at-put_rows_above path (new ∷ added) rows k above at =
    at-put_rows_above path added (put_row new rows) k above.1 (at-put_above path new rows k at above.0)

-- an added row stands after the added rows and the rows that come before it
at-added : (path : List ℕ) (added rows : List File) (a b n : ℕ) → n ≡ a + b → IsRising added → AreApart added rows → IsAt path added a → IsGap path rows b → IsAt path (put_rows added rows) n
at-added path [] rows a b n is rising apart at gap = absurd at
at-added path (new ∷ added) rows zero b n is rising apart at gap =
    let there = at-put_here new rows b (subst (λ (p : List ℕ). IsGap p rows b) at gap) in
    let here = subst (λ (p : List ℕ). IsAt p (put_row new rows) b) (sym at) there in
    let above = subst (λ (p : List ℕ). IsBelowAll path_of p added) (sym at) rising.0 in
    let same : b ≡ n = omega arith in
    subst (λ (k : ℕ). IsAt path (put_rows added (put_row new rows)) k) same (at-put_rows_above path added (put_row new rows) b above here)
at-added path (new ∷ added) rows (suc a) b n is rising apart at gap =
    at-added path added (put_row new rows) a (suc b) n (omega arith) rising.1 (apart_rest new added rows rising apart) at.1 (gap-put_below path new rows b gap at.0 (first_absent new added rows apart))

at-rows : (path : List ℕ) (added rows : List File) (a b n : ℕ) → n ≡ a + b → IsRising added → AreApart added rows → IsGap path added a → IsAt path rows b → IsAt path (put_rows added rows) n
at-rows path added rows zero b n is rising apart gap at =
    let same : b ≡ n = omega arith in
    subst (λ (k : ℕ). IsAt path (put_rows added rows) k) same (at-put_rows_above path added rows b gap at)
at-rows path [] rows (suc a) b n is rising apart gap at = absurd gap
at-rows path (new ∷ added) rows (suc a) b n is rising apart gap at =
    at-rows path added (put_row new rows) a (suc b) n (omega arith) rising.1 (apart_rest new added rows rising apart) gap.1 (at-put_below path new rows b at gap.0 (first_absent new added rows apart))

with_entry : (p q : List ℕ) (x y : FileEntry) → p ≡ q → x ≡ y → row_found p (Some x) ≡ row_found q (Some y)
with_entry p q x y path entry = cc

-- the row of a path is the one at its place
read-at : (path : List ℕ) (rows : List File) (k : ℕ) (row : File) → IsAt path rows k → entry_of path rows ≡ Some row.entry → path ≡ row.path → slice_get rows k ≡ Some row
read-at path [] k row at there here = absurd at
read-at path (first ∷ rows) zero row at there here =
    let found : Some first.entry ≡ Some row.entry = sym (rw (bytes_same path first.path at)) ∙ there in
    let entry : first.entry ≡ row.entry = cc in
    with_entry first.path row.path first.entry row.entry (sym at ∙ here) entry
read-at path (first ∷ rows) (suc k) row at there here =
    read-at path rows k row at.1 (sym (rw (above_differs path first.path at.0)) ∙ there) here

pub read_added : (added rows : List File) (a b n : ℕ) (row : File) → n ≡ a + b → IsRising added → AreApart added rows → IsAt row.path added a → IsGap row.path rows b → get_or added a row ≡ row
    → slice_get (put_rows added rows) n ≡ Some row
read_added added rows a b n row is rising apart at gap stood =
    let there = entry_of-at row.path added a row at ∙ ap (λ (stood : File). Some stood.entry) stood in
    read-at row.path (put_rows added rows) n row (at-added row.path added rows a b n is rising apart at gap)
    (entry_of-put_rows row.path added rows rising ∙ ap (λ (found : Option FileEntry). or_entry found (entry_of row.path rows)) there) refl

pub read_rows : (added rows : List File) (a b n : ℕ) (row : File) → n ≡ a + b → IsRising added → AreApart added rows → IsGap row.path added a → IsAt row.path rows b → get_or rows b row ≡ row
    → slice_get (put_rows added rows) n ≡ Some row
read_rows added rows a b n row is rising apart gap at stood =
    let there = entry_of-at row.path rows b row at ∙ ap (λ (stood : File). Some stood.entry) stood in
    read-at row.path (put_rows added rows) n row (at-rows row.path added rows a b n is rising apart gap at)
    (entry_of-put_rows row.path added rows rising ∙ (ap (λ (found : Option FileEntry). or_entry found (entry_of row.path rows)) (entry_of-gap row.path added a gap) ∙ there)) refl

pub rising_now : (added rows now : List File) → IsRising rows → put_rows added rows ≡ now → IsRising now
rising_now added rows now rising is = subst IsRising is (IsRising-put_rows added rows rising)

-- the rows of paths that the rows lack

is_some-at : (path : List ℕ) (rows : List File) (k : ℕ) → IsAt path rows k → is_some (entry_of path rows) ≡ true
is_some-at path [] k at = absurd at
is_some-at path (row ∷ rows) zero at = rw (bytes_same path row.path at)
is_some-at path (row ∷ rows) (suc k) at = rw (above_differs path row.path at.0) (is_some-at path rows k at.1)

none_is_some : (there : Option FileEntry) → there ≡ None → is_some there ≡ true → ⊥
none_is_some there none some = cc

pub absent_at : (path : List ℕ) (added rows : List File) (k : ℕ) → AreApart added rows → IsAt path rows k → entry_of path added ≡ None
absent_at path added rows k apart at =
    elim (apart.one_only path) [ inl none ↦ none | inr none ↦ absurd (none_is_some (entry_of path rows) none (is_some-at path rows k at)) ]

pub held_in_rows : (path : List ℕ) (added rows : List File) (k : ℕ) → IsRising added → AreApart added rows → IsAt path rows k → is_some (entry_of path (put_rows added rows)) ≡ true
held_in_rows path added rows k rising apart at =
    ap is_some (entry_of-put_rows path added rows rising ∙ ap (λ (found : Option FileEntry). or_entry found (entry_of path rows)) (absent_at path added rows k apart at)) ∙ is_some-at path rows k at

pub held_in_added : (path : List ℕ) (added rows : List File) → IsRising added → entry_of path rows ≡ None → entry_of path (put_rows added rows) ≡ entry_of path added
held_in_added path added rows rising absent =
    entry_of-put_rows path added rows rising ∙ (ap (λ (there : Option FileEntry). or_entry (entry_of path added) there) absent ∙ or_none (entry_of path added))

-- what is found at a path

pub found_none : (path : List ℕ) (there : Option FileEntry) → None ≡ row_found path there → there ≡ None
found_none path None is = refl
found_none path (Some entry) is = absurd (cc)

pub found_some : (path : List ℕ) (there : Option FileEntry) (row : File) → Some row ≡ row_found path there → there ≡ Some row.entry
found_some path None row is = absurd (cc)
found_some path (Some entry) row is = let same : row ≡ record { path = path; entry = entry } = cc in ap (λ (stood : File). Some stood.entry) (sym same)

pub found_put : (path : List ℕ) (there : Option FileEntry) (row : File) (rows : List File) → Some row ≡ row_found path there → put_found path there rows ≡ put_row row rows
found_put path None row rows is = absurd (cc)
found_put path (Some entry) row rows is = let same : row ≡ record { path = path; entry = entry } = cc in ap (λ (stood : File). put_row stood rows) (sym same)

row_is : (path : List ℕ) (row : File) → path ≡ row.path → Some row ≡ row_found path (Some row.entry)
row_is path row here = ap (λ (p : List ℕ). row_found p (Some row.entry)) (sym here)

pub found_in_added : (path : List ℕ) (added rows : List File) (k : ℕ) (row : File) → IsRising added → IsAt path added k → get_or added k row ≡ row
    → Some row ≡ row_found path (entry_of path (put_rows added rows))
found_in_added path added rows k row rising at stood =
    let here = path-at path added k row at ∙ ap path_of stood in
    let there = entry_of-at path added k row at ∙ ap (λ (stood : File). Some stood.entry) stood in
    row_is path row here ∙ ap (row_found path) (sym (entry_of-put_rows path added rows rising ∙ ap (λ (found : Option FileEntry). or_entry found (entry_of path rows)) there))

pub found_in_rows : (path : List ℕ) (added rows : List File) (a k : ℕ) (row : File) → IsRising added → IsGap path added a → IsAt path rows k → get_or rows k row ≡ row
    → Some row ≡ row_found path (entry_of path (put_rows added rows))
found_in_rows path added rows a k row rising gap at stood =
    let here = path-at path rows k row at ∙ ap path_of stood in
    let there = entry_of-at path rows k row at ∙ ap (λ (stood : File). Some stood.entry) stood in
    row_is path row here ∙ ap (row_found path) (sym (entry_of-put_rows path added rows rising
    ∙ (ap (λ (found : Option FileEntry). or_entry found (entry_of path rows)) (entry_of-gap path added a gap) ∙ there)))

pub found_nowhere : (path : List ℕ) (added rows : List File) (a k : ℕ) → IsRising added → IsGap path added a → IsGap path rows k → entry_of path (put_rows added rows) ≡ None
found_nowhere path added rows a k rising first second =
    entry_of-put_rows path added rows rising ∙ (ap (λ (found : Option FileEntry). or_entry found (entry_of path rows)) (entry_of-gap path added a first) ∙ entry_of-gap path rows k second)
