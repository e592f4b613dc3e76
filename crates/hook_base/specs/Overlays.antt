-- How a tree stores its rows: base rows, which other trees may share, one state for each of them, and the
-- rows that were added. This serves private functions alone: callers see the list of the rows.
use Rattle.std.specs.Prelude.{◌≡◌, ◌⊎◌, ℕ, zero, suc, ◌+◌, ◌-◌, ◌<◌, ◌≤◌, List, [], ◌∷◌, length, get_or, Option, None, Some}
use Rattle.hook_base.specs.declared.file.File.{File}
use Rattle.hook_base.specs.declared.file.FileEntry.{FileEntry}
use Rattle.hook_base.specs.declared.row_state.RowState.{RowState}
use Rattle.hook_base.specs.declared.row_state.RowState.TheVariants.{Kept, Replaced, Gone}
use Rattle.hook_base.specs.Rising.{IsBelow, IsBelowAll}
use Rattle.hook_base.specs.Trees.{entry_of, path_of, put_row}

-- the rows within a shared object, or none if there is no object
abbrev pub rows_within : {X : Type 0} → Option X → (X → List File) → List File
rows_within None rows_of = []
rows_within (Some shared) rows_of = rows_of shared

-- the row that the tree has for a base row; for one that is gone, the base row itself
abbrev pub row_by : File → RowState → File
row_by row Kept = row
row_by row (Replaced new) = new
row_by row Gone = row

abbrev pub standing_at : List File → List RowState → ℕ → Option File
standing_at [] states index = None
standing_at (row ∷ base) [] index = None
standing_at (row ∷ base) (state ∷ states) zero = Some (row_by row state)
standing_at (row ∷ base) (state ∷ states) (suc index) = standing_at base states index

-- a row that replaces another has its path
abbrev pub IsStateOf : File → RowState → Type 0
IsStateOf row Kept = Unit {0}
IsStateOf row (Replaced new) = new.path ≡ row.path
IsStateOf row Gone = Unit {0}

-- one state for each row
abbrev pub AreStatesOf : List File → List RowState → Type 0
AreStatesOf [] [] = Unit {0}
AreStatesOf [] (state ∷ states) = ⊥
AreStatesOf (row ∷ base) [] = ⊥
AreStatesOf (row ∷ base) (state ∷ states) = IsStateOf row state × AreStatesOf base states

abbrev pub all_kept : List File → List RowState
all_kept [] = []
all_kept (row ∷ base) = Kept ∷ all_kept base

abbrev pub live_onto : File → RowState → List File → List File
live_onto row Kept rows = row ∷ rows
live_onto row (Replaced new) rows = new ∷ rows
live_onto row Gone rows = rows

-- the rows that remain, in the order of the base
abbrev pub live_rows : List File → List RowState → List File
live_rows [] states = []
live_rows (row ∷ base) [] = []
live_rows (row ∷ base) (state ∷ states) = live_onto row state (live_rows base states)

abbrev pub index_onto : ℕ → RowState → List ℕ → List ℕ
index_onto index Kept indices = index ∷ indices
index_onto index (Replaced new) indices = index ∷ indices
index_onto index Gone indices = indices

-- the indices of the rows that remain; `first` is the index of the first state
abbrev pub live_indices : ℕ → List RowState → List ℕ
live_indices first [] = []
live_indices first (state ∷ states) = index_onto first state (live_indices (first + 1) states)

-- there are at least this many rows, and the first ones, this many, come before the path
abbrev pub UpTo : List ℕ → List File → ℕ → Type 0
UpTo path rows zero = Unit {0}
UpTo path [] (suc n) = ⊥
UpTo path (row ∷ rows) (suc n) = IsBelow row.path path × UpTo path rows n

-- the rows from this index on come after the path
abbrev pub From : List ℕ → List File → ℕ → Type 0
From path rows zero = IsBelowAll path_of path rows
From path [] (suc n) = Unit {0}
From path (row ∷ rows) (suc n) = From path rows n

-- the rows with each of the added rows inserted
abbrev pub put_rows : List File → List File → List File
put_rows [] rows = rows
put_rows (new ∷ added) rows = put_rows added (put_row new rows)

-- no path has a row in both lists
pub record AreApart (added rows : List File) : Type 0 where
  pub one_only : (path : List ℕ) → (entry_of path added ≡ None) ⊎ (entry_of path rows ≡ None)

-- how two lists merge: the first `index` rows of the merged list are `before` added rows, and base rows
-- otherwise. Each of these comes before the next row of the other list
pub record IsSplit (added rows : List File) (index before : ℕ) : Type 0 where
  pub counted : before ≤ index
  pub of_added : before ≤ length added
  pub of_rows : index ≤ before + length rows
  pub added_first : (next : File) → index < before + length rows
      → UpTo (get_or rows (index - before) next).path added before
  pub rows_first : (next : File) → before < length added → UpTo (get_or added before next).path rows (index - before)

-- the row made of a path and the file there
abbrev pub row_found : List ℕ → Option FileEntry → Option File
row_found path None = None
row_found path (Some entry) = Some (record { path = path; entry = entry })
