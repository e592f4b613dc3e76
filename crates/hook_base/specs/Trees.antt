-- A tree of files as the list of its rows in the order of their paths, and the effect of changes on it.
use Rattle.std.specs.Prelude.{◌≡◌, ℕ, if◌then◌else◌, List, [], ◌∷◌, ◌++◌, Option, None, Some}
use Rattle.std.specs.declared.cmp.Ordering.{Ordering}
use Rattle.std.specs.declared.cmp.Ordering.TheVariants.{Less, Equal, Greater}
use Rattle.std.specs.Str.{bytes_eq}
use Rattle.hook_base.specs.declared.file.File.{File}
use Rattle.hook_base.specs.declared.file.FileEntry.{FileEntry}
use Rattle.hook_base.specs.declared.change.Change.{Change}
use Rattle.hook_base.specs.Rising.{IsRisingBy, path_cmp}

abbrev pub path_of : File → List ℕ
path_of row = row.path

-- the rows are in the order of their paths, and no path occurs twice
abbrev pub IsRising : List File → Type 0
IsRising = IsRisingBy path_of

-- the changes are in the order of their paths, at most one for each path
abbrev pub IsRisingChanges : List Change → Type 0
IsRisingChanges = IsRisingBy (λ change. change.path)

-- what the tree has at a path
abbrev pub entry_of : List ℕ → List File → Option FileEntry
entry_of path [] = None
entry_of path (row ∷ rows) = if bytes_eq path row.path then Some row.entry else entry_of path rows

-- the rows of the other paths
abbrev pub remove_file : List ℕ → List File → List File
remove_file path [] = []
remove_file path (row ∷ rows) = if bytes_eq path row.path then remove_file path rows else row ∷ remove_file path rows

abbrev pub put_before : Ordering → File → File → List File → List File → List File
put_before Less new row rows put = new ∷ row ∷ rows
put_before Equal new row rows put = new ∷ rows
put_before Greater new row rows put = row ∷ put

-- the rows with this one at its place in the order, instead of the one with its path
abbrev pub put_row : File → List File → List File
put_row new [] = new ∷ []
put_row new (row ∷ rows) = put_before (path_cmp new.path row.path) new row rows (put_row new rows)

abbrev pub put_file : List ℕ → FileEntry → List File → List File
put_file path entry rows = put_row (record { path = path; entry = entry }) rows

-- the rows with what another tree has at a path, if it has anything there
abbrev pub put_found : List ℕ → Option FileEntry → List File → List File
put_found path None rows = rows
put_found path (Some entry) rows = put_file path entry rows

-- the row with other bytes: its path and mode stay
abbrev pub with_bytes : List ℕ → File → File
with_bytes bytes row = record { path = row.path; entry = record { mode = row.entry.mode; bytes = bytes } }

-- the rows with other bytes at a path, if it has a row
abbrev pub rewrite_file : List ℕ → List ℕ → List File → List File
rewrite_file path bytes [] = []
rewrite_file path bytes (row ∷ rows) =
    (if bytes_eq path row.path then with_bytes bytes row else row) ∷ rewrite_file path bytes rows

abbrev pub apply_at : List ℕ → Option (List ℕ) → List File → List File
apply_at path None rows = remove_file path rows
apply_at path (Some bytes) rows = rewrite_file path bytes rows

-- a change of a path that the tree lacks has no effect
abbrev pub apply_change : Change → List File → List File
apply_change change rows = apply_at change.path change.now rows

-- all changes in order, each applied to the result of the earlier ones
abbrev pub apply_changes : List Change → List File → List File
apply_changes [] rows = rows
apply_changes (change ∷ changes) rows = apply_changes changes (apply_change change rows)

abbrev pub change_to : File → Option FileEntry → List Change
change_to row None = record { path = row.path; now = None } ∷ []
change_to row (Some entry) =
    if bytes_eq row.entry.bytes entry.bytes then [] else (record { path = row.path; now = Some entry.bytes } ∷ [])

-- for each path of the first tree, in order: its bytes in the second if they differ, or that it is gone.
-- Modes don't count
abbrev pub changes_between : List File → List File → List Change
changes_between [] after = []
changes_between (row ∷ rows) after = change_to row (entry_of row.path after) ++ changes_between rows after

-- whatever `part` has at a path, `tree` has there too
pub record IsPartOf (part tree : List File) : Type 0 where
  pub held : (path : List ℕ) (entry : FileEntry) → entry_of path part ≡ Some entry → entry_of path tree ≡ Some entry
