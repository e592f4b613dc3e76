-- How a tree differs from an older one, if some files have changed or are gone. Only private functions use
-- this.
use Rattle.std.specs.Prelude.{◌≡◌, ℕ, Bool, false, List, [], ◌∷◌, map, Option, None, Some}
use Rattle.std.specs.declared.cmp.Ordering.{Ordering}
use Rattle.std.specs.declared.cmp.Ordering.TheVariants.{Greater}
use Rattle.std.specs.List.{list_any}
use Rattle.std.specs.Str.{bytes_eq}
use Rattle.hook_base.specs.declared.change.Change.{Change}
use Rattle.hook_base.specs.declared.file.File.{File}
use Rattle.hook_base.specs.declared.file.FileEntry.{FileEntry}
use Rattle.hook_base.specs.Rising.{path_cmp}
use Rattle.hook_base.specs.Trees.{entry_of}

abbrev pub is_among : List (List ℕ) → List ℕ → Bool
is_among paths path = list_any (λ other. bytes_eq other path) paths

-- the paths that changes name
abbrev pub paths_named : List Change → List (List ℕ)
paths_named = map (λ change. change.path)

-- the new tree has the same as the old one at all paths but these, and nothing where the old one has
-- nothing
pub record IsChangedAt (paths : List (List ℕ)) (old new : List File) : Type 0 where
  pub elsewhere : (path : List ℕ) → is_among paths path ≡ false → entry_of path new ≡ entry_of path old
  pub absent : (path : List ℕ) → entry_of path old ≡ None → entry_of path new ≡ None

-- how the first of the paths compares to a path: `Greater` if there is no first one
abbrev pub first_cmp : List (List ℕ) → List ℕ → Ordering
first_cmp [] path = Greater
first_cmp (first ∷ paths) path = path_cmp first path

-- the file at a path, as a row
abbrev pub row_with : List ℕ → Option FileEntry → List File
row_with path None = []
row_with path (Some entry) = record { path = path; entry = entry } ∷ []
