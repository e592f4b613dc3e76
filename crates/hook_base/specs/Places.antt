-- Where a path is among rows that rise: at an index, or, if no row has the path, before one. This serves
-- private functions alone: the search in a tree, and the edits of a store's files in `repo_store`.
use Rattle.std.specs.Prelude.{◌≡◌, ℕ, zero, suc, List, [], ◌∷◌}
use Rattle.hook_base.specs.declared.file.File.{File}
use Rattle.hook_base.specs.declared.row_place.RowPlace.{RowPlace}
use Rattle.hook_base.specs.declared.row_place.RowPlace.TheVariants.{At, Before}
use Rattle.hook_base.specs.Rising.{IsBelow, IsBelowAll}
use Rattle.hook_base.specs.Trees.{path_of}

-- the row at this index has the path, and the earlier ones come before it
abbrev pub IsAt : List ℕ → List File → ℕ → Type 0
IsAt path [] index = ⊥
IsAt path (row ∷ rows) zero = path ≡ row.path
IsAt path (row ∷ rows) (suc index) = IsBelow row.path path × IsAt path rows index

-- the rows before this index come before the path, the others after it
abbrev pub IsGap : List ℕ → List File → ℕ → Type 0
IsGap path rows zero = IsBelowAll path_of path rows
IsGap path [] (suc index) = ⊥
IsGap path (row ∷ rows) (suc index) = IsBelow row.path path × IsGap path rows index

abbrev pub IsPlace : List ℕ → List File → RowPlace → Type 0
IsPlace path rows (At index) = IsAt path rows index
IsPlace path rows (Before index) = IsGap path rows index
