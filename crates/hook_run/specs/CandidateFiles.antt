-- The files of a tree that hooks may get. Used only by private functions.
use Rattle.std.specs.Prelude.{ℕ, List, filter}
use Rattle.hook_base.specs.declared.file.File.{File}
use Rattle.path_select.specs.Candidates.{is_candidate}

-- the files of the tree at the candidates' paths, in its order
abbrev pub files_at : List (List ℕ) → List File → List File
files_at candidates tree = filter (λ file. is_candidate candidates file.path) tree
