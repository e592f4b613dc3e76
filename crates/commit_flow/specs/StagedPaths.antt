-- Texts that are paths, and paths that are staged.
use Rattle.std.specs.Prelude.{◌≡◌, ℕ, List, None, IsSome}
use Rattle.hook_base.specs.Paths.{path_fault}
use Rattle.hook_base.specs.Trees.{entry_of}
use Rattle.repo_store.specs.Repository.{Repository}

-- the text is a path inside a repository
abbrev pub IsLegal : List ℕ → Type 0
IsLegal path = path_fault path ≡ None

abbrev pub IsStaged : List ℕ → Repository → Type 0
IsStaged path repo = IsSome (entry_of path repo.staged)
