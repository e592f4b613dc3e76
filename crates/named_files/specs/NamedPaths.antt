-- Paths that words name, each once.
use Rattle.std.specs.Prelude.{ℕ, Bool, if◌then◌else◌, List, [], ◌∷◌, ◌++◌}
use Rattle.std.specs.List.{list_any}
use Rattle.std.specs.Str.{bytes_eq}

-- the path is one of these
abbrev pub is_among_paths : List ℕ → List (List ℕ) → Bool
is_among_paths path paths = list_any (λ named. bytes_eq named path) paths

-- these paths, and another one at their end unless it is one of them
abbrev pub with_path : List (List ℕ) → List ℕ → List (List ℕ)
with_path paths path = if is_among_paths path paths then paths else paths ++ path ∷ []

-- the same for several, one after another
abbrev pub with_paths : List (List ℕ) → List (List ℕ) → List (List ℕ)
with_paths paths [] = paths
with_paths paths (path ∷ more) = with_paths (with_path paths path) more
