-- Which paths a hook may get at all: the candidates that pass the patterns of the whole configuration.
use Rattle.std.specs.Prelude.{◌≡◌, ℕ, Bool, not, ◌&&◌, List, map}
use Rattle.std.specs.List.{list_any}
use Rattle.std.specs.Str.{bytes_eq}
use Rattle.hook_base.specs.Rising.{IsRisingBy}
use Rattle.path_select.specs.Patterns.{is_found}
use denote.Ref.{Bor}

-- the paths that references lead to
abbrev pub paths_of : List (Bor (List ℕ)) → List (List ℕ)
paths_of references = map (λ path. path.now) references

-- each path comes before the next, so none occurs twice
abbrev pub AreRisingPaths : List (List ℕ) → Type 0
AreRisingPaths = IsRisingBy (λ path. path)

abbrev pub is_candidate : List (List ℕ) → List ℕ → Bool
is_candidate candidates path = list_any (λ other. bytes_eq other path) candidates

-- the first pattern is found in the path, and the second isn't
abbrev pub passes : List ℕ → List ℕ → List ℕ → Bool
passes files exclude path = is_found files path && not (is_found exclude path)

-- the paths are the candidates that pass the two patterns, in their order and each once
pub record ArePassing (files exclude : List ℕ) (candidates paths : List (List ℕ)) : Type 0 where
  pub rising : AreRisingPaths paths
  pub exact : (path : List ℕ) → is_candidate paths path ≡ (passes files exclude path && is_candidate candidates path)
