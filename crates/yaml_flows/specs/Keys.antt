-- The keys of a table, each of which occurs once. (YAML 1.2.2, section 3.2.1.3 "Node Comparison".)
use Rattle.std.specs.Prelude.{ℕ, Bool, true, not, ◌&&◌, List, [], ◌∷◌}
use Rattle.std.specs.List.{list_any}
use Rattle.std.specs.Str.{bytes_eq}
use Rattle.yaml_lines.specs.Meaning.{Meaning}

-- a key with its value
abbrev pub Row : Type 0
Row = List ℕ × Meaning

-- no key occurs twice
unfoldable pub keys_differ : List Row → Bool
keys_differ [] = true
keys_differ (r ∷ rs) = not (list_any (λ other. bytes_eq r.0 other.0) rs) && keys_differ rs
