-- Keys that are listed row after row.
use Rattle.std.proofs.Common.{◌≡◌, ℕ, ◌+◌, ◌<◌, List, ◌++◌, length, drop, get_or, String, Global, arith}
use Rattle.std.proofs.lemmas.Grind.{common_steps}
use Rattle.std.specs.List.{flat_map}
use Rattle.yaml_lines.specs.declared.node.Node.{Node}
use Rattle.hook_config.specs.Rows.{ConfigurationRow, member_row, rows_of}

-- one more row was looked at
pub looked_at : (f : ConfigurationRow → List (List ℕ)) (all : List (List ℕ)) (before : List (List ℕ)) (after : List (List ℕ)) (xs : List (String Global × Node)) (i : ℕ) (x : String Global × Node)
    → i < length xs → x ≡ get_or xs i x
    → all ≡ before ++ flat_map f (rows_of (drop i xs)) → after ≡ before ++ f (member_row x)
    → all ≡ after ++ flat_map f (rows_of (drop (i + 1) xs))
looked_at f all before after xs i x within is so_far found = grind (arith, common_steps)
