-- Words only of the reader's inner calls, which no reader of `read` needs: a table's rows as they are kept
-- in memory, and a row that is read while some keys were seen.
use Rattle.std.specs.Prelude.{ℕ, Bool, List, map, Option, Some, None, String, Vec, if◌then◌else◌}
use Rattle.std.specs.declared.alloc.Global.{Global}
use Rattle.yaml_lines.specs.View.{member_view}
use Rattle.yaml_lines.specs.declared.node.Node.{Node}
use Rattle.yaml_flows.specs.Keys.{Row}

abbrev pub rows_of_vector : Vec (String Global × Node) Global → List Row
rows_of_vector v = map member_view v.items

-- the row, unless its key was seen
abbrev pub fresh : (List ℕ → Bool) → Option Row → Option Row
fresh seen None = None
fresh seen (Some r) = if seen r.0 then None else Some r
