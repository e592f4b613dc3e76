-- The meaning of a `Node`, wherever its texts and vectors lie in memory.
use Rattle.std.specs.Prelude.{ℕ, List, map, String, string_bytes}
use Rattle.std.specs.declared.alloc.Global.{Global}
use Rattle.yaml_lines.specs.Meaning.{Meaning, text, list, table, empty, meanings_of, members_of}
use Rattle.yaml_lines.specs.declared.node.Node.{Node, fold-Node}
use Rattle.yaml_lines.specs.declared.node.Node.TheOpen.{Node-F}

-- one key and its value, already seen as its meaning
abbrev pub row_view : String Global × Meaning → List ℕ × Meaning
row_view row = (string_bytes row.0, row.1)

-- one level, with each node inside already seen as its meaning
abbrev pub view_step : Node-F Meaning → Meaning
view_step (Node-F.Text content quoted) = text (string_bytes content) quoted
view_step (Node-F.List items) = list (meanings_of items.items)
view_step (Node-F.Table members) = table (members_of (map row_view members.items))
view_step Node-F.Empty = empty

abbrev pub view : Node → Meaning
view = fold-Node Meaning view_step

-- a key with its value, as the meaning of a table has them
abbrev pub member_view : String Global × Node → List ℕ × Meaning
member_view member = (string_bytes member.0, view member.1)
