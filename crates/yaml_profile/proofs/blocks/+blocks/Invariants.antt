use Rattle.std.proofs.Common.{◌≡◌, ℕ, ◌+◌, ◌*◌, List, true, map, length}
use Rattle.std.specs.BTreeSet.{contains_text}
use Rattle.yaml_lines.specs.View.{view, member_view}
use Rattle.yaml_profile.specs.Blocks as blocks
use Rattle.yaml_profile.specs.Blocks.{all_of, parts, is_deeper, is_below_key}
use Rattle.yaml_flows.specs.Keys.{keys_differ}
use Rattle.yaml_profile.proofs.Lists.{prepend}
use Rattle.yaml_flows.proofs.Keys.{has_key}
use Rattle.yaml_profile.proofs.Tables.{rows_with}
use Rattle.yaml_profile.proofs.blocks.+blocks.Given as goal

abbrev pub decreases-node : goal.decreases-node
decreases-node l = 8 * l.room + 1

abbrev pub decreases-block : goal.decreases-block
decreases-block l = 8 * l.room + 2

abbrev pub decreases-value : goal.decreases-value
decreases-value l = 8 * l.room + 3

abbrev pub decreases-item : goal.decreases-item
decreases-item l = 8 * l.room + 4

abbrev pub decreases-entry : goal.decreases-entry
decreases-entry l = 8 * l.room + 4

abbrev pub decreases-items : goal.decreases-items
decreases-items l = 8 * l.room + 5

abbrev pub decreases-rows : goal.decreases-rows
decreases-rows l = 8 * l.room + 5

-- the items found so far, before those of the lines that are left, are those of all lines
abbrev pub invariant-items-items : goal.invariant-items-items
invariant-items-items l =
    let item = blocks.item (blocks.node l.room) l.indent in
    (l.indent ≡ l.first.indent)
    × (blocks.items (blocks.node l.room) l.first l.later ≡ prepend (map view l.found.items) (all_of item (parts (is_deeper l.indent) l.rest)))

abbrev pub decreases-items-items : goal.decreases-items-items
decreases-items-items l = length l.rest

-- the same for a table's rows, whose keys differ and are the keys that were seen
abbrev pub invariant-rows-rows : goal.invariant-rows-rows
invariant-rows-rows l =
    let entry = blocks.entry (blocks.node l.room) (blocks.line_node l.room) l.indent in
    let found = map member_view l.found.items in record {
      placed : l.indent ≡ l.first.indent;
      all : blocks.rows (blocks.node l.room) (blocks.line_node l.room) l.first l.later ≡ rows_with entry found (parts (is_below_key l.indent) l.rest);
      apart : keys_differ found ≡ true;
      seen : (q : List ℕ) → contains_text l.seen q ≡ has_key q found;
    }

abbrev pub decreases-rows-rows : goal.decreases-rows-rows
decreases-rows-rows l = length l.rest
