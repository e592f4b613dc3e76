use Rattle.std.proofs.Common.{◌≡◌, ℕ, ◌+◌, ◌*◌, ◌-◌, List, true, map, option_and_then}
use Rattle.std.specs.BTreeSet.{contains_text}
use Rattle.yaml_lines.specs.View.{view, member_view}
use Rattle.yaml_flows.specs.Flows as flows
use Rattle.yaml_flows.specs.Flows.{parts, parts_within, distinct_flow_rows}
use Rattle.yaml_flows.specs.Keys.{keys_differ}
use Rattle.yaml_flows.specs.Views.{is_seen}
use Rattle.yaml_flows.proofs.Parts.{prepend}
use Rattle.yaml_flows.proofs.Keys.{has_key}
use Rattle.yaml_flows.proofs.Tables.{rows_with}
use Rattle.yaml_flows.proofs.flows.+flows.Given as goal

abbrev pub decreases-node : goal.decreases-node
decreases-node l = 6 * l.room

abbrev pub decreases-item : goal.decreases-item
decreases-item l = 6 * l.room + 1

abbrev pub decreases-entry : goal.decreases-entry
decreases-entry l = 6 * l.room + 1

abbrev pub decreases-list : goal.decreases-list
decreases-list l = 6 * l.room + 2

abbrev pub decreases-row : goal.decreases-row
decreases-row l = 6 * l.room + 2

abbrev pub decreases-table : goal.decreases-table
decreases-table l = 6 * l.room + 3

-- the items found so far, before those that are left, are all items
abbrev pub invariant-list-items : goal.invariant-list-items
invariant-list-items l =
    parts 93 (flows.node l.room) l.inner ≡ prepend (map view l.items.items) (parts_within 93 (flows.node l.room) (l.end - l.counter) l.rest)

-- the same for a table's rows, whose keys differ and are the keys that were seen
abbrev pub invariant-table-rows : goal.invariant-table-rows
invariant-table-rows l =
    let entry = flows.entry (flows.node l.room) in
    let found = map member_view l.rows.items in record {
      all : option_and_then distinct_flow_rows (parts 125 entry l.inner) ≡ rows_with entry found (l.end - l.counter) l.rest;
      apart : keys_differ found ≡ true;
      seen : (q : List ℕ) → is_seen l.rows.items (contains_text l.later) q ≡ has_key q found;
    }
