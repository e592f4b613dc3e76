use Rattle.std.proofs.Common.{◌≡◌, [], ◌∷◌, ◌++◌, map, Some, refl, sym, ap, ◌∙◌, arith}
use Rattle.std.proofs.lemmas.Result.{err_from_is_err_and}
use Rattle.std.specs.BTreeSet.{contains_text}
use Rattle.yaml_lines.specs.View.{view, member_view}
use Rattle.yaml_flows.specs.Keys.{keys_differ}
use Rattle.yaml_profile.specs.Blocks as blocks
use Rattle.yaml_profile.specs.Blocks.{all_of, parts, is_deeper, is_below_key, list_meaning, table_meaning}
use Rattle.yaml_lines.specs.ViewLemmas.{view-List, view-Table}
use Rattle.yaml_profile.proofs.Lists.{prepend, one_more, refused, all_read}
use Rattle.yaml_profile.proofs.Nodes.{node-no_room, node-list, node-table, node-line}
use Rattle.yaml_flows.proofs.Keys.{has_key, keys_differ-push, none_apart}
use Rattle.yaml_profile.proofs.Tables.{none_seen, rows_with, row_read, row_refused, rows_read, unseen, seen-push}
use Rattle.yaml_profile.proofs.Turns.{begun, first_and_others, none_left, map_push, items_at, rows_at}
use Rattle.yaml_profile.proofs.blocks.+blocks.Goals as goal

-- ---- a list's items

pub items-returns-in_err-item : goal.items-returns-in_err-item
items-returns-in_err-item t c =
    let node = blocks.node c.args.room in
    let indent = c.indent-indent.result in
    let p = err_from_is_err_and c.from_residual.result c.from_residual.ensures.1 in
    rw (p.1, p.2) (λ other.
    items_at node c.args.first.now c.args.later.now indent c.indent-indent.ensures
    ∙ ap (λ ps. prepend [] (all_of (blocks.item node indent) ps)) (begun (is_deeper indent) _ _ _ _ _ refl c.split_deeper.ensures.below c.split_deeper.ensures.rest)
    ∙ refused (blocks.item node indent) [] _ _ (c.in_err-item.ensures other))

pub items-items-init : goal.items-items-init
items-items-init t c =
    let node = blocks.node c.args.room in
    let indent = c.indent-indent.result in (
      c.indent-indent.ensures,
      items_at node c.args.first.now c.args.later.now indent c.indent-indent.ensures
          ∙ ap (λ ps. prepend [] (all_of (blocks.item node indent) ps)) (begun (is_deeper indent) _ _ _ _ _ refl c.split_deeper.ensures.below c.split_deeper.ensures.rest)
          ∙ one_more (blocks.item node indent) [] _ _ (view c.in_ok-item.field-0) c.in_ok-item.ensures
          ∙ ap (λ vs. prepend vs (all_of (blocks.item node indent) (parts (is_deeper indent) c.split_deeper.result.1.now)))
          (sym (map_push view c.new-found.result.items c.push.new.self.items c.in_ok-item.field-0 c.in_ok-push.ensures.items
          ∙ ap (λ vs. map view vs ++ view c.in_ok-item.field-0 ∷ []) c.new-found.ensures.items)),
    )

pub items-returns-in_err-item-2 : goal.items-returns-in_err-item-2
items-returns-in_err-item-2 t c =
    let node = blocks.node c.args.room in
    let indent = c.indent-indent.result in
    let p = err_from_is_err_and c.from_residual-in_err-item-2.result c.from_residual-in_err-item-2.ensures.1 in
    let next = first_and_others c.items.rest.now c.next-item.result c.next-item.is c.in-len1-up.len_at_least in
    rw (p.1, p.2) (λ other.
    c.items.invariant.1
    ∙ ap (λ ps. prepend (map view c.items.found.items) (all_of (blocks.item node indent) ps))
    (begun (is_deeper indent) c.items.rest.now _ _ _ c.next-item.result next c.split_deeper-in-len1-up.ensures.below c.split_deeper-in-len1-up.ensures.rest)
    ∙ refused (blocks.item node indent) (map view c.items.found.items) _ _ (c.in_err-item-2.ensures other))

pub items-items-preserved : goal.items-items-preserved
items-items-preserved t c =
    let node = blocks.node c.args.room in
    let indent = c.indent-indent.result in
    let next = first_and_others c.items.rest.now c.next-item.result c.next-item.is c.in-len1-up.len_at_least in (
      c.indent-indent.ensures,
      c.items.invariant.1
          ∙ ap (λ ps. prepend (map view c.items.found.items) (all_of (blocks.item node indent) ps))
          (begun (is_deeper indent) c.items.rest.now _ _ _ c.next-item.result next c.split_deeper-in-len1-up.ensures.below c.split_deeper-in-len1-up.ensures.rest)
          ∙ one_more (blocks.item node indent) (map view c.items.found.items) _ _ (view c.in_ok-item-2.field-0) c.in_ok-item-2.ensures
          ∙ ap (λ vs. prepend vs (all_of (blocks.item node indent) (parts (is_deeper indent) c.split_deeper-in-len1-up.result.1.now)))
          (sym (map_push view c.items.found.items c.push-in-len1-up.new.self.items c.in_ok-item-2.field-0 c.in_ok-push-2.ensures.items)),
    )

pub items-returns : goal.items-returns
items-returns t c =
    let node = blocks.node c.args.room in
    let indent = c.indent-indent.result in
    c.items.invariant.1
    ∙ ap (λ ls. prepend (map view c.items.found.items) (all_of (blocks.item node indent) (parts (is_deeper indent) ls))) (none_left c.items.rest.now (omega arith))
    ∙ all_read (blocks.item node indent) (map view c.items.found.items)

-- ---- a node

pub node-returns-then-room-eq0 : goal.node-returns-then-room-eq0
node-returns-then-room-eq0 t c = λ other. node-no_room c.args.room _ (omega arith)

pub node-returns-in_err-found : goal.node-returns-in_err-found
node-returns-in_err-found t c =
    let p = err_from_is_err_and c.from_residual.result c.from_residual.ensures.1 in
    rw (p.1, p.2) (λ other.
    node-list c.args.room c.args.first.now c.args.later.now (omega arith) (grind arith)
    ∙ ap list_meaning (c.in_err-found.ensures other))

pub node-returns-then-is_item : goal.node-returns-then-is_item
node-returns-then-is_item t c =
    node-list c.args.room c.args.first.now c.args.later.now (omega arith) (grind arith)
    ∙ ap list_meaning c.in_ok-found.ensures
    ∙ ap (λ m. Some m) (sym (view-List c.in_ok-found.found))

pub node-returns-in_err-found-2 : goal.node-returns-in_err-found-2
node-returns-in_err-found-2 t c =
    let p = err_from_is_err_and c.from_residual-in_err-found-2.result c.from_residual-in_err-found-2.ensures.1 in
    rw (p.1, p.2) (λ other.
    node-table c.args.room c.args.first.now c.args.later.now (omega arith) (grind arith) (grind arith)
    ∙ ap table_meaning (c.in_err-found-2.ensures other))

pub node-returns-then-is_some : goal.node-returns-then-is_some
node-returns-then-is_some t c =
    node-table c.args.room c.args.first.now c.args.later.now (omega arith) (grind arith) (grind arith)
    ∙ ap table_meaning c.in_ok-found-2.ensures
    ∙ ap (λ m. Some m) (sym (view-Table c.in_ok-found-2.found))

pub node-returns : goal.node-returns
node-returns t c =
    rw (node-line c.args.room c.args.first.now c.args.later.now (omega arith) (grind arith) (grind arith), ← c.line.ensures) c.line_node.ensures

-- ---- a table's rows

pub rows-returns-in_err-entry : goal.rows-returns-in_err-entry
rows-returns-in_err-entry t c =
    let node = blocks.node c.args.room in
    let line = blocks.line_node c.args.room in
    let indent = c.indent-indent.result in
    let p = err_from_is_err_and c.from_residual.result c.from_residual.ensures.1 in
    rw (p.1, p.2) (λ other.
    rows_at node line c.args.first.now c.args.later.now indent c.indent-indent.ensures
    ∙ ap (rows_with (blocks.entry node line indent) []) (begun (is_below_key indent) _ _ _ _ _ refl c.split_below_key.ensures.below c.split_below_key.ensures.rest)
    ∙ row_refused (blocks.entry node line indent) (contains_text c.new-seen.result) [] _ _ (none_seen c.new-seen.result c.new-seen.ensures.empty) (c.in_err-entry.ensures.given other))

pub rows-rows-init : goal.rows-rows-init
rows-rows-init t c =
    let node = blocks.node c.args.room in
    let line = blocks.line_node c.args.room in
    let indent = c.indent-indent.result in
    let row = member_view c.in_ok-entry.field-0 in
    let entry = unseen (contains_text c.new-seen.result) _ row c.in_ok-entry.ensures.given in
    let found : map member_view c.push.new.self.items ≡ row ∷ [] =
    map_push member_view c.new-found.result.items c.push.new.self.items c.in_ok-entry.field-0 c.in_ok-push.ensures.items
    ∙ ap (λ ms. map member_view ms ++ row ∷ []) c.new-found.ensures.items in
    record {
      placed = c.indent-indent.ensures;
      all =
          rows_at node line c.args.first.now c.args.later.now indent c.indent-indent.ensures
          ∙ ap (rows_with (blocks.entry node line indent) []) (begun (is_below_key indent) _ _ _ _ _ refl c.split_below_key.ensures.below c.split_below_key.ensures.rest)
          ∙ row_read (blocks.entry node line indent) [] _ _ row entry.0
          ∙ ap (λ rs. rows_with (blocks.entry node line indent) rs (parts (is_below_key indent) c.split_below_key.result.1.now)) (sym found);
      apart = ap keys_differ found ∙ keys_differ-push [] row none_apart refl;
      seen = λ q.
          c.in_ok-entry.ensures.seen q ∙ seen-push q [] row _ (none_seen c.new-seen.result c.new-seen.ensures.empty q) ∙ ap (has_key q) (sym found);
    }

pub rows-returns-in_err-entry-2 : goal.rows-returns-in_err-entry-2
rows-returns-in_err-entry-2 t c =
    let node = blocks.node c.args.room in
    let line = blocks.line_node c.args.room in
    let indent = c.indent-indent.result in
    let found = map member_view c.rows.found.items in
    let next = first_and_others c.rows.rest.now c.next-item.result c.next-item.is c.in-len1-up.len_at_least in
    let p = err_from_is_err_and c.from_residual-in_err-entry-2.result c.from_residual-in_err-entry-2.ensures.1 in
    rw (p.1, p.2) (λ other.
    c.rows.invariant.all
    ∙ ap (rows_with (blocks.entry node line indent) found)
    (begun (is_below_key indent) c.rows.rest.now _ _ _ c.next-item.result next c.split_below_key-in-len1-up.ensures.below c.split_below_key-in-len1-up.ensures.rest)
    ∙ row_refused (blocks.entry node line indent) (contains_text c.rows.seen) found _ _ c.rows.invariant.seen (c.in_err-entry-2.ensures.given other))

pub rows-rows-preserved : goal.rows-rows-preserved
rows-rows-preserved t c =
    let node = blocks.node c.args.room in
    let line = blocks.line_node c.args.room in
    let indent = c.indent-indent.result in
    let before = map member_view c.rows.found.items in
    let next = first_and_others c.rows.rest.now c.next-item.result c.next-item.is c.in-len1-up.len_at_least in
    let row = member_view c.in_ok-entry-2.field-0 in
    let entry = unseen (contains_text c.rows.seen) _ row c.in_ok-entry-2.ensures.given in
    let found : map member_view c.push-in-len1-up.new.self.items ≡ before ++ row ∷ [] =
    map_push member_view c.rows.found.items c.push-in-len1-up.new.self.items c.in_ok-entry-2.field-0 c.in_ok-push-2.ensures.items in
    record {
      placed = c.indent-indent.ensures;
      all =
          c.rows.invariant.all
          ∙ ap (rows_with (blocks.entry node line indent) before)
          (begun (is_below_key indent) c.rows.rest.now _ _ _ c.next-item.result next c.split_below_key-in-len1-up.ensures.below c.split_below_key-in-len1-up.ensures.rest)
          ∙ row_read (blocks.entry node line indent) before _ _ row entry.0
          ∙ ap (λ rs. rows_with (blocks.entry node line indent) rs (parts (is_below_key indent) c.split_below_key-in-len1-up.result.1.now)) (sym found);
      apart = ap keys_differ found ∙ keys_differ-push before row c.rows.invariant.apart (sym (c.rows.invariant.seen row.0) ∙ entry.1);
      seen = λ q. c.in_ok-entry-2.ensures.seen q ∙ seen-push q before row _ (c.rows.invariant.seen q) ∙ ap (has_key q) (sym found);
    }

pub rows-returns : goal.rows-returns
rows-returns t c =
    let entry = blocks.entry (blocks.node c.args.room) (blocks.line_node c.args.room) c.indent-indent.result in
    let found = map member_view c.rows.found.items in
    c.rows.invariant.all
    ∙ ap (λ ls. rows_with entry found (parts (is_below_key c.indent-indent.result) ls)) (none_left c.rows.rest.now (omega arith))
    ∙ rows_read entry found c.rows.invariant.apart
