use Rattle.std.proofs.Common.{◌≡◌, ℕ, ◌+◌, ◌-◌, List, [], ◌∷◌, ◌++◌, length, map, Option, Some, option_map, string_bytes, sym, ap, ap₂, ◌∙◌, arith}
use Rattle.std.proofs.lemmas.Result.{err_from_is_err_and}
use Rattle.std.specs.BTreeSet.{contains_text}
use Rattle.yaml_lines.specs.Meaning.{Meaning, list, table, meanings_of, members_of}
use Rattle.yaml_lines.specs.View.{view, member_view}
use Rattle.yaml_lines.specs.ViewLemmas.{view-List, view-Table}
use Rattle.yaml_flows.specs.Flows as flows
use Rattle.yaml_flows.specs.Flows.{Found, mapped, parts_within}
use Rattle.yaml_flows.specs.Keys.{Row, keys_differ}
use Rattle.yaml_flows.specs.Views.{is_seen, seen_later}
use Rattle.yaml_flows.proofs.Nodes.{node-no_room, node-list, node-table, node-text}
use Rattle.yaml_flows.proofs.Parts.{prepend, part_closed, part_read, part_refused, no_more, map_push}
use Rattle.yaml_flows.proofs.Keys.{has_key, none_later, none_apart, keys_differ-push, is_seen-none, is_seen-push}
use Rattle.yaml_flows.proofs.Tables.{rows_with, rows_start, row_read, row_refused, rows_read, rows_end, unseen}
use Rattle.yaml_flows.proofs.flows.+flows.Goals as goal

abbrev found_node : Meaning → List ℕ → Option (Found Meaning)
found_node m cs = Some (record { value = m; rest = cs })

-- ---- a list's items

abbrev as_list : Option (Found (List Meaning)) → Option (Found Meaning)
as_list o = option_map (mapped (λ ms. list (meanings_of ms))) o

pub list-returns-in-Some : goal.list-returns-in-Some
list-returns-in-Some t c =
    let node = flows.node c.args.room in
    let end = c.in-Some.ensures in
    ap as_list (c.items.invariant ∙ part_closed 93 node (length c.after_gap-start.result.now) c.items.counter c.items.rest.now (map view c.items.items.items) c.items-test.true end.0)
    ∙ ap₂ found_node (sym (view-List c.items.items)) (sym end.1)

pub list-returns-in_err-found : goal.list-returns-in_err-found
list-returns-in_err-found t c =
    let node = flows.node c.args.room in
    let p = err_from_is_err_and c.from_residual.result c.from_residual.ensures.1 in
    rw (p.1, p.2) (λ other.
    ap as_list (c.items.invariant
    ∙ part_refused 93 node (length c.after_gap-start.result.now) c.items.counter c.items.rest.now (map view c.items.items.items) c.items-test.true c.in_default.ensures (c.in_err-found.ensures other)))

pub list-items-preserved : goal.list-items-preserved
list-items-preserved t c =
    let node = flows.node c.args.room in
    let n = length c.after_gap-start.result.now in
    let found = c.in_ok-found.found in
    c.items.invariant
    ∙ (part_read 93 node n c.items.counter c.items.rest.now (map view c.items.items.items) (record { value = view found.value; rest = found.rest.now }) c.items-test.true c.in_default.ensures
    c.in_ok-found.ensures
    ∙ ap (λ (ms : List Meaning). prepend ms (parts_within 93 node (n - (c.items.counter + 1)) found.rest.now))
    (sym (map_push view c.items.items.items c.push.new.self.items found.value c.in_ok-push.ensures.items)))

pub list-returns : goal.list-returns
list-returns t c = λ _.
    ap as_list (c.items.invariant ∙ no_more 93 (flows.node c.args.room) (length c.after_gap-start.result.now) c.items.counter c.items.rest.now (map view c.items.items.items) c.items-test.false)

-- ---- a node

pub node-returns-then-room-eq0 : goal.node-returns-then-room-eq0
node-returns-then-room-eq0 t c = λ _. node-no_room c.args.room c.args.text.now (omega arith)

pub node-returns-in-Some : goal.node-returns-in-Some
node-returns-in-Some t c =
    let inner = c.in-Some.ensures in
    rw (node-list c.args.room c.args.text.now c.in-Some.inner.now c.if-room-eq0.false inner.0 inner.1) c.list.ensures

pub node-returns-in-Some-behind : goal.node-returns-in-Some-behind
node-returns-in-Some-behind t c =
    let inner = c.in-Some-behind.ensures in
    rw (node-table c.args.room c.args.text.now c.in-Some-behind.inner.now c.if-room-eq0.false c.in_default.ensures inner.0 inner.1) c.table.ensures

pub node-returns : goal.node-returns
node-returns t c = rw (node-text c.args.room c.args.text.now c.if-room-eq0.false c.in_default.ensures c.in_default-behind.ensures) c.text_node.ensures

-- ---- a table's rows

abbrev as_table : Option (Found (List Row)) → Option (Found Meaning)
as_table o = option_map (mapped (λ rs. table (members_of rs))) o

pub table-rows-init : goal.table-rows-init
table-rows-init t c =
    let none : map member_view c.in_ok-rows.rows.items ≡ [] = ap (map member_view) c.in_ok-rows.ensures.items in
    record {
      all = rows_start (flows.entry (flows.node c.args.room)) c.args.inner.now c.after_gap-start.result.now (map member_view c.in_ok-rows.rows.items) c.after_gap-start.ensures none;
      apart = ap keys_differ none ∙ none_apart;
      seen = λ q. is_seen-none c.in_ok-rows.rows.items (contains_text c.new-later.result) q c.in_ok-rows.ensures.items (none_later c.new-later.result c.new-later.ensures.empty q);
    }

pub table-returns-in-Some : goal.table-returns-in-Some
table-returns-in-Some t c =
    let entry = flows.entry (flows.node c.args.room) in
    let end = c.in-Some.ensures in
    ap as_table (c.rows.invariant.all ∙ rows_read entry (length c.after_gap-start.result.now) c.rows.counter c.rows.rest.now (map member_view c.rows.rows.items) c.rows-test.true end.0
    c.rows.invariant.apart)
    ∙ ap₂ found_node (sym (view-Table c.rows.rows)) (sym end.1)

pub table-returns-in_err-found : goal.table-returns-in_err-found
table-returns-in_err-found t c =
    let entry = flows.entry (flows.node c.args.room) in
    let p = err_from_is_err_and c.from_residual-in_err-found.result c.from_residual-in_err-found.ensures.1 in
    rw (p.1, p.2) (λ other.
    ap as_table (c.rows.invariant.all
    ∙ row_refused entry (is_seen c.as_slice.result.now (contains_text c.rows.later)) (length c.after_gap-start.result.now) c.rows.counter c.rows.rest.now (map member_view c.rows.rows.items)
    c.rows-test.true c.in_default.ensures (λ q. ap (λ rs. is_seen rs (contains_text c.rows.later) q) c.as_slice.ensures.value ∙ c.rows.invariant.seen q) (c.in_err-found.ensures.given other)))

pub table-rows-preserved : goal.table-rows-preserved
table-rows-preserved t c =
    let entry = flows.entry (flows.node c.args.room) in
    let n = length c.after_gap-start.result.now in
    let before = map member_view c.rows.rows.items in
    let found = c.in_ok-found.found in
    let row = member_view found.value in
    let seen : (q : List ℕ) → is_seen c.as_slice.result.now (contains_text c.rows.later) q ≡ has_key q before =
    λ q. ap (λ rs. is_seen rs (contains_text c.rows.later) q) c.as_slice.ensures.value ∙ c.rows.invariant.seen q in
    let read = unseen (is_seen c.as_slice.result.now (contains_text c.rows.later)) _ (record { value = row; rest = found.rest.now }) c.in_ok-found.ensures.given in
    let pushed : map member_view c.push.new.self.items ≡ before ++ row ∷ [] =
    map_push member_view c.rows.rows.items c.push.new.self.items found.value c.in_ok-push.ensures.items in
    record {
      all =
          c.rows.invariant.all
          ∙ (row_read entry n c.rows.counter c.rows.rest.now before (record { value = row; rest = found.rest.now }) c.rows-test.true c.in_default.ensures read.0
          ∙ ap (λ (rs : List Row). rows_with entry rs (n - (c.rows.counter + 1)) found.rest.now) (sym pushed));
      apart = ap keys_differ pushed ∙ keys_differ-push before row c.rows.invariant.apart (sym (seen row.0) ∙ read.1);
      seen = λ q.
          ap (λ rs. is_seen rs (contains_text c.row.new.later) q) c.in_ok-push.ensures.items
          ∙ is_seen-push c.rows.rows.items found.value (contains_text c.rows.later) (contains_text c.row.new.later) q (c.rows.invariant.seen q)
          (c.in_ok-found.ensures.later q ∙ ap (λ rs. seen_later (length rs) (string_bytes found.value.0) (contains_text c.rows.later) q) c.as_slice.ensures.value)
          ∙ ap (λ rs. has_key q (map member_view rs)) (sym c.in_ok-push.ensures.items);
    }

pub table-returns : goal.table-returns
table-returns t c = λ _.
    ap as_table (c.rows.invariant.all ∙ rows_end (flows.entry (flows.node c.args.room)) (length c.after_gap-start.result.now) c.rows.counter c.rows.rest.now (map member_view c.rows.rows.items)
    c.rows-test.false)
