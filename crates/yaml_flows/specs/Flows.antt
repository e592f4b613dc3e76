-- What a flow means: lists in brackets and tables in braces. (YAML 1.2.2, sections 7.4.1 "Flow Sequences"
-- and 7.4.2 "Flow Mappings".) Reading gives a value, and the characters that follow it.
use Rattle.std.specs.Prelude.{ℕ, zero, suc, Bool, not, ◌&&◌, ◌||◌, List, [], ◌∷◌, Option, Some, None, option_map, option_and_then, length, drop, ◌==◌, if◌then◌else◌}
use Rattle.std.specs.List.{list_any}
use Rattle.yaml_lines.specs.Characters.{begins_with, is_nil}
use Rattle.yaml_lines.specs.FlowGaps.{is_feed, after_gap}
use Rattle.yaml_lines.specs.FlowTexts.{FlowText, is_key_end, text_at}
use Rattle.yaml_lines.specs.Meaning.{Meaning, text, list, table, meanings_of, members_of}
use Rattle.yaml_flows.specs.Keys.{Row, keys_differ}

-- a value, and what follows it
pub record Found (A : Type 0) : Type 0 where
  pub value : A
  pub rest : List ℕ

-- another value with the same rest
abbrev pub mapped : {A B : Type 0} → (A → B) → Found A → Found B
mapped f found = record { value = f found.value; rest = found.rest }

-- ---- parts between commas

-- What begins with the next part or the closing bracket, if these characters follow a part and its gap:
-- what follows the comma, or the bracket itself. A comma may come before the closing bracket.
abbrev pub next_part : ℕ → List ℕ → Option (List ℕ)
next_part close [] = None
next_part close (c ∷ cs) = if c == 44 then Some (after_gap cs) else (if c == close then Some (c ∷ cs) else None)

-- the first part, and what follows it from the next part or the closing bracket on
abbrev pub part : {A : Type 0} → ℕ → (List ℕ → Option (Found A)) → List ℕ → Option (Found A)
part close read cs =
    option_and_then (λ found. option_map (λ rest. record { value = found.value; rest = rest })
    (next_part close (after_gap found.rest))) (read cs)

-- the parts up to the closing bracket; there are fewer than `most`
unfoldable pub parts_within : {A : Type 0} → ℕ → (List ℕ → Option (Found A)) → ℕ → List ℕ → Option (Found (List A))
parts_within close read zero cs = None
parts_within close read (suc most) cs =
    if begins_with close cs then Some (record { value = []; rest = drop 1 cs })
    else option_and_then (λ found. option_map (mapped (λ more. found.value ∷ more))
    (parts_within close read most found.rest)) (part close read cs)

-- All parts after an opening bracket. Each takes a character, and so does the closing bracket, so there are
-- fewer parts than characters.
abbrev pub parts : {A : Type 0} → ℕ → (List ℕ → Option (Found A)) → List ℕ → Option (Found (List A))
parts close read cs = parts_within close read (length (after_gap cs)) (after_gap cs)

-- ---- a table's entries

-- What follows a key's colon. After a plain key the colon must be one that ends it.
abbrev pub after_flow_colon : Bool → List ℕ → Option (List ℕ)
after_flow_colon quoted [] = None
after_flow_colon quoted (c ∷ cs) = if is_key_end quoted c cs then Some cs else None

-- the key with the value that follows it
abbrev pub flow_row_of : (List ℕ → Option (Found Meaning)) → FlowText → Option (Found Row)
flow_row_of node key =
    option_and_then (λ value. option_map (mapped (λ m. (key.text, m))) (node (after_gap value)))
    (after_flow_colon key.quoted (after_gap key.rest))

-- a key, a colon and a value
abbrev pub entry : (List ℕ → Option (Found Meaning)) → List ℕ → Option (Found Row)
entry node cs = option_and_then (flow_row_of node) (text_at cs)

-- a table's rows, if no key occurs twice
abbrev pub distinct_flow_rows : Found (List Row) → Option (Found (List Row))
distinct_flow_rows found = if keys_differ found.value then Some found else None

-- ---- nodes

abbrev pub list_at : (List ℕ → Option (Found Meaning)) → List ℕ → Option (Found Meaning)
list_at node cs = option_map (mapped (λ ms. list (meanings_of ms))) (parts 93 node cs)

abbrev pub table_at : (List ℕ → Option (Found Meaning)) → List ℕ → Option (Found Meaning)
table_at node cs =
    option_map (mapped (λ rs. table (members_of rs))) (option_and_then distinct_flow_rows (parts 125 (entry node) cs))

abbrev pub text_node : FlowText → Found Meaning
text_node t = record { value = text t.text t.quoted; rest = t.rest }

abbrev pub text_node_at : List ℕ → Option (Found Meaning)
text_node_at cs = option_map text_node (text_at cs)

-- The node that the characters begin with: a list after `[`, a table after `{`, otherwise a text. At most
-- `room` nodes may be nested there; keys aren't nodes.
unfoldable pub node : ℕ → List ℕ → Option (Found Meaning)
node zero cs = None
node (suc room) [] = None
node (suc room) (c ∷ cs) =
    if c == 91 then list_at (node room) cs
    else (if c == 123 then table_at (node room) cs else text_node_at (c ∷ cs))

abbrev pub begins_list_or_table : List ℕ → Bool
begins_list_or_table cs = begins_with 91 cs || begins_with 123 cs

-- after the last bracket: blanks and a comment at most, and no further line
abbrev pub is_end : List ℕ → Bool
is_end cs = is_nil (after_gap cs) && not (list_any is_feed cs)

abbrev pub whole : Found Meaning → Option Meaning
whole found = if is_end found.rest then Some found.value else None

-- What the whole text of a flow means, its lines joined by line feeds, if at most `room` nodes may be
-- nested.
unfoldable pub flow_meaning : ℕ → List ℕ → Option Meaning
flow_meaning room cs = if begins_list_or_table cs then option_and_then whole (node room cs) else None
