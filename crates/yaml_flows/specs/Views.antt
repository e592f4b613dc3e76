-- What the answers of the reader's inner calls mean, which no reader of `read_flow` needs: what was read
-- with what follows it, and a row that is read while some keys were seen.
use Rattle.std.specs.Prelude.{ℕ, Bool, true, ◌||◌, List, Option, Some, None, String, take, nat_lt, string_bytes, if◌then◌else◌}
use Rattle.std.specs.List.{list_any}
use Rattle.std.specs.Str.{bytes_eq}
use Rattle.std.specs.declared.alloc.Global.{Global}
use Rattle.yaml_lines.specs.FlowTexts.{FlowText}
use Rattle.yaml_lines.specs.declared.node.Node.{Node}
use Rattle.yaml_flows.specs.Flows.{Found}
use Rattle.yaml_flows.specs.Keys.{Row}
use Rattle.yaml_flows.specs.declared.found.Found.{Found as FoundIn}
use Rattle.yaml_flows.specs.declared.found.FlowText.{FlowText as TextIn}

-- so many rows of a table are searched for a key; the keys of later ones are kept apart
abbrev pub few : ℕ
few = 8

-- one of the rows has this key
abbrev pub is_key_among : List (String Global × Node) → List ℕ → Bool
is_key_among rows key = list_any (λ row. bytes_eq key (string_bytes row.0)) rows

-- one of the rows has this key; `later` has the keys of the later rows
unfoldable pub is_seen : List (String Global × Node) → (List ℕ → Bool) → List ℕ → Bool
is_seen rows later key = is_key_among (take few rows) key || later key

-- a later row has the key `q`, once a row with this key follows `count` others
abbrev pub seen_later : ℕ → List ℕ → (List ℕ → Bool) → List ℕ → Bool
seen_later count key later q =
    if nat_lt count few then later q else (if bytes_eq key q then true else later q)

-- what was read, its value seen by `see`
abbrev pub seen_by : {A B : Type 0} → (A → B) → FoundIn A → Found B
seen_by see found = record { value = see found.value; rest = found.rest.now }

abbrev pub text_seen : TextIn → FlowText
text_seen t = record { text = string_bytes t.text; quoted = t.quoted; rest = t.rest.now }

-- the row, unless its key was seen
abbrev pub fresh_flow_row : (List ℕ → Bool) → Option (Found Row) → Option (Found Row)
fresh_flow_row seen None = None
fresh_flow_row seen (Some r) = if seen r.value.0 then None else Some r
