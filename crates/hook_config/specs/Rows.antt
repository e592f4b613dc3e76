-- Tables and lists of a configuration's text, as std's lists.
use Rattle.std.specs.Prelude.{ℕ, List, [], ◌∷◌, map, Bool, if◌then◌else◌, bytes_eq, Option, Some, None, String, string_bytes}
use Rattle.std.specs.Borrow.{Bor}
use Rattle.std.specs.List.{list_any}
use Rattle.std.specs.declared.alloc.Global.{Global}
use Rattle.yaml_lines.specs.Meaning.{Meaning, text, list, table, empty, nodes, rows_of_members}
use Rattle.yaml_lines.specs.View.{view}
use Rattle.yaml_lines.specs.declared.node.Node.{Node}

-- a key of a table, with its value
abbrev pub ConfigurationRow : Type 0
ConfigurationRow = List ℕ × Meaning

-- the value in the first row that has the key
abbrev pub value_of_key : List ℕ → List ConfigurationRow → Option Meaning
value_of_key key [] = None
value_of_key key (row ∷ more) = if bytes_eq row.0 key then Some row.1 else value_of_key key more

-- whether the word is one of these
abbrev pub is_known_word : List (List ℕ) → List ℕ → Bool
is_known_word words word = list_any (λ known. bytes_eq known word) words

abbrev pub table_of : Meaning → Option (List ConfigurationRow)
table_of (text words quoted) = None
table_of (list items) = None
table_of (table content) = Some (rows_of_members content)
table_of empty = None

abbrev pub list_of : Meaning → Option (List Meaning)
list_of (text words quoted) = None
list_of (list items) = Some (nodes items)
list_of (table content) = None
list_of empty = None

-- ---- for contracts of private functions alone: what the code holds, as the lists above

abbrev pub member_row : String Global × Node → ConfigurationRow
member_row member = (string_bytes member.0, view member.1)

abbrev pub rows_of : List (String Global × Node) → List ConfigurationRow
rows_of = map member_row

abbrev pub meanings_of_nodes : List Node → List Meaning
meanings_of_nodes = map view

-- the texts of a slice of words
abbrev pub texts : List (Bor (List ℕ)) → List (List ℕ)
texts = map (λ word. word.now)
