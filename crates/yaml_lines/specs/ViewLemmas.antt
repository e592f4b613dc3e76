-- Lemmas: the meaning of a `Node`, for each of its variants. Proofs of other crates cite them; no contract
-- does.
use Rattle.std.specs.Prelude.{◌≡◌, ℕ, Bool, List, [], ◌∷◌, map, String, Vec, string_bytes}
use Rattle.std.proofs.Common.{rules, refl, ap, ◌∙◌}
use Rattle.std.specs.declared.alloc.Global.{Global}
use Rattle.yaml_lines.specs.Meaning.{Meaning, text, list, table, empty, meanings_of, members_of}
use Rattle.yaml_lines.specs.View.{row_view, view, member_view}
use Rattle.yaml_lines.specs.declared.node.Node.{Node, Text, List as ListOf, Table, Empty, the_lemmas}

pub view-Text : (content : String Global) (quoted : Bool)
    → view (Text content quoted) ≡ text (string_bytes content) quoted
view-Text content quoted = search (rules, the_lemmas)

pub view-List : (items : Vec Node Global) → view (ListOf items) ≡ list (meanings_of (map view items.items))
view-List items = search (rules, the_lemmas)

-- a key with its value already seen
abbrev seen : String Global × Node → String Global × Meaning
seen member = (member.0, view member.1)

members_seen : (members : List (String Global × Node)) → map row_view (map seen members) ≡ map member_view members
members_seen [] = refl
members_seen (m ∷ ms) = ap (λ (rows : List (List ℕ × Meaning)). member_view m ∷ rows) (members_seen ms)

table_seen : (members : Vec (String Global × Node) Global)
    → view (Table members) ≡ table (members_of (map row_view (map seen members.items)))
table_seen members = search (rules, the_lemmas)

pub view-Table : (members : Vec (String Global × Node) Global)
    → view (Table members) ≡ table (members_of (map member_view members.items))
view-Table members =
    table_seen members ∙ ap (λ (rows : List (List ℕ × Meaning)). table (members_of rows)) (members_seen members.items)

pub view-Empty : view Empty ≡ empty
view-Empty = search (rules, the_lemmas)
