-- A node's rows and items, as the meaning's.
use Rattle.std.proofs.Common.{◌≡◌, ℕ, List, [], ◌∷◌, map, String, Vec, Bor, Global, Some, bytes_eq, refl, ap, ◌∙◌}
use Rattle.std.specs.List.{list_any}
use Rattle.std.specs.Prelude.{◌||◌}
use Rattle.yaml_lines.specs.Meaning.{Meaning, nodes, rows_of_members, meanings_of, members_of}
use Rattle.yaml_lines.specs.View.{view}
use Rattle.yaml_lines.specs.ViewLemmas.{view-List, view-Table}
use Rattle.yaml_lines.specs.declared.node.Node.{Node, List as NodeList, Table}
use Rattle.hook_config.specs.Rows.{ConfigurationRow, rows_of, meanings_of_nodes, list_of, table_of, is_known_word, texts}

nodes-meanings_of : (ms : List Meaning) → nodes (meanings_of ms) ≡ ms
nodes-meanings_of [] = refl
nodes-meanings_of (m ∷ ms) = ap (λ rest. m ∷ rest) (nodes-meanings_of ms)

rows-members_of : (ms : List ConfigurationRow) → rows_of_members (members_of ms) ≡ ms
rows-members_of [] = refl
rows-members_of (m ∷ ms) = ap (λ rest. m ∷ rest) (rows-members_of ms)

pub list_of-List : (v : Vec Node Global) → list_of (view (NodeList v)) ≡ Some (meanings_of_nodes v.items)
list_of-List v = ap list_of (view-List v) ∙ ap Some (nodes-meanings_of (map view v.items))

pub table_of-Table : (v : Vec (String Global × Node) Global) → table_of (view (Table v)) ≡ Some (rows_of v.items)
table_of-Table v = ap table_of (view-Table v) ∙ ap Some (rows-members_of (rows_of v.items))

pub any_of_texts : (words : List (Bor (List ℕ))) (word : List ℕ) → list_any (λ known. bytes_eq known.now word) words ≡ is_known_word (texts words) word
any_of_texts [] word = refl
any_of_texts (known ∷ words) word = ap (λ found. bytes_eq known.now word || found) (any_of_texts words word)
