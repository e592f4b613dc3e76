-- What is read has no key twice in a table: of the lines of a text, and of flows.
use Rattle.std.proofs.Common.{◌≡◌, ℕ, zero, suc, Bool, true, false, not, ◌&&◌, ◌||◌, List, [], ◌∷◌, ◌++◌, Option, Some, None, option_map, is_some, eqb, refl, subst}
use Rattle.std.specs.List.{IsDistinct, AllByRecursion, list_all, list_any}
use Rattle.std.specs.Str.{bytes_eq}
use Rattle.std.proofs.lemmas.Map.Made.{AllPairs-from_IsDistinct}
use Rattle.std.proofs.lemmas.Slice.Eq.{bytes_eq-Decides}
use Rattle.yaml_lines.specs.Characters.{is_nil, is_over, begins_with}
use Rattle.yaml_lines.specs.BlockTexts.{begins_block}
use Rattle.yaml_lines.specs.FlowLines.{begins_flow as begins_flow_line}
use Rattle.yaml_lines.specs.Entries.{ContentLine, is_item, item_of, entry_of_line}
use Rattle.yaml_lines.specs.Lines.{content_lines_of_bytes}
use Rattle.yaml_lines.specs.Meaning.{Meaning, text, list, table, meanings_of, members_of, most_nodes}
use Rattle.yaml_lines.specs.Quoted.{begins_quoted, quoted_of}
use Rattle.yaml_lines.specs.Plain.{plain_of}
use Rattle.yaml_lines.specs.Scalars.{alone, scalar_meaning}
use Rattle.yaml_flows.specs.Flows as flows
use Rattle.yaml_flows.specs.Flows.{Found, mapped, part, parts_within, list_at, table_at, text_node, begins_list_or_table, is_end, flow_meaning}
use Rattle.yaml_lines.specs.FlowGaps.{after_gap}
use Rattle.yaml_lines.specs.FlowTexts.{text_at}
use Rattle.yaml_flows.specs.Keys.{Row, keys_differ}
use Rattle.yaml_profile.specs.Blocks as blocks
use Rattle.yaml_profile.specs.Blocks.{BlockPart, all_of, block, list_meaning, table_meaning, node, line_node, whole_text}
use Rattle.yaml_profile.specs.Text.{meaning_of}
use Rattle.yaml_profile.proofs.Holds.{Holds, of_map, map_to, then_any, then_to, either, if_true}
use Rattle.yaml_profile.specs.UniqueKeys.{keys, HasUniqueKeys, ItemsHaveUniqueKeys, ValuesHaveUniqueKeys}

-- ---- what holds of each

items_from : (ms : List Meaning) → AllByRecursion HasUniqueKeys ms → ItemsHaveUniqueKeys (meanings_of ms)
items_from [] h = tt
items_from (m ∷ ms) h = (h.0, items_from ms h.1)

abbrev IsUniqueRow : Row → Type 0
IsUniqueRow r = HasUniqueKeys r.1

values_from : (rs : List Row) → AllByRecursion IsUniqueRow rs → ValuesHaveUniqueKeys (members_of rs)
values_from [] h = tt
values_from (r ∷ rs) h = (h.0, values_from rs h.1)

-- ---- keys that differ

and_parts : (a b : Bool) → (a && b) ≡ true → (a ≡ true) × (b ≡ true)
and_parts true b e = (refl, e)
and_parts false b e = absurd (cc)

or_parts : (a b : Bool) → (a || b) ≡ false → (a ≡ false) × (b ≡ false)
or_parts true b e = absurd (cc)
or_parts false b e = (refl, e)

opposite : (a : Bool) → not a ≡ true → a ≡ false
opposite true e = absurd (cc)
opposite false e = refl

apart_from : (x : List ℕ) (rs : List Row) → list_any (λ other. bytes_eq x other.0) rs ≡ false → AllByRecursion (λ y. bytes_eq x y ≡ false) (keys (members_of rs))
apart_from x [] e = tt
apart_from x (r ∷ rs) e = let parts = or_parts (bytes_eq x r.0) (list_any (λ other. bytes_eq x other.0) rs) e in (parts.0, apart_from x rs parts.1)

distinct_by : (rs : List Row) → keys_differ rs ≡ true → IsDistinct bytes_eq (keys (members_of rs))
unfolding IsDistinct keys_differ
distinct_by [] e = tt
distinct_by (r ∷ rs) e =
    let parts = and_parts (not (list_any (λ other. bytes_eq r.0 other.0) rs)) (keys_differ rs) e in
    (apart_from r.0 rs (opposite (list_any (λ other. bytes_eq r.0 other.0) rs) parts.0), distinct_by rs parts.1)

table_unique : (rs : List Row) → AllByRecursion IsUniqueRow rs → keys_differ rs ≡ true → HasUniqueKeys (table (members_of rs))
table_unique rs h e = (AllPairs-from_IsDistinct bytes_eq-Decides (keys (members_of rs)) (distinct_by rs e), values_from rs h)

abbrev IsUniqueTable : List Row → Type 0
IsUniqueTable rs = HasUniqueKeys (table (members_of rs))

-- ---- flows

abbrev FoundAs : {A : Type 0} → (A → Type 0) → Found A → Type 0
FoundAs P found = P found.value

part_found : {A : Type 0} (P : A → Type 0) (close : ℕ) (read : List ℕ → Option (Found A)) → ((cs : List ℕ) → Holds (FoundAs P) (read cs)) → (cs : List ℕ) → Holds (FoundAs P) (part close read cs)
part_found P close read h cs =
    then_to (FoundAs P) (FoundAs P) _ (λ found p. of_map (FoundAs P) _ (λ rest. p) _) (read cs) (h cs)

parts_found : {A : Type 0} (P : A → Type 0) (close : ℕ) (read : List ℕ → Option (Found A)) → ((cs : List ℕ) → Holds (FoundAs P) (read cs)) → (most : ℕ) (cs : List ℕ)
    → Holds (FoundAs (AllByRecursion P)) (parts_within close read most cs)
unfolding parts_within
parts_found P close read h zero cs = tt
parts_found P close read h (suc most) cs =
    either (FoundAs (AllByRecursion P)) (begins_with close cs) _ _ tt
    (then_to (FoundAs P) (FoundAs (AllByRecursion P)) _
    (λ found p. map_to (FoundAs (AllByRecursion P)) (FoundAs (AllByRecursion P)) _ (λ others q. (p, q)) _ (parts_found P close read h most found.rest)) (part close read cs)
    (part_found P close read h cs))

entry_found : (read : List ℕ → Option (Found Meaning)) → ((cs : List ℕ) → Holds (FoundAs HasUniqueKeys) (read cs)) → (cs : List ℕ) → Holds (FoundAs IsUniqueRow) (flows.entry read cs)
entry_found read h cs =
    then_any (FoundAs IsUniqueRow) (flows.flow_row_of read)
    (λ key. then_any (FoundAs IsUniqueRow) (λ value. option_map (mapped (λ m. (key.text, m))) (read (after_gap value)))
    (λ value. map_to (FoundAs HasUniqueKeys) (FoundAs IsUniqueRow) (mapped (λ m. (key.text, m))) (λ found p. p) (read (after_gap value)) (h (after_gap value)))
    (flows.after_flow_colon key.quoted (after_gap key.rest)))
    (text_at cs)

list_found : (read : List ℕ → Option (Found Meaning)) → ((cs : List ℕ) → Holds (FoundAs HasUniqueKeys) (read cs)) → (cs : List ℕ) → Holds (FoundAs HasUniqueKeys) (list_at read cs)
list_found read h cs =
    map_to (FoundAs (AllByRecursion HasUniqueKeys)) (FoundAs HasUniqueKeys) _ (λ found p. items_from found.value p) _ (parts_found HasUniqueKeys 93 read h _ _)

table_found : (read : List ℕ → Option (Found Meaning)) → ((cs : List ℕ) → Holds (FoundAs HasUniqueKeys) (read cs)) → (cs : List ℕ) → Holds (FoundAs HasUniqueKeys) (table_at read cs)
table_found read h cs =
    map_to (FoundAs IsUniqueTable) (FoundAs HasUniqueKeys) _ (λ found p. p) _
    (then_to (FoundAs (AllByRecursion IsUniqueRow)) (FoundAs IsUniqueTable) _ (λ found p. if_true (FoundAs IsUniqueTable) (keys_differ found.value) found (λ e. table_unique found.value p e)) _
    (parts_found IsUniqueRow 125 (flows.entry read) (entry_found read h) _ _))

flow_node : (room : ℕ) (cs : List ℕ) → Holds (FoundAs HasUniqueKeys) (flows.node room cs)
unfolding flows.node
flow_node zero cs = tt
flow_node (suc room) [] = tt
flow_node (suc room) (c ∷ cs) =
    either (FoundAs HasUniqueKeys) (eqb c 91) _ _ (list_found (flows.node room) (flow_node room) cs)
    (either (FoundAs HasUniqueKeys) (eqb c 123) _ _ (table_found (flows.node room) (flow_node room) cs) (of_map (FoundAs HasUniqueKeys) text_node (λ t. tt) (text_at (c ∷ cs))))

flow_unique : (room : ℕ) (cs : List ℕ) → Holds HasUniqueKeys (flow_meaning room cs)
unfolding flow_meaning
flow_unique room cs =
    either HasUniqueKeys (begins_list_or_table cs) _ None
    (then_to (FoundAs HasUniqueKeys) HasUniqueKeys _ (λ found p. if_true HasUniqueKeys (is_end found.rest) found.value (λ _. p)) (flows.node room cs) (flow_node room cs)) tt

-- ---- lines

each_holds : {A B : Type 0} (P : B → Type 0) (f : A → Option B) → ((x : A) → Holds P (f x)) → (xs : List A) → Holds (AllByRecursion P) (all_of f xs)
unfolding all_of
each_holds P f h [] = tt
each_holds P f h (x ∷ xs) =
    then_to P (AllByRecursion P) _ (λ y p. map_to (AllByRecursion P) (AllByRecursion P) _ (λ ys q. (p, q)) _ (each_holds P f h xs)) (f x) (h x)

scalar_unique : (content : List ℕ) → Holds HasUniqueKeys (scalar_meaning content)
unfolding scalar_meaning
scalar_unique content =
    either HasUniqueKeys (begins_quoted content) _ _
    (then_any HasUniqueKeys alone (λ quoted. if_true HasUniqueKeys (is_over quoted.rest) (text quoted.text true) (λ _. tt)) (quoted_of content))
    (of_map HasUniqueKeys (λ bytes. text bytes false) (λ bytes. tt) (plain_of content))

lone_unique : (o : Option Meaning) (below : List ContentLine) → Holds HasUniqueKeys o → Holds HasUniqueKeys (blocks.lone o below)
lone_unique o [] h = h
lone_unique o (line ∷ lines) h = tt

line_unique : (room : ℕ) (place : ContentLine) (below : List ContentLine) → Holds HasUniqueKeys (line_node room place below)
line_unique zero place below = tt
line_unique (suc room) place below =
    either HasUniqueKeys (begins_flow_line place.content) _ _
    (either HasUniqueKeys (list_all (blocks.is_in_flow place.indent) below) _ None (flow_unique (suc room) _) tt)
    (lone_unique _ below (either HasUniqueKeys (begins_block place.content) _ _ (of_map HasUniqueKeys (λ bytes. text bytes false) (λ bytes. tt) place.block) (scalar_unique place.content)))

module _ (node : List ContentLine → Option Meaning) (line : ContentLine → List ContentLine → Option Meaning) (h : (lines : List ContentLine) → Holds HasUniqueKeys (node lines))
    (k : (place : ContentLine) (below : List ContentLine) → Holds HasUniqueKeys (line place below)) where
  item_unique : (indent : ℕ) (part : BlockPart) → Holds HasUniqueKeys (blocks.item node indent part)
  item_unique indent part =
      either HasUniqueKeys (eqb part.head.indent indent && is_item part.head.content) _ None
      (then_any HasUniqueKeys (λ front. node (front ++ part.below)) (λ front. h (front ++ part.below)) (item_of part.head)) tt

  value_unique : (place : ContentLine) (below : List ContentLine) → Holds HasUniqueKeys (blocks.value node line place below)
  value_unique place below = either HasUniqueKeys (is_nil place.content) (node below) (line place below) (h below) (k place below)

  entry_unique : (indent : ℕ) (part : BlockPart) → Holds IsUniqueRow (blocks.entry node line indent part)
  entry_unique indent part =
      either IsUniqueRow (eqb part.head.indent indent) _ None
      (then_any IsUniqueRow (blocks.row node line part)
      (λ entry. map_to HasUniqueKeys IsUniqueRow (λ v. (entry.key, v)) (λ v p. p) (blocks.value node line (blocks.value_place part.head entry) part.below)
      (value_unique (blocks.value_place part.head entry) part.below))
      (entry_of_line part.head.content)) tt

  block_unique : (own : Option Meaning) (listed keyed : Bool) (first : ContentLine) (later : List ContentLine) → Holds HasUniqueKeys own
      → Holds HasUniqueKeys (block node line own listed keyed first later)
  block_unique own true keyed first later o =
      map_to (AllByRecursion HasUniqueKeys) HasUniqueKeys (λ ms. list (meanings_of ms)) (λ ms p. items_from ms p) (blocks.items node first later)
      (each_holds HasUniqueKeys (blocks.item node first.indent) (item_unique first.indent) (blocks.parts (blocks.is_deeper first.indent) (first ∷ later)))
  block_unique own false true first later o =
      map_to IsUniqueTable HasUniqueKeys (λ rs. table (members_of rs)) (λ rs p. p) (blocks.rows node line first later)
      (then_to (AllByRecursion IsUniqueRow) IsUniqueTable blocks.distinct (λ rs p. if_true IsUniqueTable (keys_differ rs) rs (λ e. table_unique rs p e))
      (all_of (blocks.entry node line first.indent) (blocks.parts (blocks.is_below_key first.indent) (first ∷ later)))
      (each_holds IsUniqueRow (blocks.entry node line first.indent) (entry_unique first.indent) (blocks.parts (blocks.is_below_key first.indent) (first ∷ later))))
  block_unique own false false first later o = o

node_unique : (room : ℕ) (lines : List ContentLine) → Holds HasUniqueKeys (node room lines)
unfolding node
node_unique zero lines = tt
node_unique (suc room) [] = tt
node_unique (suc room) (first ∷ later) =
    block_unique (node room) (line_node room) (node_unique room) (line_unique room) (line_node (suc room) first later) (is_item first.content) (is_some (entry_of_line first.content)) first later
    (line_unique (suc room) first later)

whole_unique : (room : ℕ) (lines : List ContentLine) → Holds HasUniqueKeys (whole_text room lines)
unfolding whole_text
whole_unique room [] = node_unique room []
whole_unique room (first ∷ later) =
    either HasUniqueKeys (begins_block first.content) None _ tt
    (either HasUniqueKeys (begins_flow_line first.content) _ _ (flow_unique room _) (node_unique room (first ∷ later)))

text_unique : (bytes : List ℕ) → Holds HasUniqueKeys (meaning_of bytes)
unfolding meaning_of
text_unique bytes = then_any HasUniqueKeys (whole_text most_nodes) (whole_unique most_nodes) (content_lines_of_bytes bytes)

-- of a text that is read
pub unique_keys : (bytes : List ℕ) (meant : Meaning) → meaning_of bytes ≡ Some meant → HasUniqueKeys meant
unique_keys bytes meant e = subst (Holds HasUniqueKeys) e (text_unique bytes)
