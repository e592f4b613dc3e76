-- What the lines of a text mean: lists and tables by their indentation, flows and single texts. (YAML
-- 1.2.2, sections 8.2.1 "Block Sequences", 8.2.2 "Block Mappings" and 8.2.3 "Block Nodes".)
-- (docs/REFERENCE.md, "The configuration's text: a profile of YAML".)
use Rattle.std.specs.Prelude.{ℕ, zero, suc, Bool, true, false, ◌&&◌, ◌||◌, List, [], ◌∷◌, ◌++◌, Option, Some, None, option_map, option_and_then, is_some, nat_lt, ◌==◌, if◌then◌else◌}
use Rattle.std.specs.List.{list_all}
use Rattle.yaml_lines.specs.BlockTexts.{begins_block}
use Rattle.yaml_lines.specs.Characters.{is_nil}
use Rattle.yaml_lines.specs.Entries.{ContentLine, KeyAndValue, is_item, item_of, entry_of_line}
use Rattle.yaml_flows.specs.Flows.{flow_meaning}
use Rattle.yaml_flows.specs.Keys.{Row, keys_differ}
use Rattle.yaml_lines.specs.FlowLines.{begins_flow, is_closing}
use Rattle.yaml_lines.specs.Meaning.{Meaning, text, list, table, empty, meanings_of, members_of}
use Rattle.yaml_lines.specs.Scalars.{scalar_meaning}

-- A part of a list or a table: the line that begins it, and the lines after it that belong to it.
pub record BlockPart : Type 0 where
  pub head : ContentLine
  pub below : List ContentLine

-- Lines, cut before each that begins a part. `before` are those before the first part.
pub record Cut : Type 0 where
  pub before : List ContentLine
  pub parts : List BlockPart

-- one line more at the start, which belongs to the part above it or begins a part
abbrev pub put : Bool → ContentLine → Cut → Cut
put true line rest = record { before = line ∷ rest.before; parts = rest.parts }
put false line rest = record { before = []; parts = record { head = line; below = rest.before } ∷ rest.parts }

-- the lines, cut before each that doesn't belong to the part above it
unfoldable pub cut : (ContentLine → Bool) → List ContentLine → Cut
cut belongs [] = record { before = []; parts = [] }
cut belongs (line ∷ lines) = put (belongs line) line (cut belongs lines)

-- the parts of lines, the first of which begins a part
abbrev pub parts : (ContentLine → Bool) → List ContentLine → List BlockPart
parts belongs [] = []
parts belongs (first ∷ later) = record { head = first; below = (cut belongs later).before } ∷ (cut belongs later).parts

-- the line belongs to a list's item: it is deeper than the items
abbrev pub is_deeper : ℕ → ContentLine → Bool
is_deeper indent line = nat_lt indent line.indent

-- the line begins with a closing bracket
abbrev pub begins_closing : List ℕ → Bool
begins_closing [] = false
begins_closing (c ∷ _) = is_closing c

-- The line belongs to a table's entry: it is deeper than the keys, or it is as deep and begins an item of a
-- list or with a closing bracket. (For the item see section 8.2.3 "Block Nodes".)
abbrev pub is_below_key : ℕ → ContentLine → Bool
is_below_key indent line =
    nat_lt indent line.indent || (line.indent == indent && (is_item line.content || begins_closing line.content))

-- the line belongs to a flow that begins on a line at `indent`: it is deeper, or it is as deep and begins
-- with a closing bracket
abbrev pub is_in_flow : ℕ → ContentLine → Bool
is_in_flow indent line = nat_lt indent line.indent || (line.indent == indent && begins_closing line.content)

-- what f gives of each, if it gives something of all
unfoldable pub all_of : {A B : Type 0} → (A → Option B) → List A → Option (List B)
all_of f [] = Some []
all_of f (x ∷ xs) = option_and_then (λ y. option_map (λ ys. y ∷ ys) (all_of f xs)) (f x)

-- An item: what follows the dash, as a line of its own, with the deeper lines. Each item's dash has the
-- same indentation.
abbrev pub item : (List ContentLine → Option Meaning) → ℕ → BlockPart → Option Meaning
item node indent part =
    if part.head.indent == indent && is_item part.head.content
    then option_and_then (λ front. node (front ++ part.below)) (item_of part.head)
    else None

-- a node alone: no lines may follow
abbrev pub lone : Option Meaning → List ContentLine → Option Meaning
lone meant [] = meant
lone meant (line ∷ lines) = None

-- A text: the block text that the content begins, otherwise the plain or quoted text that it is. A block
-- text belongs to a key or a dash: on a line of its own none begins.
abbrev pub text_meaning : ContentLine → Option Meaning
text_meaning place =
    if begins_block place.content then option_map (λ bytes. text bytes false) place.block else scalar_meaning
    place.content

-- the characters of further lines, each after a line feed
unfoldable pub further : List ContentLine → List ℕ
further [] = []
further (line ∷ lines) = 10 ∷ (line.content ++ further lines)

-- A flow: from its first bracket on, over all these lines. (YAML 1.2.2, section 7.4 "Flow Collection
-- Styles".)
abbrev pub flow : ℕ → List ℕ → List ContentLine → Option Meaning
flow room content later = flow_meaning room (content ++ further later)

-- What begins on one line, with the lines below it, if at most `room` nodes may be nested: a flow, or a
-- text with no lines below.
abbrev pub line_node : ℕ → ContentLine → List ContentLine → Option Meaning
line_node zero place below = None
line_node (suc room) place below =
    if begins_flow place.content then (if list_all (is_in_flow place.indent) below then flow (suc room) place.content
    below else None)
    else lone (text_meaning place) below

-- A key's value: the node that begins on its line, otherwise the node of the lines below.
abbrev pub value : (List ContentLine → Option Meaning) → (ContentLine → List ContentLine → Option Meaning) → ContentLine
    → List ContentLine → Option Meaning
value node line place below = if is_nil place.content then node below else line place below

-- a key's value as a content line, as deep as its line
abbrev pub value_place : ContentLine → KeyAndValue → ContentLine
value_place head entry = record { indent = head.indent; content = entry.value; block = head.block }

-- a key with its value
abbrev pub row : (List ContentLine → Option Meaning) → (ContentLine → List ContentLine → Option Meaning) → BlockPart
    → KeyAndValue → Option Row
row node line part entry = option_map (λ v. (entry.key, v)) (value node line (value_place part.head entry) part.below)

-- An entry of a table: a key with its value. Each key has the same indentation.
abbrev pub entry : (List ContentLine → Option Meaning) → (ContentLine → List ContentLine → Option Meaning) → ℕ
    → BlockPart → Option Row
entry node line indent part =
    if part.head.indent == indent then option_and_then (row node line part) (entry_of_line part.head.content) else None

-- a table's rows, if no key occurs twice (section 3.2.1.3 "Node Comparison")
abbrev pub distinct : List Row → Option (List Row)
distinct rs = if keys_differ rs then Some rs else None

-- the items of a list; `first` is its first line, `later` the lines after it
abbrev pub items : (List ContentLine → Option Meaning) → ContentLine → List ContentLine → Option (List Meaning)
items node first later = all_of (item node first.indent) (parts (is_deeper first.indent) (first ∷ later))

-- the keys of a table with their values; `first` is its first line, `later` the lines after it
abbrev pub rows : (List ContentLine → Option Meaning) → (ContentLine → List ContentLine → Option Meaning) → ContentLine
    → List ContentLine → Option (List Row)
rows node line first later =
    option_and_then distinct (all_of (entry node line first.indent) (parts (is_below_key first.indent) (first ∷ later)))

-- what a list and a table mean
abbrev pub list_meaning : Option (List Meaning) → Option Meaning
list_meaning found = option_map (λ ms. list (meanings_of ms)) found

abbrev pub table_meaning : Option (List Row) → Option Meaning
table_meaning found = option_map (λ rs. table (members_of rs)) found

-- A node by its first line: a list if it begins with a dash, a table if it begins with a key, otherwise
-- what is on that line. `own` is the last of these.
abbrev pub block : (List ContentLine → Option Meaning) → (ContentLine → List ContentLine → Option Meaning)
    → Option Meaning → Bool → Bool → ContentLine → List ContentLine → Option Meaning
block node line own true keyed first later = list_meaning (items node first later)
block node line own false true first later = table_meaning (rows node line first later)
block node line own false false first later = own

-- What lines mean, if at most `room` nodes may be nested: texts and empty nodes count.
unfoldable pub node : ℕ → List ContentLine → Option Meaning
node zero lines = None
node (suc room) [] = Some empty
node (suc room) (first ∷ later) =
    block (node room) (line_node room) (line_node (suc room) first later) (is_item first.content)
    (is_some (entry_of_line first.content)) first later

-- What the lines of a whole text mean. No block text is one, and the lines of a flow may have any depth.
unfoldable pub whole_text : ℕ → List ContentLine → Option Meaning
whole_text room [] = node room []
whole_text room (first ∷ later) =
    if begins_block first.content then None
    else (if begins_flow first.content then flow room first.content later else node room (first ∷ later))
