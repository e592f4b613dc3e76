-- Places that are all moved to the right mean the same.
use Rattle.std.proofs.Common.{◌≡◌, ℕ, zero, suc, ◌+◌, Bool, true, false, cond, ◌&&◌, ◌||◌, eqb, ltb, List, [], ◌∷◌, ◌++◌, map, take, drop, Option, Some, None, option_map, option_and_then, is_some, refl, sym, ap, ap₂, ◌∙◌, arith}
use Rattle.std.proofs.lemmas.Bool.{lt-ltb, le-ltb, ltb-true, ltb-false, eqb-true, eq-eqb, ne_eqb}
use Rattle.std.proofs.lemmas.List.{map-append}
use Rattle.std.specs.List.{prefix_len, list_all}
use Rattle.yaml_lines.specs.BlockTexts.{begins_block}
use Rattle.yaml_lines.specs.Characters.{is_blank, is_space, is_nil, comment_or_end}
use Rattle.yaml_lines.specs.Entries.{ContentLine, KeyAndValue, is_item, rest_behind, rest_of, item_of, entry_of_line}
use Rattle.yaml_lines.specs.FlowLines.{begins_flow}
use Rattle.yaml_lines.specs.Meaning.{Meaning}
use Rattle.yaml_flows.specs.Flows.{flow_meaning}
use Rattle.yaml_flows.specs.Keys.{Row}
use Rattle.yaml_profile.specs.Blocks.{BlockPart, Cut, put, cut, parts, is_deeper, begins_closing, is_below_key, is_in_flow, all_of, item, lone, text_meaning, further, flow, line_node, value, value_place, row, entry, distinct, items, rows, list_meaning, table_meaning, block, node, whole_text}
use Rattle.yaml_profile.specs.Moved.{moved}

-- ---- tests of an indentation

below_by : (a b n : ℕ) (t : Bool) → ltb a b ≡ t → ltb (a + n) (b + n) ≡ t
below_by a b n true e = lt-ltb (a + n) (b + n) (let h = ltb-true a b e in omega arith)
below_by a b n false e = le-ltb (a + n) (b + n) (let h = ltb-false a b e in omega arith)

below_moved : (a b n : ℕ) → ltb (a + n) (b + n) ≡ ltb a b
below_moved a b n = below_by a b n (ltb a b) refl

same_by : (a b n : ℕ) (t : Bool) → eqb a b ≡ t → eqb (a + n) (b + n) ≡ t
same_by a b n true e = eq-eqb (a + n) (b + n) (ap (λ (k : ℕ). k + n) (eqb-true a b e))
same_by a b n false e = ne_eqb (a + n) (b + n) (λ f. let t = eq-eqb a b (omega arith) in absurd (cc))

same_moved : (a b n : ℕ) → eqb (a + n) (b + n) ≡ eqb a b
same_moved a b n = same_by a b n (eqb a b) refl

deeper_moved : (n indent : ℕ) (p : ContentLine) → is_deeper (indent + n) (moved n p) ≡ is_deeper indent p
deeper_moved n indent p = below_moved indent p.indent n

in_flow_moved : (n indent : ℕ) (p : ContentLine) → is_in_flow (indent + n) (moved n p) ≡ is_in_flow indent p
in_flow_moved n indent p =
    ap₂ (λ (a b : Bool). a || (b && begins_closing p.content)) (below_moved indent p.indent n) (same_moved p.indent indent n)

below_key_moved : (n indent : ℕ) (p : ContentLine) → is_below_key (indent + n) (moved n p) ≡ is_below_key indent p
below_key_moved n indent p =
    ap₂ (λ (a b : Bool). a || (b && (is_item p.content || begins_closing p.content))) (below_moved indent p.indent n) (same_moved p.indent indent n)

-- ---- parts

moved_part : ℕ → BlockPart → BlockPart
moved_part n part = record { head = moved n part.head; below = map (moved n) part.below }

moved_cut : ℕ → Cut → Cut
moved_cut n c = record { before = map (moved n) c.before; parts = map (moved_part n) c.parts }

put_moved : (n : ℕ) (b : Bool) (p : ContentLine) (c : Cut) → put b (moved n p) (moved_cut n c) ≡ moved_cut n (put b p c)
unfolding moved_cut moved_part
put_moved n true p c = refl
put_moved n false p c = refl

module _ (n : ℕ) (test other : ContentLine → Bool) (same : (p : ContentLine) → test (moved n p) ≡ other p) where
  cut_moved : (ps : List ContentLine) → cut test (map (moved n) ps) ≡ moved_cut n (cut other ps)
  unfolding cut moved_cut
  cut_moved [] = refl
  cut_moved (p ∷ ps) = ap₂ (λ (b : Bool) (c : Cut). put b (moved n p) c) (same p) (cut_moved ps) ∙ put_moved n (other p) p (cut other ps)

  parts_moved : (first : ContentLine) (later : List ContentLine) → parts test (moved n first ∷ map (moved n) later) ≡ map (moved_part n) (parts other (first ∷ later))
  unfolding moved_cut moved_part
  parts_moved first later =
      let f : Cut → List BlockPart = λ c. record { head = moved n first; below = c.before } ∷ c.parts in ap f (cut_moved later)

  all_moved : (ps : List ContentLine) → list_all test (map (moved n) ps) ≡ list_all other ps
  all_moved [] = refl
  all_moved (p ∷ ps) = ap₂ (λ (a b : Bool). a && b) (same p) (all_moved ps)

all_of_moved : {B : Type 0} (n : ℕ) (f g : BlockPart → Option B) → ((part : BlockPart) → f (moved_part n part) ≡ g part) → (ps : List BlockPart) → all_of f (map (moved_part n) ps) ≡ all_of g ps
unfolding all_of
all_of_moved n f g same [] = refl
all_of_moved {B} n f g same (p ∷ ps) =
    ap₂ (λ (o : Option B) (os : Option (List B)). option_and_then (λ y. option_map (λ ys. y ∷ ys) os) o) (same p) (all_of_moved n f g same ps)

-- ---- what follows a dash

abbrev all_right : ℕ → Option (List ContentLine) → Option (List ContentLine)
all_right n o = option_map (map (moved n)) o

rest_by : (n at : ℕ) (block : Option (List ℕ)) (over spaces : Bool) (cs : List ℕ)
    → cond over (Some []) (cond spaces (Some (record { indent = at + n; content = cs; block = block } ∷ [])) None)
    ≡ all_right n (cond over (Some []) (cond spaces (Some (record { indent = at; content = cs; block = block } ∷ [])) None))
rest_by n at block true spaces cs = refl
rest_by n at block false true cs = refl
rest_by n at block false false cs = refl

item_moved : (n : ℕ) (p : ContentLine) → item_of (moved n p) ≡ all_right n (item_of p)
unfolding item_of rest_of
item_moved n p =
    let cs : List ℕ = drop 1 p.content in
    let k : ℕ = prefix_len is_blank cs in
    let at : p.indent + n + 1 + k ≡ p.indent + 1 + k + n = omega arith in
    ap (λ (at : ℕ). rest_behind at p.block (list_all is_space (take k cs)) (drop k cs)) at
    ∙ rest_by n (p.indent + 1 + k) p.block (comment_or_end (drop k cs)) (list_all is_space (take k cs)) (drop k cs)

-- ---- flows and texts

further_moved : (n : ℕ) (ps : List ContentLine) → further (map (moved n) ps) ≡ further ps
unfolding further
further_moved n [] = refl
further_moved n (p ∷ ps) = ap (λ (cs : List ℕ). 10 ∷ (p.content ++ cs)) (further_moved n ps)

flow_moved : (n room : ℕ) (content : List ℕ) (ps : List ContentLine) → flow room content (map (moved n) ps) ≡ flow room content ps
flow_moved n room content ps = ap (λ (cs : List ℕ). flow_meaning room (content ++ cs)) (further_moved n ps)

lone_moved : (n : ℕ) (o : Option Meaning) (ps : List ContentLine) → lone o (map (moved n) ps) ≡ lone o ps
lone_moved n o [] = refl
lone_moved n o (p ∷ ps) = refl

line_moved : (n room : ℕ) (p : ContentLine) (below : List ContentLine) → line_node room (moved n p) (map (moved n) below) ≡ line_node room p below
line_moved n zero p below = refl
line_moved n (suc room) p below =
    ap₂ (λ (a b : Option Meaning). cond (begins_flow p.content) a b)
    (ap₂ (λ (b : Bool) (o : Option Meaning). cond b o None) (all_moved n (is_in_flow (p.indent + n)) (is_in_flow p.indent) (in_flow_moved n p.indent) below) (flow_moved n (suc room) p.content below))
    (lone_moved n (text_meaning p) below)

-- ---- items and entries

module _ (n : ℕ) (node : List ContentLine → Option Meaning) (line : ContentLine → List ContentLine → Option Meaning)
    (same_node : (ps : List ContentLine) → node (map (moved n) ps) ≡ node ps)
    (same_line : (p : ContentLine) (below : List ContentLine) → line (moved n p) (map (moved n) below) ≡ line p below) where
  inner_moved : (o : Option (List ContentLine)) (below : List ContentLine)
      → option_and_then (λ front. node (front ++ map (moved n) below)) (all_right n o) ≡ option_and_then (λ front. node (front ++ below)) o
  inner_moved None below = refl
  inner_moved (Some front) below = ap node (sym (map-append (moved n) front below)) ∙ same_node (front ++ below)

  item_same : (indent : ℕ) (part : BlockPart) → item node (indent + n) (moved_part n part) ≡ item node indent part
  unfolding moved_part
  item_same indent part =
      let head : ContentLine = part.head in
      let below : List ContentLine = part.below in
      ap₂ (λ (b : Bool) (o : Option Meaning). cond (b && is_item head.content) o None) (same_moved head.indent indent n)
      (ap (λ (o : Option (List ContentLine)). option_and_then (λ front. node (front ++ map (moved n) below)) o) (item_moved n head) ∙ inner_moved (item_of head) below)

  value_same : (p : ContentLine) (below : List ContentLine) → value node line (moved n p) (map (moved n) below) ≡ value node line p below
  value_same p below = ap₂ (λ (a b : Option Meaning). cond (is_nil p.content) a b) (same_node below) (same_line p below)

  row_same : (part : BlockPart) (o : Option KeyAndValue) → option_and_then (row node line (moved_part n part)) o ≡ option_and_then (row node line part) o
  unfolding moved_part
  row_same part None = refl
  row_same part (Some found) = ap (λ (o : Option Meaning). option_map (λ v. (found.key, v)) o) (value_same (value_place part.head found) part.below)

  entry_same : (indent : ℕ) (part : BlockPart) → entry node line (indent + n) (moved_part n part) ≡ entry node line indent part
  unfolding moved_part
  entry_same indent part =
      ap₂ (λ (b : Bool) (o : Option Row). cond b o None) (same_moved part.head.indent indent n) (row_same part (entry_of_line part.head.content))

  items_same : (first : ContentLine) (later : List ContentLine) → items node (moved n first) (map (moved n) later) ≡ items node first later
  items_same first later =
      ap (all_of (item node (first.indent + n))) (parts_moved n (is_deeper (first.indent + n)) (is_deeper first.indent) (deeper_moved n first.indent) first later)
      ∙ all_of_moved n (item node (first.indent + n)) (item node first.indent) (item_same first.indent) (parts (is_deeper first.indent) (first ∷ later))

  rows_same : (first : ContentLine) (later : List ContentLine) → rows node line (moved n first) (map (moved n) later) ≡ rows node line first later
  rows_same first later =
      ap (option_and_then distinct)
      (ap (all_of (entry node line (first.indent + n))) (parts_moved n (is_below_key (first.indent + n)) (is_below_key first.indent) (below_key_moved n first.indent) first later)
      ∙ all_of_moved n (entry node line (first.indent + n)) (entry node line first.indent) (entry_same first.indent) (parts (is_below_key first.indent) (first ∷ later)))

  block_same : (own other : Option Meaning) (listed keyed : Bool) (first : ContentLine) (later : List ContentLine) → own ≡ other
      → block node line own listed keyed (moved n first) (map (moved n) later) ≡ block node line other listed keyed first later
  block_same own other true keyed first later e = ap list_meaning (items_same first later)
  block_same own other false true first later e = ap table_meaning (rows_same first later)
  block_same own other false false first later e = e

-- ---- nodes

pub node_moved : (room n : ℕ) (ps : List ContentLine) → node room (map (moved n) ps) ≡ node room ps
unfolding node
node_moved zero n ps = refl
node_moved (suc room) n [] = refl
node_moved (suc room) n (first ∷ later) =
    block_same n (node room) (line_node room) (node_moved room n) (line_moved n room) (line_node (suc room) (moved n first) (map (moved n) later)) (line_node (suc room) first later)
    (is_item first.content) (is_some (entry_of_line first.content)) first later (line_moved n (suc room) first later)

pub whole_moved : (room n : ℕ) (ps : List ContentLine) → whole_text room (map (moved n) ps) ≡ whole_text room ps
unfolding whole_text
whole_moved room n [] = node_moved room n []
whole_moved room n (first ∷ later) =
    ap₂ (λ (a b : Option Meaning). cond (begins_block first.content) None (cond (begins_flow first.content) a b)) (flow_moved n room first.content later) (node_moved room n (first ∷ later))
