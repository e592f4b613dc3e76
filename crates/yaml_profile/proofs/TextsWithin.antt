-- What is read has no text and no key that is longer than the bytes: of the lines of a text, and of flows.
use Rattle.std.proofs.Common.{◌≡◌, ℕ, zero, suc, ◌+◌, ◌≤◌, Bool, true, false, cond, ◌&&◌, List, [], ◌∷◌, ◌++◌, length, drop, Option, Some, None, option_map, option_and_then, is_some, eqb, ltb, refl, sym, ap, ◌∙◌, subst, arith}
use Rattle.std.specs.List.{AllByRecursion, prefix_len, list_all}
use Rattle.std.specs.Char.{encode_utf8}
use Rattle.std.specs.Str.{is_utf8, chars, encode_utf8_all}
use Rattle.std.proofs.lemmas.Bool.{ltb-false}
use Rattle.std.proofs.lemmas.List.{length-append}
use Rattle.std.proofs.lemmas.Str.{encodes-append}
use Rattle.yaml_lines.specs.BlockTexts.{begins_block}
use Rattle.yaml_lines.specs.Characters.{most_bytes, characters_of, is_blank, is_nil, is_over, begins_with, comment_or_end, without_mark}
use Rattle.yaml_lines.specs.Entries.{ContentLine, is_item, item_of, rest_of, rest_behind, entry_of_line}
use Rattle.yaml_lines.specs.FlowLines.{begins_flow as begins_flow_line}
use Rattle.yaml_lines.specs.FlowGaps.{after_gap}
use Rattle.yaml_lines.specs.FlowTexts.{is_key_end, text_at}
use Rattle.yaml_lines.specs.Lines.{content_lines_of, content_lines_of_bytes}
use Rattle.yaml_lines.specs.Meaning.{Meaning, text, list, table, meanings_of, members_of, most_nodes}
use Rattle.yaml_lines.specs.Quoted.{begins_quoted, quoted_of}
use Rattle.yaml_lines.specs.Plain.{plain_of}
use Rattle.yaml_lines.specs.Scalars.{alone, scalar_meaning}
use Rattle.yaml_flows.specs.Flows as flows
use Rattle.yaml_flows.specs.Flows.{Found, mapped, next_part, part, parts_within, list_at, table_at, text_node, begins_list_or_table, is_end, flow_meaning}
use Rattle.yaml_flows.specs.Keys.{Row, keys_differ}
use Rattle.yaml_profile.specs.Blocks as blocks
use Rattle.yaml_profile.specs.Blocks.{BlockPart, Cut, put, cut, further, block, node, line_node, whole_text}
use Rattle.yaml_profile.specs.Text.{meaning_of}
use Rattle.yaml_profile.specs.TextsWithin.{HasTextsWithin, ItemsHaveTextsWithin, RowsHaveTextsWithin}
use Rattle.yaml_profile.proofs.Holds.{Holds, map_to, then_to, either, if_true, weaker, all_hold}
use Rattle.yaml_profile.proofs.LineWeights.{HasBlockWithin, BlockWithin, total, Fit, content_lines_fit}
use Rattle.yaml_profile.proofs.Weights.{weight, weight-cons, one_less, drop_within, after_gap_within, LengthWithin, EntryWithin, TextWithin, QuotedWithin, quoted_fits, plain_fits, entry_fits, text_fits}

abbrev RowWithin : ℕ → Row → Type 0
RowWithin n r = (length r.0 ≤ n) × HasTextsWithin n r.1

items_from : (n : ℕ) (ms : List Meaning) → AllByRecursion (HasTextsWithin n) ms → ItemsHaveTextsWithin n (meanings_of ms)
items_from n [] h = tt
items_from n (m ∷ ms) h = (h.0, items_from n ms h.1)

rows_from : (n : ℕ) (rs : List Row) → AllByRecursion (RowWithin n) rs → RowsHaveTextsWithin n (members_of rs)
rows_from n [] h = tt
rows_from n (r ∷ rs) h = (h.0.0, h.0.1, rows_from n rs h.1)

-- ---- flows

-- what is found, and what follows it takes no more than this
abbrev FoundWithin : {A : Type 0} → (A → Type 0) → ℕ → Found A → Type 0
FoundWithin P n found = P found.value × (weight found.rest ≤ n)

abbrev Takes : ℕ → List ℕ → Type 0
Takes n cs = weight cs ≤ n

-- what a reading finds in characters that take no more than this
abbrev Reads : {A : Type 0} → (A → Type 0) → ℕ → (List ℕ → Option (Found A)) → Type 0
Reads P n read = (cs : List ℕ) → weight cs ≤ n → Holds (FoundWithin P n) (read cs)

gap_takes : (n : ℕ) (cs : List ℕ) → weight cs ≤ n → weight (after_gap cs) ≤ n
gap_takes n cs h = let gap : weight (after_gap cs) ≤ weight cs = after_gap_within cs in omega arith

tail_takes : (n c : ℕ) (cs : List ℕ) → weight (c ∷ cs) ≤ n → weight cs ≤ n
tail_takes n c cs h = let less : 1 + weight cs ≤ weight (c ∷ cs) = one_less c cs in omega arith

next_takes : (n close : ℕ) (cs : List ℕ) → weight cs ≤ n → Holds (Takes n) (next_part close cs)
next_takes n close [] h = tt
next_takes n close (c ∷ cs) h =
    either (Takes n) (eqb c 44) (Some (after_gap cs)) _ (gap_takes n cs (tail_takes n c cs h)) (if_true (Takes n) (eqb c close) (c ∷ cs) (λ _. h))

part_found : {A : Type 0} (P : A → Type 0) (n close : ℕ) (read : List ℕ → Option (Found A)) → Reads P n read → Reads P n (part close read)
part_found P n close read h cs few =
    then_to (FoundWithin P n) (FoundWithin P n) _
    (λ found p. map_to (Takes n) (FoundWithin P n) _ (λ rest q. (p.0, q)) _ (next_takes n close (after_gap found.rest) (gap_takes n found.rest p.1))) (read cs) (h cs few)

drop_takes : (n : ℕ) (cs : List ℕ) → weight cs ≤ n → weight (drop 1 cs) ≤ n
drop_takes n cs h = let dropped : weight (drop 1 cs) ≤ weight cs = drop_within 1 cs in omega arith

parts_found : {A : Type 0} (P : A → Type 0) (n close : ℕ) (read : List ℕ → Option (Found A)) → Reads P n read → (most : ℕ) → Reads (AllByRecursion P) n (parts_within close read most)
unfolding parts_within
parts_found P n close read h zero cs few = tt
parts_found P n close read h (suc most) cs few =
    either (FoundWithin (AllByRecursion P) n) (begins_with close cs) _ _ (tt, drop_takes n cs few)
    (then_to (FoundWithin P n) (FoundWithin (AllByRecursion P) n) _
    (λ found p. map_to (FoundWithin (AllByRecursion P) n) (FoundWithin (AllByRecursion P) n) _ (λ others q. ((p.0, q.0), q.1)) _ (parts_found P n close read h most found.rest p.1))
    (part close read cs)
    (part_found P n close read h cs few))

colon_takes : (n : ℕ) (quoted : Bool) (cs : List ℕ) → weight cs ≤ n → Holds (Takes n) (flows.after_flow_colon quoted cs)
colon_takes n quoted [] h = tt
colon_takes n quoted (c ∷ cs) h = if_true (Takes n) (is_key_end quoted c cs) cs (λ _. tail_takes n c cs h)

text_found : (n : ℕ) (cs : List ℕ) → weight cs ≤ n → Holds (TextWithin n) (text_at cs)
text_found n cs few =
    weaker (TextWithin (weight cs)) (TextWithin n) (λ t h. (let length_within = h.0 in omega arith, let rest_within = h.1 in omega arith)) (text_at cs) (text_fits cs)

entry_found : (n : ℕ) (read : List ℕ → Option (Found Meaning)) → Reads (HasTextsWithin n) n read → Reads (RowWithin n) n (flows.entry read)
entry_found n read h cs few =
    then_to (TextWithin n) (FoundWithin (RowWithin n) n) (flows.flow_row_of read)
    (λ key k. then_to (Takes n) (FoundWithin (RowWithin n) n) (λ value. option_map (mapped (λ m. (key.text, m))) (read (after_gap value)))
    (λ value v. map_to (FoundWithin (HasTextsWithin n) n) (FoundWithin (RowWithin n) n) (mapped (λ m. (key.text, m))) (λ found p. ((k.0, p.0), p.1)) (read (after_gap value))
    (h (after_gap value) (gap_takes n value v)))
    (flows.after_flow_colon key.quoted (after_gap key.rest)) (colon_takes n key.quoted (after_gap key.rest) (gap_takes n key.rest k.1)))
    (text_at cs) (text_found n cs few)

list_found : (n : ℕ) (read : List ℕ → Option (Found Meaning)) → Reads (HasTextsWithin n) n read → Reads (HasTextsWithin n) n (list_at read)
list_found n read h cs few =
    map_to (FoundWithin (AllByRecursion (HasTextsWithin n)) n) (FoundWithin (HasTextsWithin n) n) _ (λ found p. (items_from n found.value p.0, p.1)) _
    (parts_found (HasTextsWithin n) n 93 read h _ _ (gap_takes n cs few))

table_found : (n : ℕ) (read : List ℕ → Option (Found Meaning)) → Reads (HasTextsWithin n) n read → Reads (HasTextsWithin n) n (table_at read)
table_found n read h cs few =
    map_to (FoundWithin (AllByRecursion (RowWithin n)) n) (FoundWithin (HasTextsWithin n) n) _ (λ found p. (rows_from n found.value p.0, p.1)) _
    (then_to (FoundWithin (AllByRecursion (RowWithin n)) n) (FoundWithin (AllByRecursion (RowWithin n)) n) _
    (λ found p. if_true (FoundWithin (AllByRecursion (RowWithin n)) n) (keys_differ found.value) found (λ _. p)) _
    (parts_found (RowWithin n) n 125 (flows.entry read) (entry_found n read h) _ _ (gap_takes n cs few)))

flow_node : (n room : ℕ) → Reads (HasTextsWithin n) n (flows.node room)
unfolding flows.node
flow_node n zero cs few = tt
flow_node n (suc room) [] few = tt
flow_node n (suc room) (c ∷ cs) few =
    let P = FoundWithin (HasTextsWithin n) n in
    either P (eqb c 91) _ _ (list_found n (flows.node room) (flow_node n room) cs (tail_takes n c cs few))
    (either P (eqb c 123) _ _ (table_found n (flows.node room) (flow_node n room) cs (tail_takes n c cs few))
    (map_to (TextWithin n) P text_node (λ t h. h) (text_at (c ∷ cs)) (text_found n (c ∷ cs) few)))

flow_within : (n room : ℕ) (cs : List ℕ) → weight cs ≤ n → Holds (HasTextsWithin n) (flow_meaning room cs)
unfolding flow_meaning
flow_within n room cs few =
    either (HasTextsWithin n) (begins_list_or_table cs) _ None
    (then_to (FoundWithin (HasTextsWithin n) n) (HasTextsWithin n) _ (λ found p. if_true (HasTextsWithin n) (is_end found.rest) found.value (λ _. p.0)) (flows.node room cs) (flow_node n room cs few))
    tt

-- ---- lines

scalar_within : (n : ℕ) (content : List ℕ) → weight content ≤ n → Holds (HasTextsWithin n) (scalar_meaning content)
unfolding scalar_meaning
scalar_within n content few =
    either (HasTextsWithin n) (begins_quoted content) _ _
    (then_to (QuotedWithin (weight content)) (HasTextsWithin n) alone (λ quoted h. if_true (HasTextsWithin n) (is_over quoted.rest) (text quoted.text true) (λ _. omega arith)) (quoted_of content)
    (quoted_fits content))
    (map_to (LengthWithin (weight content)) (HasTextsWithin n) (λ bytes. text bytes false) (λ bytes h. omega arith) (plain_of content) (plain_fits content))

lone_within : (n : ℕ) (o : Option Meaning) (below : List ContentLine) → Holds (HasTextsWithin n) o → Holds (HasTextsWithin n) (blocks.lone o below)
lone_within n o [] h = h
lone_within n o (line ∷ lines) h = tt

block_within : (n : ℕ) (o : Option (List ℕ)) → BlockWithin n o → Holds (HasTextsWithin n) (option_map (λ bytes. text bytes false) o)
block_within n None h = tt
block_within n (Some bytes) h = h

weight-append : (cs ds : List ℕ) → weight (cs ++ ds) ≡ weight cs + weight ds
weight-append cs ds =
    ap (λ (bytes : List ℕ). length bytes) (encodes-append cs ds) ∙ length-append (encode_utf8_all cs) (encode_utf8_all ds)

further_weight : (lines : List ContentLine) → weight (further lines) ≤ total lines
unfolding further encode_utf8
further_weight [] = omega arith
further_weight (p ∷ ps) =
    let rest : weight (further ps) ≤ total ps = further_weight ps in
    let both : weight (p.content ++ further ps) ≡ weight p.content + weight (further ps) = weight-append p.content (further ps) in
    let all : weight (10 ∷ (p.content ++ further ps)) ≡ 1 + weight (p.content ++ further ps) = weight-cons 10 (p.content ++ further ps) in
    omega arith

-- content lines whose contents follow one another take no more than this, but for the first's end
abbrev AreWithin : ℕ → List ContentLine → Type 0
AreWithin n lines = Fit n (suc n) lines

line_within : (n room : ℕ) (place : ContentLine) (below : List ContentLine) → AreWithin n (place ∷ below) → Holds (HasTextsWithin n) (line_node room place below)
line_within n zero place below h = tt
line_within n (suc room) place below h =
    let few = h.1 in
    let rest : weight (further below) ≤ total below = further_weight below in
    let both : weight (place.content ++ further below) ≡ weight place.content + weight (further below) = weight-append place.content (further below) in
    either (HasTextsWithin n) (begins_flow_line place.content) _ _
    (either (HasTextsWithin n) (list_all (blocks.is_in_flow place.indent) below) _ None (flow_within n (suc room) (place.content ++ further below) (omega arith)) tt)
    (lone_within n _ below (either (HasTextsWithin n) (begins_block place.content) _ _ (block_within n place.block h.0.0) (scalar_within n place.content (omega arith))))

-- ---- parts

abbrev PartWithin : ℕ → BlockPart → Type 0
PartWithin n part = AreWithin n (part.head ∷ part.below)

put_before : (n m : ℕ) (b : Bool) (line : ContentLine) (rest : Cut) → HasBlockWithin n line → Fit n m rest.before → Fit n (1 + (weight line.content + m)) (put b line rest).before
put_before n m true line rest h k = let few = k.1 in ((h, k.0), omega arith)
put_before n m false line rest h k = (tt, omega arith)

cut_before : (n : ℕ) (belongs : ContentLine → Bool) (lines : List ContentLine) → AllByRecursion (HasBlockWithin n) lines → Fit n (total lines) (cut belongs lines).before
unfolding cut
cut_before n belongs [] h = (tt, omega arith)
cut_before n belongs (line ∷ lines) h = put_before n (total lines) (belongs line) line (cut belongs lines) h.0 (cut_before n belongs lines h.1)

put_parts : (n : ℕ) (b : Bool) (line : ContentLine) (rest : Cut) → AreWithin n (line ∷ rest.before) → AllByRecursion (PartWithin n) rest.parts → AllByRecursion (PartWithin n) (put b line rest).parts
put_parts n true line rest h k = k
put_parts n false line rest h k = (h, k)

first_within : (n m : ℕ) (line : ContentLine) (before lines : List ContentLine) → HasBlockWithin n line → Fit n (total lines) before → total (line ∷ lines) ≤ m → Fit n m (line ∷ before)
first_within n m line before lines h k few = let less = k.1 in ((h, k.0), omega arith)

cut_parts : (n : ℕ) (belongs : ContentLine → Bool) (lines : List ContentLine) → AllByRecursion (HasBlockWithin n) lines → total lines ≤ suc n → AllByRecursion (PartWithin n) (cut belongs lines).parts
unfolding cut
cut_parts n belongs [] h few = tt
cut_parts n belongs (line ∷ lines) h few =
    put_parts n (belongs line) line (cut belongs lines) (first_within n (suc n) line (cut belongs lines).before lines h.0 (cut_before n belongs lines h.1) few)
    (cut_parts n belongs lines h.1 (omega arith))

parts_within_all : (n : ℕ) (belongs : ContentLine → Bool) (first : ContentLine) (later : List ContentLine) → AreWithin n (first ∷ later)
    → AllByRecursion (PartWithin n) (blocks.parts belongs (first ∷ later))
parts_within_all n belongs first later h =
    let few = h.1 in
    (first_within n (suc n) first (cut belongs later).before later h.0.0 (cut_before n belongs later h.0.1) few, cut_parts n belongs later h.0.1 (omega arith))

-- the line that stands after a dash, with the lines below it
abbrev FrontWithin : ℕ → List ContentLine → List ContentLine → Type 0
FrontWithin n below front = AreWithin n (front ++ below)

behind_within : (n at : ℕ) (own : Option (List ℕ)) (spaces : Bool) (cs : List ℕ) (below : List ContentLine) → AllByRecursion (HasBlockWithin n) below → BlockWithin n own
    → 1 + (weight cs + total below) ≤ suc n
    → Holds (FrontWithin n below) (rest_behind at own spaces cs)
behind_within n at own spaces cs below h k few =
    either (FrontWithin n below) (comment_or_end cs) (Some []) _ (h, omega arith)
    (if_true (FrontWithin n below) spaces (record { indent = at; content = cs; block = own } ∷ []) (λ _. ((k, h), few)))

item_within : (n : ℕ) (head : ContentLine) (below : List ContentLine) → AreWithin n (head ∷ below) → Holds (FrontWithin n below) (item_of head)
unfolding item_of rest_of
item_within n head below h =
    let few = h.1 in
    let dash : weight (drop 1 head.content) ≤ weight head.content = drop_within 1 head.content in
    let blanks : ℕ = prefix_len is_blank (drop 1 head.content) in
    let rest : weight (drop blanks (drop 1 head.content)) ≤ weight (drop 1 head.content) = drop_within blanks (drop 1 head.content) in
    behind_within n _ head.block _ (drop blanks (drop 1 head.content)) below h.0.1 h.0.0 (omega arith)

module _ (n : ℕ) (node : List ContentLine → Option Meaning) (line : ContentLine → List ContentLine → Option Meaning)
    (h : (lines : List ContentLine) → AreWithin n lines → Holds (HasTextsWithin n) (node lines))
    (k : (place : ContentLine) (below : List ContentLine) → AreWithin n (place ∷ below) → Holds (HasTextsWithin n) (line place below)) where
  an_item : (indent : ℕ) (part : BlockPart) → PartWithin n part → Holds (HasTextsWithin n) (blocks.item node indent part)
  an_item indent part p =
      either (HasTextsWithin n) (eqb part.head.indent indent && is_item part.head.content) _ None
      (then_to (FrontWithin n part.below) (HasTextsWithin n) (λ front. node (front ++ part.below)) (λ front q. h (front ++ part.below) q) (item_of part.head) (item_within n part.head part.below p)) tt

  a_value : (place : ContentLine) (below : List ContentLine) → AreWithin n (place ∷ below) → Holds (HasTextsWithin n) (blocks.value node line place below)
  a_value place below p = let few = p.1 in either (HasTextsWithin n) (is_nil place.content) (node below) (line place below) (h below (p.0.1, omega arith)) (k place below p)

  an_entry : (indent : ℕ) (part : BlockPart) → PartWithin n part → Holds (RowWithin n) (blocks.entry node line indent part)
  an_entry indent part p =
      let few = p.1 in
      either (RowWithin n) (eqb part.head.indent indent) _ None
      (then_to (EntryWithin (weight part.head.content)) (RowWithin n) (blocks.row node line part)
      (λ entry e.
      let key = e.0 in
      let value = e.1 in
      map_to (HasTextsWithin n) (RowWithin n) (λ v. (entry.key, v)) (λ v q. (omega arith, q)) (blocks.value node line (blocks.value_place part.head entry) part.below)
      (a_value (blocks.value_place part.head entry) part.below (p.0, omega arith)))
      (entry_of_line part.head.content) (entry_fits part.head.content)) tt

  a_block : (own : Option Meaning) (listed keyed : Bool) (first : ContentLine) (later : List ContentLine) → AreWithin n (first ∷ later) → Holds (HasTextsWithin n) own
      → Holds (HasTextsWithin n) (block node line own listed keyed first later)
  a_block own true keyed first later p o =
      map_to (AllByRecursion (HasTextsWithin n)) (HasTextsWithin n) (λ ms. list (meanings_of ms)) (λ ms q. items_from n ms q) (blocks.items node first later)
      (all_hold (PartWithin n) (HasTextsWithin n) (blocks.item node first.indent) (an_item first.indent) (blocks.parts (blocks.is_deeper first.indent) (first ∷ later))
      (parts_within_all n (blocks.is_deeper first.indent) first later p))
  a_block own false true first later p o =
      map_to (AllByRecursion (RowWithin n)) (HasTextsWithin n) (λ rs. table (members_of rs)) (λ rs q. rows_from n rs q) (blocks.rows node line first later)
      (then_to (AllByRecursion (RowWithin n)) (AllByRecursion (RowWithin n)) blocks.distinct (λ rs q. if_true (AllByRecursion (RowWithin n)) (keys_differ rs) rs (λ _. q))
      (blocks.all_of (blocks.entry node line first.indent) (blocks.parts (blocks.is_below_key first.indent) (first ∷ later)))
      (all_hold (PartWithin n) (RowWithin n) (blocks.entry node line first.indent) (an_entry first.indent) (blocks.parts (blocks.is_below_key first.indent) (first ∷ later))
      (parts_within_all n (blocks.is_below_key first.indent) first later p)))
  a_block own false false first later p o = o

node_within : (n room : ℕ) (lines : List ContentLine) → AreWithin n lines → Holds (HasTextsWithin n) (node room lines)
unfolding node
node_within n zero lines h = tt
node_within n (suc room) [] h = tt
node_within n (suc room) (first ∷ later) h =
    a_block n (node room) (line_node room) (node_within n room) (line_within n room) (line_node (suc room) first later) (is_item first.content) (is_some (entry_of_line first.content)) first later h
    (line_within n (suc room) first later h)

whole_within : (n room : ℕ) (lines : List ContentLine) → AreWithin n lines → Holds (HasTextsWithin n) (whole_text room lines)
unfolding whole_text
whole_within n room [] h = node_within n room [] h
whole_within n room (first ∷ later) h =
    let few = h.1 in
    let rest : weight (further later) ≤ total later = further_weight later in
    let both : weight (first.content ++ further later) ≡ weight first.content + weight (further later) = weight-append first.content (further later) in
    either (HasTextsWithin n) (begins_block first.content) None _ tt
    (either (HasTextsWithin n) (begins_flow_line first.content) _ _ (flow_within n room (first.content ++ further later) (omega arith)) (node_within n room (first ∷ later) h))

text_within : (bytes : List ℕ) → Holds (HasTextsWithin (length bytes)) (meaning_of bytes)
unfolding meaning_of
text_within bytes =
    then_to (AreWithin (length bytes)) (HasTextsWithin (length bytes)) (whole_text most_nodes) (whole_within (length bytes) most_nodes) (content_lines_of_bytes bytes) (content_lines_fit bytes)

-- of a text that is read
pub texts_within : (bytes : List ℕ) (meant : Meaning) → meaning_of bytes ≡ Some meant → HasTextsWithin (length bytes) meant
texts_within bytes meant e = subst (Holds (HasTextsWithin (length bytes))) e (text_within bytes)

-- ---- how long a text is that is read

none_left : (bytes : List ℕ) → ltb most_bytes (length bytes) ≡ true → meaning_of bytes ≡ None
unfolding meaning_of content_lines_of_bytes characters_of
none_left bytes e =
    ap
    (λ (b : Bool).
    option_and_then (whole_text most_nodes) (option_and_then content_lines_of (cond b None (cond (is_utf8 bytes) (Some (without_mark (chars bytes))) None))))
    e

none_is : (meant : Meaning) → None ≡ Some meant → ⊥
none_is meant e = cc

by_test : (bytes : List ℕ) (meant : Meaning) (b : Bool) → ltb most_bytes (length bytes) ≡ b → meaning_of bytes ≡ Some meant → length bytes ≤ most_bytes
by_test bytes meant true e is = absurd (none_is meant (sym (none_left bytes e) ∙ is))
by_test bytes meant false e is = ltb-false most_bytes (length bytes) e

pub few_bytes : (bytes : List ℕ) (meant : Meaning) → meaning_of bytes ≡ Some meant → length bytes ≤ most_bytes
few_bytes bytes meant is = by_test bytes meant (ltb most_bytes (length bytes)) refl is
