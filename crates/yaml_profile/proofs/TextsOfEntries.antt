-- What the whole texts of a table of words mean.
use Rattle.std.proofs.Common.{◌≡◌, ℕ, ◌+◌, Bool, true, false, cond, not, ◌&&◌, ◌||◌, eqb, List, [], ◌∷◌, ◌++◌, map, drop, Option, Some, None, option_map, option_and_then, refl, ap, ap₂, ◌∙◌, arith}
use Rattle.std.proofs.lemmas.List.{append-nil}
use Rattle.std.proofs.lemmas.List.Folds.{list_all-append}
use Rattle.std.specs.List.{prefix_len, list_all, list_any, join_with_byte}
use Rattle.yaml_lines.specs.BlockTexts.{LineText}
use Rattle.yaml_lines.specs.Characters.{characters_of, is_allowed, is_space, is_blank, begins_with, blank_or_end, comment_or_end, is_over}
use Rattle.yaml_lines.specs.Entries.{ContentLine, entry_of_line}
use Rattle.yaml_lines.specs.FlowLines.{outside, state_behind}
use Rattle.yaml_lines.specs.Lines.{line_texts, ColumnValue, value_at, last_value, Left, standing, bare, with_value, with_flow, left_of, left_at_line, before_content_lines, all_content_lines, three, is_mark, is_start, unmarked, document, content_lines_from, content_lines_of}
use Rattle.yaml_lines.specs.Meaning.{Meaning, most_nodes}
use Rattle.yaml_lines.specs.Plain.{is_indicator, begins_plain}
use Rattle.yaml_profile.specs.Blocks.{further, flow, node, whole_text}
use Rattle.yaml_flows.specs.Flows.{flow_meaning}
use Rattle.yaml_profile.specs.Words.{is_word_character, is_word, WordEntry, is_word_entry, AreWordEntries, entry_text, entry_line, flow_of_entries, lines_of_entries, table_of_entries}
use Rattle.yaml_profile.specs.Text.{meaning_of}
use Rattle.yaml_profile.proofs.FlowOfWords.{flow_entries}
use Rattle.yaml_profile.proofs.LinesOfEntries.{key_entry, line_entries}
use Rattle.yaml_profile.proofs.LinesOfWords.{line_at}
use Rattle.yaml_profile.proofs.Texts.{meaning_of-characters}
use Rattle.yaml_profile.proofs.TextsOfWords.{stays, weaker, word_stays, stays_allowed, word_all, one_line, no_line_behind, word_with}
use Rattle.yaml_profile.proofs.Words.{both, or_none, and_none, apart, ordinary, IsOrdinary, no_blank, no_hash, no_dash, IsFirst, first_of_word}

-- ---- the lines

abbrev own_line : WordEntry → LineText
own_line e = record { text = entry_text e; ended = true }

entry_stays : (e : WordEntry) → is_word_entry e ≡ true → list_all stays (entry_text e) ≡ true
unfolding stays
entry_stays e good =
    let parts = both (is_word e.key) (is_word e.value) good in
    list_all-append stays e.key (58 ∷ 32 ∷ e.value)
    ∙ ap₂ (λ (a b : Bool). a && b) (weaker is_word_character stays word_stays e.key (word_all e.key parts.0)) (weaker is_word_character stays word_stays e.value (word_all e.value parts.1))

own_lines : (es : List WordEntry) → list_all is_word_entry es ≡ true → line_texts (lines_of_entries es) ≡ map own_line es
unfolding line_texts
own_lines [] all = refl
own_lines (e ∷ es) all =
    let parts = both (is_word_entry e) (list_all is_word_entry es) all in
    one_line (entry_text e) (lines_of_entries es) (entry_stays e parts.0) ∙ ap (λ (ls : List LineText). own_line e ∷ ls) (own_lines es parts.1)

-- ---- what a line leaves

module _ (c : ℕ) (cs : List ℕ) (d : ℕ) (ds : List ℕ) (k : IsFirst c cs) (w : IsFirst d ds) where
  abbrev content : List ℕ
  content = c ∷ (cs ++ 58 ∷ 32 ∷ d ∷ ds)

  own_value : last_value 0 None content ≡ Some (record { column = 0; content = d ∷ ds })
  unfolding last_value
  own_value =
      let rest : List ℕ = cs ++ 58 ∷ 32 ∷ d ∷ ds in
      let here : Option ColumnValue = value_at 0 None content (entry_of_line content) in
      ap (λ (b : Bool). cond b (last_value 1 None rest) (cond (eqb c 45 && blank_or_end rest) (last_value 1 (Some 0) rest) here)) (no_blank c k.first)
      ∙ (ap (λ (b : Bool). cond (b && blank_or_end rest) (last_value 1 (Some 0) rest) here) (no_dash c k.first)
      ∙ ap (value_at 0 None content) (key_entry c cs d ds k w))

  no_space : is_space c ≡ false
  no_space = both_none (eqb c 32) (eqb c 9) (no_blank c k.first)
    where
      both_none : (a b : Bool) → (a || b) ≡ false → a ≡ false
      both_none true b e = absurd (cc)
      both_none false b e = refl

  no_tab : eqb c 9 ≡ false
  no_tab = both_none (eqb c 32) (eqb c 9) (no_blank c k.first)
    where
      both_none : (a b : Bool) → (a || b) ≡ false → b ≡ false
      both_none true b e = absurd (cc)
      both_none false b e = e

  own_left : (later : List LineText) → list_all is_allowed content ≡ true → left_at_line (standing 0 outside) content later ≡ Some (bare 0 content outside)
  unfolding left_at_line left_of with_flow
  own_left later allowed =
      let rest : List ℕ = cs ++ 58 ∷ 32 ∷ d ∷ ds in
      let blank : Option Left = Some (record { content_line = None; next = standing 0 outside }) in
      let f : ℕ → List ℕ → Option Left = λ n t.
      cond (not (list_all is_allowed content)) None (cond (comment_or_end t) blank (cond (begins_with 9 (drop n content)) None (with_flow outside n (drop n content) later))) in
      ap₂ f (ap (λ (b : Bool). cond b (1 + prefix_len is_space rest) 0) no_space) (ap (λ (b : Bool). drop (cond b (1 + prefix_len is_blank rest) 0) content) (no_blank c k.first))
      ∙ (ap (λ (b : Bool). cond (not b) None (cond (eqb c 35) blank (cond (eqb c 9) None (with_flow outside 0 content later)))) allowed
      ∙ (ap (λ (b : Bool). cond b blank (cond (eqb c 9) None (with_flow outside 0 content later))) (no_hash c k.first)
      ∙ (ap (λ (b : Bool). cond b None (with_flow outside 0 content later)) no_tab
      ∙ (ap (with_value 0 content later) own_value ∙ word_with content d ds later w))))

entry_left : (key value : List ℕ) (later : List LineText) → is_word key ≡ true → is_word value ≡ true → list_all is_allowed (key ++ 58 ∷ 32 ∷ value) ≡ true
    → left_at_line (standing 0 outside) (key ++ 58 ∷ 32 ∷ value) later ≡ Some (bare 0 (key ++ 58 ∷ 32 ∷ value) outside)
entry_left [] value later e f allowed = absurd (cc)
entry_left (c ∷ cs) [] later e f allowed = absurd (cc)
entry_left (c ∷ cs) (d ∷ ds) later e f allowed = own_left c cs d ds (first_of_word c cs e) (first_of_word d ds f) later allowed

own_places : (es : List WordEntry) → list_all is_word_entry es ≡ true → all_content_lines (standing 0 outside) (map own_line es) ≡ Some (map (entry_line 0) es)
unfolding all_content_lines
own_places [] all = refl
own_places (e ∷ es) all =
    let parts = both (is_word_entry e) (list_all is_word_entry es) all in
    let words = both (is_word e.key) (is_word e.value) parts.0 in
    let lines : List LineText = map own_line es in
    ap (λ (o : Option Left). option_and_then (λ left. option_map (before_content_lines left.content_line) (all_content_lines left.next lines)) o)
    (entry_left e.key e.value lines words.0 words.1 (weaker stays is_allowed stays_allowed (entry_text e) (entry_stays e parts.0)))
    ∙ ap (λ (o : Option (List ContentLine)). option_map (before_content_lines (Some (entry_line 0 e))) o) (own_places es parts.1)

-- ---- no line marks a document

-- where three of this character stand first, something other than a blank follows
dots : (c : ℕ) (cs rest : List ℕ) → list_all is_word_character cs ≡ true → (three 46 (c ∷ (cs ++ 58 ∷ 32 ∷ rest)) && blank_or_end (drop 3 (c ∷ (cs ++ 58 ∷ 32 ∷ rest)))) ≡ false
dots c [] rest all = ap (λ (b : Bool). b && blank_or_end rest) (ap (λ (b : Bool). b && false) (and_none (eqb c 46) false refl))
dots c (x ∷ []) rest all = ap (λ (b : Bool). b && blank_or_end (32 ∷ rest)) (and_none (eqb c 46 && eqb x 46) false refl)
dots c (x ∷ y ∷ []) rest all = and_none (eqb c 46 && eqb x 46 && eqb y 46) false refl
dots c (x ∷ y ∷ z ∷ cs) rest all =
    and_none (eqb c 46 && eqb x 46 && eqb y 46) (is_blank z) (no_blank z (ordinary z (third x y z (list_all is_word_character cs) all)))
  where
    third : (x y z : ℕ) (b : Bool) → (is_word_character x && (is_word_character y && (is_word_character z && b))) ≡ true → is_word_character z ≡ true
    third x y z b e =
        (both (is_word_character z) b (both (is_word_character y) (is_word_character z && b) (both (is_word_character x) (is_word_character y && (is_word_character z && b)) e).1).1).0

dashes : (c : ℕ) (cs rest : List ℕ) → IsOrdinary c → three 45 (c ∷ (cs ++ 58 ∷ 32 ∷ rest)) ≡ false
dashes c [] rest o = ap (λ (b : Bool). b && eqb 58 45 && eqb 32 45) (no_dash c o)
dashes c (x ∷ []) rest o = ap (λ (b : Bool). b && eqb x 45 && eqb 58 45) (no_dash c o)
dashes c (x ∷ y ∷ cs) rest o = ap (λ (b : Bool). b && eqb x 45 && eqb y 45) (no_dash c o)

no_mark : (key rest : List ℕ) → is_word key ≡ true → is_mark (line_at 0 (key ++ 58 ∷ 32 ∷ rest)) ≡ false
no_mark [] rest e = absurd (cc)
no_mark (c ∷ cs) rest e =
    let w = first_of_word c cs e in
    let all : List ℕ = c ∷ (cs ++ 58 ∷ 32 ∷ rest) in
    or_none (three 45 all && blank_or_end (drop 3 all) || three 46 all && blank_or_end (drop 3 all)) (eqb c 37)
    (or_none (three 45 all && blank_or_end (drop 3 all)) (three 46 all && blank_or_end (drop 3 all)) (ap (λ (b : Bool). b && blank_or_end (drop 3 all)) (dashes c cs rest w.first))
    (dots c cs rest (both (is_word_character c) (list_all is_word_character cs) e).1))
    (apart c 37 is_indicator w.first.no_indicator refl)

no_marks : (es : List WordEntry) → list_all is_word_entry es ≡ true → list_any is_mark (map (entry_line 0) es) ≡ false
no_marks [] all = refl
no_marks (e ∷ es) all =
    let parts = both (is_word_entry e) (list_all is_word_entry es) all in
    or_none (is_mark (entry_line 0 e)) (list_any is_mark (map (entry_line 0) es)) (no_mark e.key e.value (both (is_word e.key) (is_word e.value) parts.0).0) (no_marks es parts.1)

no_start : (key rest : List ℕ) → is_word key ≡ true → is_start (line_at 0 (key ++ 58 ∷ 32 ∷ rest)) ≡ false
no_start [] rest e = absurd (cc)
no_start (c ∷ cs) rest e = ap (λ (b : Bool). b && is_over (drop 3 (c ∷ (cs ++ 58 ∷ 32 ∷ rest)))) (dashes c cs rest (first_of_word c cs e).first)

own_document : (es : List WordEntry) → list_all is_word_entry es ≡ true → document (map (entry_line 0) es) ≡ Some (map (entry_line 0) es)
unfolding document
own_document [] all = refl
own_document (e ∷ es) all =
    let ps : List ContentLine = map (entry_line 0) (e ∷ es) in
    let parts = both (is_word_entry e) (list_all is_word_entry es) all in
    ap (λ (b : Bool). cond b (unmarked (map (entry_line 0) es)) (unmarked ps)) (no_start e.key e.value (both (is_word e.key) (is_word e.value) parts.0).0)
    ∙ ap (λ (b : Bool). cond b None (Some ps)) (no_marks (e ∷ es) all)

-- ---- the text of the lines

whole_by : (room : ℕ) (key value : List ℕ) (later : List ContentLine) → is_word key ≡ true
    → whole_text room (line_at 0 (key ++ 58 ∷ 32 ∷ value) ∷ later) ≡ node room (line_at 0 (key ++ 58 ∷ 32 ∷ value) ∷ later)
unfolding whole_text
whole_by room [] value later e = absurd (cc)
whole_by room (c ∷ cs) value later e =
    let w = first_of_word c cs e in
    let far : (k : ℕ) → is_indicator k ≡ true → eqb c k ≡ false = λ k e. apart c k is_indicator w.first.no_indicator e in
    let content : List ℕ = c ∷ (cs ++ 58 ∷ 32 ∷ value) in
    let lines : List ContentLine = line_at 0 content ∷ later in
    ap (λ (b : Bool). cond b None (cond (eqb c 91 || eqb c 123) (flow room content later) (node room lines))) (or_none (eqb c 124) (eqb c 62) (far 124 refl) (far 62 refl))
    ∙ ap (λ (b : Bool). cond b (flow room content later) (node room lines)) (or_none (eqb c 91) (eqb c 123) (far 91 refl) (far 123 refl))

own_whole : (room : ℕ) (es : List WordEntry) → list_all is_word_entry es ≡ true → whole_text room (map (entry_line 0) es) ≡ node room (map (entry_line 0) es)
unfolding whole_text
own_whole room [] all = refl
own_whole room (e ∷ es) all =
    let good = (both (is_word_entry e) (list_all is_word_entry es) all).0 in whole_by room e.key e.value (map (entry_line 0) es) (both (is_word e.key) (is_word e.value) good).0

lines_text : (es : List WordEntry) → AreWordEntries es → option_and_then (whole_text most_nodes) (content_lines_of (lines_of_entries es)) ≡ table_of_entries es
unfolding content_lines_of content_lines_from
lines_text es are =
    let read : Option (List ContentLine) → Option Meaning = λ o. option_and_then (whole_text most_nodes) (option_and_then document o) in
    ap (λ (ls : List LineText). read (all_content_lines (standing 0 outside) ls)) (own_lines es are.all)
    ∙ (ap read (own_places es are.all)
    ∙ (ap (option_and_then (whole_text most_nodes)) (own_document es are.all)
    ∙ (own_whole most_nodes es are.all ∙ line_entries most_nodes 0 es (omega arith) are)))

-- ---- the text of the flow

entries_stay : (es : List WordEntry) → list_all is_word_entry es ≡ true → list_all stays (join_with_byte 44 (map entry_text es)) ≡ true
unfolding stays
entries_stay [] all = refl
entries_stay (e ∷ []) all = entry_stays e (both (is_word_entry e) true all).0
entries_stay (e ∷ next ∷ es) all =
    let parts = both (is_word_entry e) (list_all is_word_entry (next ∷ es)) all in
    list_all-append stays (entry_text e) (44 ∷ join_with_byte 44 (map entry_text (next ∷ es))) ∙ ap₂ (λ (a b : Bool). a && b) (entry_stays e parts.0) (entries_stay (next ∷ es) parts.1)

flow_stays : (es : List WordEntry) → list_all is_word_entry es ≡ true → list_all stays (flow_of_entries es) ≡ true
unfolding stays
flow_stays es all = list_all-append stays (join_with_byte 44 (map entry_text es)) (125 ∷ []) ∙ ap (λ (b : Bool). b && true) (entries_stay es all)

flow_left : (cs : List ℕ) → list_all is_allowed (123 ∷ cs) ≡ true → left_at_line (standing 0 outside) (123 ∷ cs) [] ≡ Some (bare 0 (123 ∷ cs) (state_behind (123 ∷ cs)))
unfolding left_at_line left_of with_flow with_value last_value entry_of_line begins_plain
flow_left cs all = ap (λ (b : Bool). cond (not b) None (Some (bare 0 (123 ∷ cs) (state_behind (123 ∷ cs))))) all

flow_places : (cs : List ℕ) → list_all is_allowed (123 ∷ cs) ≡ true → all_content_lines (standing 0 outside) (record { text = 123 ∷ cs; ended = true } ∷ []) ≡ Some (line_at 0 (123 ∷ cs) ∷ [])
unfolding all_content_lines
flow_places cs all = ap (λ (o : Option Left). option_and_then (λ left. option_map (before_content_lines left.content_line) (all_content_lines left.next [])) o) (flow_left cs all)

flow_document : (cs : List ℕ) → document (line_at 0 (123 ∷ cs) ∷ []) ≡ Some (line_at 0 (123 ∷ cs) ∷ [])
unfolding document
flow_document [] = refl
flow_document (a ∷ []) = refl
flow_document (a ∷ b ∷ cs) = refl

flow_whole : (room : ℕ) (cs : List ℕ) → whole_text room (line_at 0 (123 ∷ cs) ∷ []) ≡ flow_meaning room (123 ∷ cs)
unfolding whole_text further
flow_whole room cs = ap (λ (ds : List ℕ). flow_meaning room (123 ∷ ds)) (append-nil cs)

flow_text : (es : List WordEntry) → AreWordEntries es → option_and_then (whole_text most_nodes) (content_lines_of (flow_of_entries es ++ 10 ∷ [])) ≡ table_of_entries es
unfolding content_lines_of content_lines_from
flow_text es are =
    let inner : List ℕ = join_with_byte 44 (map entry_text es) ++ 125 ∷ [] in
    let keep = flow_stays es are.all in
    let read : Option (List ContentLine) → Option Meaning = λ o. option_and_then (whole_text most_nodes) (option_and_then document o) in
    ap (λ (ls : List LineText). read (all_content_lines (standing 0 outside) ls)) (one_line (123 ∷ inner) [] keep ∙ no_line_behind (123 ∷ inner))
    ∙ (ap read (flow_places inner (weaker stays is_allowed stays_allowed (123 ∷ inner) keep))
    ∙ (ap (option_and_then (whole_text most_nodes)) (flow_document inner)
    ∙ (flow_whole most_nodes inner ∙ flow_entries most_nodes es (omega arith) are)))

-- ---- the bytes

pub text_of_entry_lines : (es : List WordEntry) (bytes : List ℕ) → AreWordEntries es → characters_of bytes ≡ Some (lines_of_entries es) → meaning_of bytes ≡ table_of_entries es
text_of_entry_lines es bytes are e = meaning_of-characters bytes (lines_of_entries es) e ∙ lines_text es are

pub text_of_entry_flow : (es : List WordEntry) (bytes : List ℕ) → AreWordEntries es → characters_of bytes ≡ Some (flow_of_entries es ++ 10 ∷ []) → meaning_of bytes ≡ table_of_entries es
text_of_entry_flow es bytes are e = meaning_of-characters bytes (flow_of_entries es ++ 10 ∷ []) e ∙ flow_text es are
