-- What a flow list and a flow table of words mean.
use Rattle.std.proofs.Common.{◌≡◌, ℕ, zero, suc, ◌+◌, ◌≤◌, Bool, true, false, cond, not, ◌&&◌, ◌||◌, eqb, List, [], ◌∷◌, ◌++◌, length, map, take, drop, Option, Some, None, option_map, option_and_then, refl, ap, ◌∙◌, arith, append_assoc}
use Rattle.std.proofs.Math.Seq.{take-append_seam, drop-append_seam}
use Rattle.std.specs.List.{list_all, join_with_byte}
use Rattle.std.specs.Str.{encode_utf8_all}
use Rattle.yaml_lines.specs.Characters.{is_blank, begins_with}
use Rattle.yaml_lines.specs.Meaning.{Meaning, text, list, table, meanings_of, members_of}
use Rattle.yaml_lines.specs.Plain.{is_indicator, is_mark_character, trim_end}
use Rattle.yaml_flows.specs.Flows.{Found, mapped, next_part, parts, parts_within, list_at, table_at, entry, flow_row_of, distinct_flow_rows, text_node, text_node_at, node, whole, flow_meaning}
use Rattle.yaml_lines.specs.FlowGaps.{blank_or_line_end, behind_gap, after_gap}
use Rattle.yaml_flows.specs.Keys.{Row, keys_differ}
use Rattle.yaml_lines.specs.FlowTexts.{is_flow_indicator, ends_key, begins_plain, ends_plain, plain_extent, FlowText, plain_text, plain_at, quoted_at, text_at}
use Rattle.yaml_profile.specs.Words.{is_word_character, is_word, AreWords, list_of_words, flow_of_words, WordEntry, is_word_entry, AreWordEntries, entry_text, flow_of_entries, word_row, table_of_entries}
use Rattle.yaml_profile.proofs.FlowParts.{Begins, no_gap, behind_space, behind, all_parts}
use Rattle.yaml_profile.proofs.Words.{both, or_none, apart, IsOrdinary, ordinary, no_feed, no_hash, no_colon, no_quote, word_trimmed, IsFirst, first_of_word}

-- ---- one word

no_flow_indicator : (c : ℕ) → IsOrdinary c → is_flow_indicator c ≡ false
no_flow_indicator c o =
    let far : (k : ℕ) → is_indicator k ≡ true → eqb c k ≡ false = λ k e. apart c k is_indicator o.no_indicator e in
    or_none _ _ (or_none _ _ (or_none _ _ (or_none _ _ (far 44 refl) (far 91 refl)) (far 93 refl)) (far 123 refl)) (far 125 refl)

goes_on : (blank : Bool) (c : ℕ) (cs : List ℕ) → IsOrdinary c → ends_plain blank (c ∷ cs) ≡ false
goes_on blank c cs o =
    or_none _ _ (or_none _ _ (or_none _ _ (no_flow_indicator c o) (no_feed c o)) (none_behind blank (eqb c 35) (no_hash c o)))
    (ap (λ (b : Bool). b && ends_key cs) (no_colon c o))
  where
    none_behind : (a b : Bool) → b ≡ false → (a && b) ≡ false
    none_behind true b e = e
    none_behind false b e = refl

-- a plain text ends before these characters
abbrev Ends : ℕ → List ℕ → Type 0
Ends stop more = (blank : Bool) → ends_plain blank (stop ∷ more) ≡ true

indicator_ends : (stop : ℕ) (more : List ℕ) → is_flow_indicator stop ≡ true → Ends stop more
indicator_ends stop more e = λ blank. ap (λ (b : Bool). b || eqb stop 10 || (blank && eqb stop 35) || (eqb stop 58 && ends_key more)) e

colon_ends : (more : List ℕ) → Ends 58 (32 ∷ more)
colon_ends more true = refl
colon_ends more false = refl

word_extent : (blank : Bool) (cs : List ℕ) (stop : ℕ) (more : List ℕ) → list_all is_word_character cs ≡ true → Ends stop more
    → plain_extent blank (cs ++ stop ∷ more) ≡ length cs
unfolding plain_extent
word_extent blank [] stop more all ends = ap (λ (b : Bool). cond b 0 (1 + plain_extent (is_blank stop) more)) (ends blank)
word_extent blank (c ∷ cs) stop more all ends =
    let parts = both (is_word_character c) (list_all is_word_character cs) all in
    let behind = word_extent (is_blank c) cs stop more parts.1 ends in
    let step : plain_extent blank (c ∷ (cs ++ stop ∷ more)) ≡ 1 + plain_extent (is_blank c) (cs ++ stop ∷ more) =
    ap (λ (b : Bool). cond b 0 (1 + plain_extent (is_blank c) (cs ++ stop ∷ more))) (goes_on blank c (cs ++ stop ∷ more) (ordinary c parts.0)) in
    omega arith

-- a word in front of a comma, a bracket or a key's colon
module _ (c : ℕ) (cs : List ℕ) (stop : ℕ) (more : List ℕ) (w : IsFirst c cs) (ends : Ends stop more) where
  begins : begins_plain (c ∷ (cs ++ stop ∷ more)) ≡ true
  unfolding begins_plain
  begins =
      ap (λ (b : Bool). not b && not (is_mark_character c && blank_or_line_end (cs ++ stop ∷ more))) w.first.no_indicator
      ∙ ap (λ (b : Bool). not (b && blank_or_line_end (cs ++ stop ∷ more))) w.first.no_mark

  word_at : plain_at (c ∷ (cs ++ stop ∷ more)) ≡ Some (record { text = encode_utf8_all (c ∷ cs); quoted = false; rest = stop ∷ more })
  unfolding plain_at
  word_at =
      let all : List ℕ = c ∷ (cs ++ stop ∷ more) in
      let f : List ℕ → Option FlowText = λ rest. Some (record { text = encode_utf8_all (c ∷ cs); quoted = false; rest = rest }) in
      ap (λ (b : Bool). cond b (plain_text (trim_end (take (plain_extent false all) all)) all) None) begins
      ∙ (ap (λ (n : ℕ). plain_text (trim_end (take n all)) all) (word_extent false (c ∷ cs) stop more w.all ends)
      ∙ (ap (λ (ds : List ℕ). plain_text (trim_end ds) all) (take-append_seam (c ∷ cs) (stop ∷ more))
      ∙ (ap (λ (ds : List ℕ). plain_text ds all) (word_trimmed (c ∷ cs) w.all) ∙ ap f (drop-append_seam (c ∷ cs) (stop ∷ more)))))

  word_text : text_at (c ∷ (cs ++ stop ∷ more)) ≡ Some (record { text = encode_utf8_all (c ∷ cs); quoted = false; rest = stop ∷ more })
  unfolding text_at
  word_text =
      let all : List ℕ = c ∷ (cs ++ stop ∷ more) in
      ap (λ (b : Bool). cond b (quoted_at all) (plain_at all)) (no_quote c w.first) ∙ word_at

  word_node : (room : ℕ) → node (suc room) (c ∷ (cs ++ stop ∷ more)) ≡ Some (record { value = text (encode_utf8_all (c ∷ cs)) false; rest = stop ∷ more })
  unfolding node
  word_node room =
      let rest : List ℕ = cs ++ stop ∷ more in
      let table : Option (Found Meaning) = table_at (node room) rest in
      ap (λ (b : Bool). cond b (list_at (node room) rest) (cond (eqb c 123) table (text_node_at (c ∷ rest)))) (apart c 91 is_indicator w.first.no_indicator refl)
      ∙ (ap (λ (b : Bool). cond b table (text_node_at (c ∷ rest))) (apart c 123 is_indicator w.first.no_indicator refl) ∙ ap (option_map text_node) word_text)

word_begins : (word : List ℕ) → is_word word ≡ true → Begins word
word_begins [] e = absurd (cc)
word_begins (c ∷ cs) e = record { first = c; others = cs; is = refl; ordinary = (first_of_word c cs e).first }

-- ---- a list

item_at : (room : ℕ) (word : List ℕ) (stop : ℕ) (more : List ℕ) → is_word word ≡ true → is_flow_indicator stop ≡ true
    → node (suc room) (word ++ stop ∷ more) ≡ Some (record { value = text (encode_utf8_all word) false; rest = stop ∷ more })
item_at room [] stop more e ends = absurd (cc)
item_at room (c ∷ cs) stop more e ends = word_node c cs stop more (first_of_word c cs e) (indicator_ends stop more ends) room

abbrev own : List ℕ → List ℕ
own word = word

bracket_behind : next_part 93 (after_gap (93 ∷ [])) ≡ Some (93 ∷ [])
unfolding behind_gap
bracket_behind = refl

words_joined : (word : List ℕ) (words : List (List ℕ)) → join_with_byte 44 (word ∷ words) ++ 93 ∷ [] ≡ word ++ behind 93 own words
unfolding behind
words_joined word [] = refl
words_joined word (next ∷ words) =
    append_assoc word (44 ∷ join_with_byte 44 (next ∷ words)) (93 ∷ []) ∙ ap (λ (cs : List ℕ). word ++ (44 ∷ cs)) (words_joined next words)

words_within : (room : ℕ) (word : List ℕ) (words : List (List ℕ)) → is_word word ≡ true → list_all is_word words ≡ true
    → parts 93 (node (suc room)) (word ++ behind 93 own words) ≡ Some (record { value = map (λ word. text (encode_utf8_all word) false) (word ∷ words); rest = [] })
words_within room word words e all =
    all_parts 93 (node (suc room)) own (λ word. text (encode_utf8_all word) false) is_word word_begins (item_at room) (refl, refl) bracket_behind word words e all

closed : (found : Meaning) → whole (record { value = found; rest = [] }) ≡ Some found
unfolding behind_gap
closed found = refl

list_step : (room : ℕ) (cs : List ℕ) → flow_meaning (suc room) (91 ∷ cs) ≡ option_and_then whole (list_at (node room) cs)
unfolding flow_meaning node
list_step room cs = refl

list_by : (room : ℕ) (words : List (List ℕ)) → 1 ≤ length words → list_all is_word words ≡ true → flow_meaning (suc (suc room)) (flow_of_words words) ≡ Some (list_of_words words)
list_by room [] some all = absurd (omega arith)
list_by room (word ∷ words) some all =
    let parts = both (is_word word) (list_all is_word words) all in
    let made : Option (Found (List Meaning)) → Option Meaning = λ o. option_and_then whole (option_map (mapped (λ ms. list (meanings_of ms))) o) in
    list_step (suc room) (join_with_byte 44 (word ∷ words) ++ 93 ∷ [])
    ∙ (ap (λ (cs : List ℕ). option_and_then whole (list_at (node (suc room)) cs)) (words_joined word words)
    ∙ (ap made (words_within room word words parts.0 parts.1) ∙ closed (list_of_words (word ∷ words))))

pub flow_words : (room : ℕ) (words : List (List ℕ)) → 2 ≤ room → AreWords words → flow_meaning room (flow_of_words words) ≡ Some (list_of_words words)
flow_words zero words enough are = absurd (omega arith)
flow_words (suc zero) words enough are = absurd (omega arith)
flow_words (suc (suc room)) words enough are = list_by room words are.some are.all

-- ---- a list where there is room for one node alone

no_parts : (most : ℕ) (cs : List ℕ) → begins_with 93 cs ≡ false → parts_within 93 (node 0) most cs ≡ None
unfolding node parts_within
no_parts zero cs e = refl
no_parts (suc most) cs e = ap (λ (b : Bool). cond b (Some (record { value = []; rest = drop 1 cs })) None) e

no_list : (word rest : List ℕ) → Begins word → list_at (node 0) (word ++ rest) ≡ None
no_list word rest b =
    let made : Option (Found (List Meaning)) → Option (Found Meaning) = λ o. option_map (mapped (λ ms. list (meanings_of ms))) o in
    let inside : begins_with 93 (word ++ rest) ≡ false = ap (λ (ds : List ℕ). begins_with 93 (ds ++ rest)) b.is ∙ apart b.first 93 is_indicator b.ordinary.no_indicator refl in
    ap (λ (ds : List ℕ). made (parts_within 93 (node 0) (length ds) ds)) (no_gap word rest b) ∙ ap made (no_parts (length (word ++ rest)) (word ++ rest) inside)

too_deep_by : (words : List (List ℕ)) → 1 ≤ length words → list_all is_word words ≡ true → flow_meaning 1 (flow_of_words words) ≡ None
too_deep_by [] some all = absurd (omega arith)
too_deep_by (word ∷ words) some all =
    list_step 0 (join_with_byte 44 (word ∷ words) ++ 93 ∷ [])
    ∙ (ap (λ (cs : List ℕ). option_and_then whole (list_at (node 0) cs)) (words_joined word words)
    ∙ ap (option_and_then whole) (no_list word (behind 93 own words) (word_begins word (both (is_word word) (list_all is_word words) all).0)))

pub flow_too_deep : (words : List (List ℕ)) → AreWords words → flow_meaning 1 (flow_of_words words) ≡ None
flow_too_deep words are = too_deep_by words are.some are.all

-- ---- a table

key_at : (key more : List ℕ) → is_word key ≡ true → text_at (key ++ 58 ∷ 32 ∷ more) ≡ Some (record { text = encode_utf8_all key; quoted = false; rest = 58 ∷ 32 ∷ more })
key_at [] more e = absurd (cc)
key_at (c ∷ cs) more e = word_text c cs 58 (32 ∷ more) (first_of_word c cs e) (colon_ends more)

colon_behind : (node : List ℕ → Option (Found Meaning)) (key more : List ℕ)
    → flow_row_of node (record { text = key; quoted = false; rest = 58 ∷ 32 ∷ more }) ≡ option_map (mapped (λ m. (key, m))) (node (after_gap (32 ∷ more)))
unfolding behind_gap
colon_behind node key more = refl

entry_at : (room : ℕ) (e : WordEntry) (stop : ℕ) (more : List ℕ) → is_word_entry e ≡ true → is_flow_indicator stop ≡ true
    → entry (node (suc room)) (entry_text e ++ stop ∷ more) ≡ Some (record { value = word_row e; rest = stop ∷ more })
entry_at room e stop more good ends =
    let parts = both (is_word e.key) (is_word e.value) good in
    let value : List ℕ = e.value ++ stop ∷ more in
    let keyed : Option (Found Meaning) → Option (Found Row) = λ o. option_map (mapped (λ m. (encode_utf8_all e.key, m))) o in
    ap (entry (node (suc room))) (append_assoc e.key (58 ∷ 32 ∷ e.value) (stop ∷ more))
    ∙ (ap (option_and_then (flow_row_of (node (suc room)))) (key_at e.key value parts.0)
    ∙ (colon_behind (node (suc room)) (encode_utf8_all e.key) value
    ∙ ap keyed (ap (node (suc room)) (behind_space e.value (stop ∷ more) (word_begins e.value parts.1)) ∙ item_at room e.value stop more parts.1 ends)))

entry_begins : (e : WordEntry) → is_word_entry e ≡ true → Begins (entry_text e)
entry_begins e good =
    let key = word_begins e.key (both (is_word e.key) (is_word e.value) good).0 in
    record { first = key.first; others = key.others ++ 58 ∷ 32 ∷ e.value; is = ap (λ (cs : List ℕ). cs ++ 58 ∷ 32 ∷ e.value) key.is; ordinary = key.ordinary }

brace_behind : next_part 125 (after_gap (125 ∷ [])) ≡ Some (125 ∷ [])
unfolding behind_gap
brace_behind = refl

entries_joined : (e : WordEntry) (es : List WordEntry) → join_with_byte 44 (map entry_text (e ∷ es)) ++ 125 ∷ [] ≡ entry_text e ++ behind 125 entry_text es
unfolding behind
entries_joined e [] = refl
entries_joined e (next ∷ es) =
    append_assoc (entry_text e) (44 ∷ join_with_byte 44 (map entry_text (next ∷ es))) (125 ∷ []) ∙ ap (λ (cs : List ℕ). entry_text e ++ (44 ∷ cs)) (entries_joined next es)

entries_within : (room : ℕ) (e : WordEntry) (es : List WordEntry) → is_word_entry e ≡ true → list_all is_word_entry es ≡ true
    → parts 125 (entry (node (suc room))) (entry_text e ++ behind 125 entry_text es) ≡ Some (record { value = map word_row (e ∷ es); rest = [] })
entries_within room e es good all =
    all_parts 125 (entry (node (suc room))) entry_text word_row is_word_entry entry_begins (entry_at room) (refl, refl) brace_behind e es good all

table_closed : (rs : List Row) (b : Bool)
    → option_and_then whole (option_map (mapped (λ rs. table (members_of rs))) (cond b (Some (record { value = rs; rest = [] })) None)) ≡ cond b (Some (table (members_of rs))) None
unfolding behind_gap
table_closed rs true = refl
table_closed rs false = refl

table_step : (room : ℕ) (cs : List ℕ) → flow_meaning (suc room) (123 ∷ cs) ≡ option_and_then whole (table_at (node room) cs)
unfolding flow_meaning node
table_step room cs = refl

table_by : (room : ℕ) (es : List WordEntry) → 1 ≤ length es → list_all is_word_entry es ≡ true → flow_meaning (suc (suc room)) (flow_of_entries es) ≡ table_of_entries es
table_by room [] some all = absurd (omega arith)
table_by room (e ∷ es) some all =
    let parts = both (is_word_entry e) (list_all is_word_entry es) all in
    let made : Option (Found (List Row)) → Option Meaning = λ o. option_and_then whole (option_map (mapped (λ rs. table (members_of rs))) (option_and_then distinct_flow_rows o)) in
    table_step (suc room) (join_with_byte 44 (map entry_text (e ∷ es)) ++ 125 ∷ [])
    ∙ (ap (λ (cs : List ℕ). option_and_then whole (table_at (node (suc room)) cs)) (entries_joined e es)
    ∙ (ap made (entries_within room e es parts.0 parts.1) ∙ table_closed (map word_row (e ∷ es)) (keys_differ (map word_row (e ∷ es)))))

pub flow_entries : (room : ℕ) (es : List WordEntry) → 2 ≤ room → AreWordEntries es → flow_meaning room (flow_of_entries es) ≡ table_of_entries es
flow_entries zero es enough are = absurd (omega arith)
flow_entries (suc zero) es enough are = absurd (omega arith)
flow_entries (suc (suc room)) es enough are = table_by room es are.some are.all
