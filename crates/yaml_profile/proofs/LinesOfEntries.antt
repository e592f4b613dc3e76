-- What the lines of a table of words mean.
use Rattle.std.proofs.Common.{◌≡◌, ℕ, zero, suc, ◌+◌, ◌≤◌, Bool, true, false, cond, ◌&&◌, ◌||◌, eqb, List, [], ◌∷◌, ◌++◌, length, map, drop, Option, Some, None, option_map, option_and_then, is_some, refl, ap, ap₂, ◌∙◌, arith}
use Rattle.std.proofs.lemmas.Bool.{eq-eqb, le-ltb}
use Rattle.std.specs.List.{prefix_len, list_all}
use Rattle.std.specs.Str.{encode_utf8_all}
use Rattle.yaml_lines.specs.Characters.{is_blank, blank_or_end, comment_or_end, trim_start}
use Rattle.yaml_lines.specs.Entries.{ContentLine, KeyAndValue, is_item, entry_of_line, value_behind, plain_entry, quoted_entry}
use Rattle.yaml_lines.specs.Meaning.{Meaning, text, table, members_of}
use Rattle.yaml_lines.specs.Plain.{is_indicator, begins_plain, Sides, before_side, sides_of}
use Rattle.yaml_lines.specs.Quoted.{quoted_of}
use Rattle.yaml_flows.specs.Keys.{Row, keys_differ}
use Rattle.yaml_profile.specs.Blocks.{BlockPart, Cut, put, cut, parts, begins_closing, is_below_key, all_of, line_node, row, entry, distinct, rows, block, table_meaning, node}
use Rattle.yaml_profile.specs.Words.{is_word_character, is_word, WordEntry, is_word_entry, AreWordEntries, entry_line, word_row, table_of_entries}
use Rattle.yaml_profile.proofs.LinesOfWords.{line_at, word_line}
use Rattle.yaml_profile.proofs.Words.{both, or_none, and_none, apart, ordinary, no_blank, no_hash, no_colon, no_dash, no_quote, word_trimmed, word_begins, IsFirst, first_of_word}

-- ---- a key and a value

key_sides : (free : Bool) (cs value : List ℕ) → list_all is_word_character cs ≡ true → sides_of free (cs ++ 58 ∷ 32 ∷ value) ≡ Some (record { before = cs; behind = 32 ∷ value })
unfolding sides_of
key_sides free [] value all =
    let here : Option Sides = Some (record { before = []; behind = 32 ∷ value }) in ap (λ (b : Bool). cond b None here) (and_none free false refl)
key_sides free (c ∷ cs) value all =
    let parts = both (is_word_character c) (list_all is_word_character cs) all in
    let o = ordinary c parts.0 in
    let rest : List ℕ = cs ++ 58 ∷ 32 ∷ value in
    let here : Option Sides = Some (record { before = []; behind = rest }) in
    let later : Option Sides = option_map (before_side c) (sides_of (is_blank c) rest) in
    ap (λ (b : Bool). cond b None (cond (eqb c 58 && blank_or_end rest) here later)) (and_none free (eqb c 35) (no_hash c o))
    ∙ (ap (λ (b : Bool). cond (b && blank_or_end rest) here later) (no_colon c o)
    ∙ ap (option_map (before_side c)) (key_sides (is_blank c) cs value parts.1))

value_trimmed : (d : ℕ) (ds : List ℕ) → IsFirst d ds → trim_start (32 ∷ d ∷ ds) ≡ d ∷ ds
value_trimmed d ds w = ap (λ (b : Bool). drop (1 + cond b (1 + prefix_len is_blank ds) 0) (32 ∷ d ∷ ds)) (no_blank d w.first)

value_is : (d : ℕ) (ds : List ℕ) → IsFirst d ds → value_behind (32 ∷ d ∷ ds) ≡ d ∷ ds
value_is d ds w =
    ap (λ (cs : List ℕ). cond (comment_or_end cs) [] cs) (value_trimmed d ds w) ∙ ap (λ (b : Bool). cond b [] (d ∷ ds)) (no_hash d w.first)

abbrev keyed : List ℕ → List ℕ → Option KeyAndValue
keyed key value = Some (record { key = encode_utf8_all key; value = value })

pub key_entry : (c : ℕ) (cs : List ℕ) (d : ℕ) (ds : List ℕ) → IsFirst c cs → IsFirst d ds → entry_of_line (c ∷ (cs ++ 58 ∷ 32 ∷ d ∷ ds)) ≡ keyed (c ∷ cs) (d ∷ ds)
unfolding entry_of_line
key_entry c cs d ds k w =
    let rest : List ℕ = cs ++ 58 ∷ 32 ∷ d ∷ ds in
    let plain : Option KeyAndValue = option_map plain_entry (sides_of true (c ∷ rest)) in
    ap (λ (b : Bool). cond b (option_and_then quoted_entry (quoted_of (c ∷ rest))) (cond (begins_plain (c ∷ rest)) plain None)) (no_quote c k.first)
    ∙ (ap (λ (b : Bool). cond b plain None) (word_begins c rest k.first)
    ∙ (ap (option_map plain_entry) (key_sides true (c ∷ cs) (d ∷ ds) k.all) ∙ ap₂ keyed (word_trimmed (c ∷ cs) k.all) (value_is d ds w)))

-- ---- the lines, one entry each

abbrev entry_part : ℕ → WordEntry → BlockPart
entry_part indent e = record { head = entry_line indent e; below = [] }

no_item : (c : ℕ) (cs key : List ℕ) → IsFirst c key → is_item (c ∷ cs) ≡ false
unfolding is_item
no_item c cs key w = ap (λ (b : Bool). b && blank_or_end cs) (no_dash c w.first)

no_closing : (c : ℕ) (cs key : List ℕ) → IsFirst c key → begins_closing (c ∷ cs) ≡ false
no_closing c cs key w =
    or_none (eqb c 93) (eqb c 125) (apart c 93 is_indicator w.first.no_indicator refl) (apart c 125 is_indicator w.first.no_indicator refl)

begins_entry : (indent : ℕ) (key behind : List ℕ) → is_word key ≡ true → is_below_key indent (line_at indent (key ++ behind)) ≡ false
begins_entry indent [] behind e = absurd (cc)
begins_entry indent (c ∷ cs) behind e =
    let w = first_of_word c cs e in
    let content : List ℕ = c ∷ (cs ++ behind) in
    or_none _ _ (le-ltb indent indent (omega arith))
    (and_none (eqb indent indent) (is_item content || begins_closing content) (or_none (is_item content) (begins_closing content) (no_item c (cs ++ behind) cs w) (no_closing c (cs ++ behind) cs w)))

entries_cut : (indent : ℕ) (es : List WordEntry) → list_all is_word_entry es ≡ true
    → cut (is_below_key indent) (map (entry_line indent) es) ≡ record { before = []; parts = map (entry_part indent) es }
unfolding cut
entries_cut indent [] all = refl
entries_cut indent (e ∷ es) all =
    let parts = both (is_word_entry e) (list_all is_word_entry es) all in
    let later : Cut = cut (is_below_key indent) (map (entry_line indent) es) in
    ap (λ (b : Bool). put b (entry_line indent e) later) (begins_entry indent e.key (58 ∷ 32 ∷ e.value) (both (is_word e.key) (is_word e.value) parts.0).0)
    ∙ ap (put false (entry_line indent e)) (entries_cut indent es parts.1)

entry_parts : (indent : ℕ) (e : WordEntry) (es : List WordEntry) → list_all is_word_entry es ≡ true
    → parts (is_below_key indent) (entry_line indent e ∷ map (entry_line indent) es) ≡ map (entry_part indent) (e ∷ es)
entry_parts indent e es all =
    let f : Cut → List BlockPart = λ rest. record { head = entry_line indent e; below = rest.before } ∷ rest.parts in ap f (entries_cut indent es all)

-- ---- one entry

entry_by : (room indent : ℕ) (key value : List ℕ) → is_word key ≡ true → is_word value ≡ true
    → entry (node (suc room)) (line_node (suc room)) indent (record { head = line_at indent (key ++ 58 ∷ 32 ∷ value); below = [] }) ≡ Some (encode_utf8_all key, text (encode_utf8_all value) false)
entry_by room indent [] value e f = absurd (cc)
entry_by room indent (c ∷ cs) [] e f = absurd (cc)
entry_by room indent (c ∷ cs) (d ∷ ds) e f =
    let w = first_of_word d ds f in
    let content : List ℕ = c ∷ (cs ++ 58 ∷ 32 ∷ d ∷ ds) in
    let part : BlockPart = record { head = line_at indent content; below = [] } in
    let inner : Option KeyAndValue → Option Row = λ o. option_and_then (row (node (suc room)) (line_node (suc room)) part) o in
    let behind_key : Option Meaning → Option Row = λ o. option_map (λ v. (encode_utf8_all (c ∷ cs), v)) o in
    ap (λ (b : Bool). cond b (inner (entry_of_line content)) None) (eq-eqb indent indent refl)
    ∙ (ap inner (key_entry c cs d ds (first_of_word c cs e) w) ∙ ap behind_key (word_line room indent d ds w))

entries_meaning : (room indent : ℕ) (es : List WordEntry) → list_all is_word_entry es ≡ true
    → all_of (entry (node (suc room)) (line_node (suc room)) indent) (map (entry_part indent) es) ≡ Some (map word_row es)
unfolding all_of
entries_meaning room indent [] all = refl
entries_meaning room indent (e ∷ es) all =
    let parts = both (is_word_entry e) (list_all is_word_entry es) all in
    let words = both (is_word e.key) (is_word e.value) parts.0 in
    let later : Option (List Row) = all_of (entry (node (suc room)) (line_node (suc room)) indent) (map (entry_part indent) es) in
    ap (λ (o : Option Row). option_and_then (λ y. option_map (λ ys. y ∷ ys) later) o) (entry_by room indent e.key e.value words.0 words.1)
    ∙ ap (λ (o : Option (List Row)). option_map (λ ys. word_row e ∷ ys) o) (entries_meaning room indent es parts.1)

-- ---- the table

table_is : (rs : List Row) (b : Bool) → table_meaning (cond b (Some rs) None) ≡ cond b (Some (table (members_of rs))) None
table_is rs true = refl
table_is rs false = refl

is_table : (room indent : ℕ) (key value : List ℕ) (later : List ContentLine) → is_word key ≡ true → is_word value ≡ true
    → node (suc room) (line_at indent (key ++ 58 ∷ 32 ∷ value) ∷ later) ≡ table_meaning (rows (node room) (line_node room) (line_at indent (key ++ 58 ∷ 32 ∷ value)) later)
unfolding node
is_table room indent [] value later e f = absurd (cc)
is_table room indent (c ∷ cs) [] later e f = absurd (cc)
is_table room indent (c ∷ cs) (d ∷ ds) later e f =
    let k = first_of_word c cs e in
    let rest : List ℕ = cs ++ 58 ∷ 32 ∷ d ∷ ds in
    let first : ContentLine = line_at indent (c ∷ rest) in
    let found : is_some (entry_of_line (c ∷ rest)) ≡ true = ap (λ (o : Option KeyAndValue). is_some o) (key_entry c cs d ds k (first_of_word d ds f)) in
    ap₂ (λ (a b : Bool). block (node room) (line_node room) (line_node (suc room) first later) a b first later) (no_item c rest cs k) found

lines_by : (room indent : ℕ) (es : List WordEntry) → 1 ≤ length es → list_all is_word_entry es ≡ true → node (suc (suc room)) (map (entry_line indent) es) ≡ table_of_entries es
lines_by room indent [] some all = absurd (omega arith)
lines_by room indent (e ∷ es) some all =
    let good = both (is_word_entry e) (list_all is_word_entry es) all in
    let words = both (is_word e.key) (is_word e.value) good.0 in
    let read : Option (List Row) → Option Meaning = λ o. table_meaning (option_and_then distinct o) in
    is_table (suc room) indent e.key e.value (map (entry_line indent) es) words.0 words.1
    ∙ (ap (λ (ps : List BlockPart). read (all_of (entry (node (suc room)) (line_node (suc room)) indent) ps)) (entry_parts indent e es good.1)
    ∙ (ap read (entries_meaning room indent (e ∷ es) all) ∙ table_is (map word_row (e ∷ es)) (keys_differ (map word_row (e ∷ es)))))

pub line_entries : (room indent : ℕ) (es : List WordEntry) → 2 ≤ room → AreWordEntries es → node room (map (entry_line indent) es) ≡ table_of_entries es
line_entries zero indent es enough are = absurd (omega arith)
line_entries (suc zero) indent es enough are = absurd (omega arith)
line_entries (suc (suc room)) indent es enough are = lines_by room indent es are.some are.all
