-- What the whole texts of a list of words mean.
use Rattle.std.proofs.Common.{◌≡◌, ℕ, Bool, true, false, cond, not, ◌&&◌, ◌||◌, eqb, List, [], ◌∷◌, ◌++◌, map, Option, Some, None, option_map, option_and_then, refl, ap, ap₂, ◌∙◌, arith}
use Rattle.std.proofs.lemmas.List.{append-nil}
use Rattle.std.proofs.lemmas.List.Folds.{list_all-append}
use Rattle.std.specs.List.{list_all, list_any, join_with_byte}
use Rattle.yaml_lines.specs.BlockTexts.{LineText, margin_of, header_of}
use Rattle.yaml_lines.specs.Characters.{characters_of, is_allowed, begins_with, blank_or_end}
use Rattle.yaml_lines.specs.Entries.{ContentLine, entry_of_line}
use Rattle.yaml_lines.specs.FlowLines.{outside, state_behind, skim}
use Rattle.yaml_lines.specs.Lines.{before_lines, line_texts, ColumnValue, value_at, last_value, Left, standing, bare, with_text, with_value, with_flow, left_of, left_at_line, before_content_lines, all_content_lines, is_mark, document, content_lines_from, content_lines_of}
use Rattle.yaml_lines.specs.Meaning.{Meaning, most_nodes}
use Rattle.yaml_lines.specs.Plain.{is_indicator, begins_plain}
use Rattle.yaml_profile.specs.Blocks.{further, node, whole_text}
use Rattle.yaml_flows.specs.Flows.{flow_meaning}
use Rattle.yaml_profile.specs.Words.{is_word_character, is_word, AreWords, list_of_words, item_line, flow_of_words, lines_of_words}
use Rattle.yaml_profile.specs.Text.{meaning_of}
use Rattle.yaml_profile.proofs.FlowOfWords.{flow_words}
use Rattle.yaml_profile.proofs.LinesOfWords.{line_words}
use Rattle.yaml_profile.proofs.Texts.{meaning_of-characters}
use Rattle.yaml_profile.proofs.Words.{both, or_none, apart, ordinary, no_blank, no_feed, no_return, no_dash, allowed, IsFirst, first_of_word, word_no_entry}

-- ---- characters that stay on their line

-- neither a line feed nor a carriage return, and allowed on a line
unfoldable pub stays : ℕ → Bool
stays c = not (eqb c 10 || eqb c 13) && is_allowed c

pub weaker : (p q : ℕ → Bool) → ((c : ℕ) → p c ≡ true → q c ≡ true) → (cs : List ℕ) → list_all p cs ≡ true → list_all q cs ≡ true
weaker p q implies [] all = refl
weaker p q implies (c ∷ cs) all =
    let parts = both (p c) (list_all p cs) all in ap₂ (λ (a b : Bool). a && b) (implies c parts.0) (weaker p q implies cs parts.1)

pub word_stays : (c : ℕ) → is_word_character c ≡ true → stays c ≡ true
unfolding stays
word_stays c e =
    let o = ordinary c e in
    ap₂ (λ (a b : Bool). not a && b) (or_none (eqb c 10) (eqb c 13) (no_feed c o) (no_return c o)) (allowed c o)

pub stays_allowed : (c : ℕ) → stays c ≡ true → is_allowed c ≡ true
unfolding stays
stays_allowed c e = (both (not (eqb c 10 || eqb c 13)) (is_allowed c) e).1

neither : (a b : Bool) → not (a || b) ≡ true → (a ≡ false) × (b ≡ false)
neither true b e = absurd (cc)
neither false true e = absurd (cc)
neither false false e = (refl, refl)

-- ---- the lines of a text

pub one_line : (cs rest : List ℕ) → list_all stays cs ≡ true → line_texts (cs ++ 10 ∷ rest) ≡ record { text = cs; ended = true } ∷ line_texts rest
unfolding line_texts stays
one_line [] rest all = refl
one_line (c ∷ cs) rest all =
    let parts = both (stays c) (list_all stays cs) all in
    let ends = neither (eqb c 10) (eqb c 13) (both (not (eqb c 10 || eqb c 13)) (is_allowed c) parts.0).0 in
    let more : List ℕ = cs ++ 10 ∷ rest in
    let later : List LineText = line_texts more in
    ap (λ (b : Bool). cond b (record { text = []; ended = true } ∷ later) (cond (eqb c 13 && begins_with 10 more) later (before_lines c later))) ends.0
    ∙ (ap (λ (b : Bool). cond (b && begins_with 10 more) later (before_lines c later)) ends.1 ∙ ap (before_lines c) (one_line cs rest parts.1))

-- ---- the lines of a list

abbrev dashed : List ℕ → LineText
dashed word = record { text = 45 ∷ 32 ∷ word; ended = true }

dashed_stays : (word : List ℕ) → list_all is_word_character word ≡ true → list_all stays (45 ∷ 32 ∷ word) ≡ true
unfolding stays
dashed_stays word all = weaker is_word_character stays word_stays word all

dashed_lines : (words : List (List ℕ)) → list_all is_word words ≡ true → line_texts (lines_of_words words) ≡ map dashed words
unfolding line_texts
dashed_lines [] all = refl
dashed_lines ([] ∷ words) all = absurd (cc)
dashed_lines ((c ∷ cs) ∷ words) all =
    let parts = both (is_word (c ∷ cs)) (list_all is_word words) all in
    one_line (45 ∷ 32 ∷ c ∷ cs) (lines_of_words words) (dashed_stays (c ∷ cs) parts.0) ∙ ap (λ (ls : List LineText). dashed (c ∷ cs) ∷ ls) (dashed_lines words parts.1)

dashed_value : (c : ℕ) (cs : List ℕ) → IsFirst c cs → last_value 0 None (45 ∷ 32 ∷ c ∷ cs) ≡ Some (record { column = 0; content = c ∷ cs })
unfolding last_value
dashed_value c cs w =
    let here : Option ColumnValue = value_at 2 (Some 0) (c ∷ cs) (entry_of_line (c ∷ cs)) in
    ap (λ (b : Bool). cond b (last_value 3 (Some 0) cs) (cond (eqb c 45 && blank_or_end cs) (last_value 3 (Some 2) cs) here)) (no_blank c w.first)
    ∙ (ap (λ (b : Bool). cond (b && blank_or_end cs) (last_value 3 (Some 2) cs) here) (no_dash c w.first)
    ∙ ap (value_at 2 (Some 0) (c ∷ cs)) (word_no_entry c cs w))

pub word_with : (content : List ℕ) (c : ℕ) (cs : List ℕ) (later : List LineText) → IsFirst c cs
    → with_value 0 content later (Some (record { column = 0; content = c ∷ cs })) ≡ Some (bare 0 content outside)
unfolding with_value
word_with content c cs later w =
    let far : (k : ℕ) → is_indicator k ≡ true → eqb c k ≡ false = λ k e. apart c k is_indicator w.first.no_indicator e in
    ap (λ (b : Bool). cond b (option_and_then (with_text 0 content later (margin_of 0 later)) (header_of (c ∷ cs))) (Some (bare 0 content (state_behind (c ∷ cs)))))
    (or_none (eqb c 124) (eqb c 62) (far 124 refl) (far 62 refl))
    ∙ ap (λ (b : Bool). Some (bare 0 content (cond b (skim outside (c ∷ cs)) outside))) (or_none (eqb c 91) (eqb c 123) (far 91 refl) (far 123 refl))

dashed_left : (c : ℕ) (cs : List ℕ) (later : List LineText) → IsFirst c cs → left_at_line (standing 0 outside) (45 ∷ 32 ∷ c ∷ cs) later ≡ Some (bare 0 (45 ∷ 32 ∷ c ∷ cs) outside)
unfolding left_at_line left_of with_flow
dashed_left c cs later w =
    let content : List ℕ = 45 ∷ 32 ∷ c ∷ cs in
    let value : Option Left = with_value 0 content later (last_value 0 None content) in
    ap (λ (b : Bool). cond (not b) None value) (weaker stays is_allowed stays_allowed content (dashed_stays (c ∷ cs) w.all))
    ∙ (ap (with_value 0 content later) (dashed_value c cs w) ∙ word_with content c cs later w)

dashed_places : (words : List (List ℕ)) → list_all is_word words ≡ true → all_content_lines (standing 0 outside) (map dashed words) ≡ Some (map (item_line 0) words)
unfolding all_content_lines
dashed_places [] all = refl
dashed_places ([] ∷ words) all = absurd (cc)
dashed_places ((c ∷ cs) ∷ words) all =
    let parts = both (is_word (c ∷ cs)) (list_all is_word words) all in
    let lines : List LineText = map dashed words in
    ap (λ (o : Option Left). option_and_then (λ left. option_map (before_content_lines left.content_line) (all_content_lines left.next lines)) o) (dashed_left c cs lines (first_of_word c cs parts.0))
    ∙ ap (λ (o : Option (List ContentLine)). option_map (before_content_lines (Some (item_line 0 (c ∷ cs)))) o) (dashed_places words parts.1)

no_marks : (words : List (List ℕ)) → list_all is_word words ≡ true → list_any is_mark (map (item_line 0) words) ≡ false
no_marks [] all = refl
no_marks ([] ∷ words) all = absurd (cc)
no_marks ((c ∷ cs) ∷ words) all = no_marks words (both (is_word (c ∷ cs)) (list_all is_word words) all).1

dashed_document : (words : List (List ℕ)) → list_all is_word words ≡ true → document (map (item_line 0) words) ≡ Some (map (item_line 0) words)
unfolding document
dashed_document [] all = refl
dashed_document ([] ∷ words) all = absurd (cc)
dashed_document ((c ∷ cs) ∷ words) all =
    let ps : List ContentLine = map (item_line 0) ((c ∷ cs) ∷ words) in ap (λ (b : Bool). cond b None (Some ps)) (no_marks ((c ∷ cs) ∷ words) all)

item_whole : (room : ℕ) (words : List (List ℕ)) → list_all is_word words ≡ true → whole_text room (map (item_line 0) words) ≡ node room (map (item_line 0) words)
unfolding whole_text
item_whole room [] all = refl
item_whole room (word ∷ words) all = refl

lines_text : (words : List (List ℕ)) → AreWords words → option_and_then (whole_text most_nodes) (content_lines_of (lines_of_words words)) ≡ Some (list_of_words words)
unfolding content_lines_of content_lines_from
lines_text words are =
    let read : Option (List ContentLine) → Option Meaning = λ o. option_and_then (whole_text most_nodes) (option_and_then document o) in
    ap (λ (ls : List LineText). read (all_content_lines (standing 0 outside) ls)) (dashed_lines words are.all)
    ∙ (ap read (dashed_places words are.all)
    ∙ (ap (option_and_then (whole_text most_nodes)) (dashed_document words are.all)
    ∙ (item_whole most_nodes words are.all ∙ line_words most_nodes 0 words (omega arith) are)))

-- ---- the line of a flow

pub word_all : (word : List ℕ) → is_word word ≡ true → list_all is_word_character word ≡ true
word_all [] e = refl
word_all (c ∷ cs) e = e

words_stay : (words : List (List ℕ)) → list_all is_word words ≡ true → list_all stays (join_with_byte 44 words) ≡ true
unfolding stays
words_stay [] all = refl
words_stay (word ∷ []) all = weaker is_word_character stays word_stays word (word_all word (both (is_word word) true all).0)
words_stay (word ∷ next ∷ words) all =
    let parts = both (is_word word) (list_all is_word (next ∷ words)) all in
    list_all-append stays word (44 ∷ join_with_byte 44 (next ∷ words))
    ∙ ap₂ (λ (a b : Bool). a && b) (weaker is_word_character stays word_stays word (word_all word parts.0)) (words_stay (next ∷ words) parts.1)

flow_stays : (words : List (List ℕ)) → list_all is_word words ≡ true → list_all stays (flow_of_words words) ≡ true
unfolding stays
flow_stays words all = list_all-append stays (join_with_byte 44 words) (93 ∷ []) ∙ ap (λ (b : Bool). b && true) (words_stay words all)

flow_left : (cs : List ℕ) → list_all is_allowed (91 ∷ cs) ≡ true → left_at_line (standing 0 outside) (91 ∷ cs) [] ≡ Some (bare 0 (91 ∷ cs) (state_behind (91 ∷ cs)))
unfolding left_at_line left_of with_flow with_value last_value entry_of_line begins_plain
flow_left cs all = ap (λ (b : Bool). cond (not b) None (Some (bare 0 (91 ∷ cs) (state_behind (91 ∷ cs))))) all

abbrev flow_line : List ℕ → ContentLine
flow_line cs = record { indent = 0; content = 91 ∷ cs; block = None }

flow_places : (cs : List ℕ) → list_all is_allowed (91 ∷ cs) ≡ true → all_content_lines (standing 0 outside) (record { text = 91 ∷ cs; ended = true } ∷ []) ≡ Some (flow_line cs ∷ [])
unfolding all_content_lines
flow_places cs all = ap (λ (o : Option Left). option_and_then (λ left. option_map (before_content_lines left.content_line) (all_content_lines left.next [])) o) (flow_left cs all)

flow_document : (cs : List ℕ) → document (flow_line cs ∷ []) ≡ Some (flow_line cs ∷ [])
unfolding document
flow_document [] = refl
flow_document (a ∷ []) = refl
flow_document (a ∷ b ∷ cs) = refl

flow_whole : (room : ℕ) (cs : List ℕ) → whole_text room (flow_line cs ∷ []) ≡ flow_meaning room (91 ∷ cs)
unfolding whole_text further
flow_whole room cs = ap (λ (ds : List ℕ). flow_meaning room (91 ∷ ds)) (append-nil cs)

pub no_line_behind : (cs : List ℕ) → ◌≡◌ {A = List LineText} (record { text = cs; ended = true } ∷ line_texts []) (record { text = cs; ended = true } ∷ [])
unfolding line_texts
no_line_behind cs = refl

flow_text : (words : List (List ℕ)) → AreWords words → option_and_then (whole_text most_nodes) (content_lines_of (flow_of_words words ++ 10 ∷ [])) ≡ Some (list_of_words words)
unfolding content_lines_of content_lines_from
flow_text words are =
    let inner : List ℕ = join_with_byte 44 words ++ 93 ∷ [] in
    let keep = flow_stays words are.all in
    let read : Option (List ContentLine) → Option Meaning = λ o. option_and_then (whole_text most_nodes) (option_and_then document o) in
    ap (λ (ls : List LineText). read (all_content_lines (standing 0 outside) ls)) (one_line (91 ∷ inner) [] keep ∙ no_line_behind (91 ∷ inner))
    ∙ (ap read (flow_places inner (weaker stays is_allowed stays_allowed (91 ∷ inner) keep))
    ∙ (ap (option_and_then (whole_text most_nodes)) (flow_document inner)
    ∙ (flow_whole most_nodes inner ∙ flow_words most_nodes words (omega arith) are)))

-- ---- the bytes

pub text_of_lines : (words : List (List ℕ)) (bytes : List ℕ) → AreWords words → characters_of bytes ≡ Some (lines_of_words words) → meaning_of bytes ≡ Some (list_of_words words)
text_of_lines words bytes are e = meaning_of-characters bytes (lines_of_words words) e ∙ lines_text words are

pub text_of_flow : (words : List (List ℕ)) (bytes : List ℕ) → AreWords words → characters_of bytes ≡ Some (flow_of_words words ++ 10 ∷ []) → meaning_of bytes ≡ Some (list_of_words words)
text_of_flow words bytes are e = meaning_of-characters bytes (flow_of_words words ++ 10 ∷ []) e ∙ flow_text words are
