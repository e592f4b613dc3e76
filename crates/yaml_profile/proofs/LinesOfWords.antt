-- What the lines of a list of words mean.
use Rattle.std.proofs.Common.{◌≡◌, ℕ, zero, suc, ◌+◌, ◌≤◌, Bool, true, false, cond, ◌&&◌, eqb, List, [], ◌∷◌, ◌++◌, length, map, take, drop, Option, Some, None, option_map, option_and_then, is_some, refl, ap, ◌∙◌, arith}
use Rattle.std.proofs.lemmas.Bool.{eq-eqb, le-ltb}
use Rattle.std.specs.List.{prefix_len, list_all}
use Rattle.std.specs.Str.{encode_utf8_all}
use Rattle.yaml_lines.specs.Characters.{is_blank, is_space}
use Rattle.yaml_lines.specs.Entries.{ContentLine, KeyAndValue, is_item, rest_behind, rest_of, item_of, entry_of_line}
use Rattle.yaml_lines.specs.Meaning.{Meaning, text}
use Rattle.yaml_lines.specs.Plain.{is_indicator}
use Rattle.yaml_lines.specs.Scalars.{scalar_meaning}
use Rattle.yaml_profile.specs.Blocks.{BlockPart, Cut, put, cut, parts, is_deeper, all_of, item, lone, text_meaning, flow, line_node, block, items, list_meaning, node}
use Rattle.yaml_profile.specs.Words.{is_word, AreWords, list_of_words, item_line}
use Rattle.yaml_profile.proofs.Words.{both, or_none, apart, no_blank, no_hash, IsFirst, first_of_word, word_no_item, word_no_entry, word_meaning}

-- ---- the lines, one item each

abbrev item_part : ℕ → List ℕ → BlockPart
item_part indent word = record { head = item_line indent word; below = [] }

items_cut : (indent : ℕ) (words : List (List ℕ)) → cut (is_deeper indent) (map (item_line indent) words) ≡ record { before = []; parts = map (item_part indent) words }
unfolding cut
items_cut indent [] = refl
items_cut indent (word ∷ words) =
    let later : Cut = cut (is_deeper indent) (map (item_line indent) words) in
    ap (λ (b : Bool). put b (item_line indent word) later) (le-ltb indent indent (omega arith)) ∙ ap (put false (item_line indent word)) (items_cut indent words)

item_parts : (indent : ℕ) (word : List ℕ) (words : List (List ℕ)) → parts (is_deeper indent) (item_line indent word ∷ map (item_line indent) words) ≡ map (item_part indent) (word ∷ words)
item_parts indent word words =
    let f : Cut → List BlockPart = λ rest. record { head = item_line indent word; below = rest.before } ∷ rest.parts in ap f (items_cut indent words)

-- ---- one item

-- a line of these characters, which begins no block text
abbrev pub line_at : ℕ → List ℕ → ContentLine
line_at indent content = record { indent = indent; content = content; block = None }

-- the word as a line of its own, after the dash and a space
abbrev own_line : ℕ → List ℕ → ContentLine
own_line indent word = line_at (indent + 1 + 1) word

behind_dash : (indent c : ℕ) (cs : List ℕ) → IsFirst c cs → item_of (item_line indent (c ∷ cs)) ≡ Some (own_line indent (c ∷ cs) ∷ [])
unfolding item_of rest_of
behind_dash indent c cs w =
    let t : List ℕ = 32 ∷ c ∷ cs in
    let f : ℕ → Option (List ContentLine) = λ n. rest_behind (indent + 1 + n) None (list_all is_space (take n t)) (drop n t) in
    ap (λ (b : Bool). f (1 + cond b (1 + prefix_len is_blank cs) 0)) (no_blank c w.first)
    ∙ ap (λ (b : Bool). cond b (Some []) (Some (own_line indent (c ∷ cs) ∷ []))) (no_hash c w.first)

pub word_line : (room indent c : ℕ) (cs : List ℕ) → IsFirst c cs → line_node (suc room) (line_at indent (c ∷ cs)) [] ≡ Some (text (encode_utf8_all (c ∷ cs)) false)
word_line room indent c cs w =
    let place : ContentLine = line_at indent (c ∷ cs) in
    let far : (k : ℕ) → is_indicator k ≡ true → eqb c k ≡ false = λ k e. apart c k is_indicator w.first.no_indicator e in
    ap (λ (b : Bool). cond b (flow (suc room) (c ∷ cs) []) (lone (text_meaning place) [])) (or_none (eqb c 91) (eqb c 123) (far 91 refl) (far 123 refl))
    ∙ (ap (λ (b : Bool). cond b None (scalar_meaning (c ∷ cs))) (or_none (eqb c 124) (eqb c 62) (far 124 refl) (far 62 refl)) ∙ word_meaning c cs w)

own_node : (room indent c : ℕ) (cs : List ℕ) → IsFirst c cs → node (suc room) (own_line indent (c ∷ cs) ∷ []) ≡ Some (text (encode_utf8_all (c ∷ cs)) false)
unfolding node
own_node room indent c cs w =
    let place : ContentLine = own_line indent (c ∷ cs) in
    let f : Bool → Bool → Option Meaning = λ a b. block (node room) (line_node room) (line_node (suc room) place []) a b place [] in
    ap (λ (b : Bool). f b (is_some (entry_of_line (c ∷ cs)))) (word_no_item c cs w)
    ∙ (ap (λ (o : Option KeyAndValue). f false (is_some o)) (word_no_entry c cs w) ∙ word_line room (indent + 1 + 1) c cs w)

item_meaning : (room indent c : ℕ) (cs : List ℕ) → IsFirst c cs → item (node (suc room)) indent (item_part indent (c ∷ cs)) ≡ Some (text (encode_utf8_all (c ∷ cs)) false)
unfolding is_item
item_meaning room indent c cs w =
    let inner : Option (List ContentLine) → Option Meaning = λ o. option_and_then (λ front. node (suc room) (front ++ [])) o in
    ap (λ (b : Bool). cond (b && true) (inner (item_of (item_line indent (c ∷ cs)))) None) (eq-eqb indent indent refl)
    ∙ (ap inner (behind_dash indent c cs w) ∙ own_node room indent c cs w)

-- ---- the list

items_meaning : (room indent : ℕ) (words : List (List ℕ)) → list_all is_word words ≡ true
    → all_of (item (node (suc room)) indent) (map (item_part indent) words) ≡ Some (map (λ word. text (encode_utf8_all word) false) words)
unfolding all_of
items_meaning room indent [] all = refl
items_meaning room indent ([] ∷ words) all = absurd (cc)
items_meaning room indent ((c ∷ cs) ∷ words) all =
    let split = both (is_word (c ∷ cs)) (list_all is_word words) all in
    let value : Meaning = text (encode_utf8_all (c ∷ cs)) false in
    let later : Option (List Meaning) = all_of (item (node (suc room)) indent) (map (item_part indent) words) in
    ap (λ (o : Option Meaning). option_and_then (λ y. option_map (λ ys. y ∷ ys) later) o) (item_meaning room indent c cs (first_of_word c cs split.0))
    ∙ ap (λ (o : Option (List Meaning)). option_map (λ ys. value ∷ ys) o) (items_meaning room indent words split.1)

list_step : (room indent : ℕ) (word : List ℕ) (later : List ContentLine) → node (suc room) (item_line indent word ∷ later) ≡ list_meaning (items (node room) (item_line indent word) later)
unfolding node is_item
list_step room indent word later = refl

lines_by : (room indent : ℕ) (words : List (List ℕ)) → 1 ≤ length words → list_all is_word words ≡ true → node (suc (suc room)) (map (item_line indent) words) ≡ Some (list_of_words words)
lines_by room indent [] some all = absurd (omega arith)
lines_by room indent (word ∷ words) some all =
    list_step (suc room) indent word (map (item_line indent) words)
    ∙ (ap (λ (ps : List BlockPart). list_meaning (all_of (item (node (suc room)) indent) ps)) (item_parts indent word words) ∙ ap list_meaning (items_meaning room indent (word ∷ words) all))

-- ---- where there is room for one node alone

no_inner : (b : Bool) (o : Option (List ContentLine)) (below : List ContentLine) → cond b (option_and_then (λ front. node 0 (front ++ below)) o) None ≡ None
unfolding node
no_inner true None below = refl
no_inner true (Some front) below = refl
no_inner false o below = refl

no_items : (indent : ℕ) (p : BlockPart) (ps : List BlockPart) → list_meaning (all_of (item (node 0) indent) (p ∷ ps)) ≡ None
unfolding all_of
no_items indent p ps =
    ap (λ (o : Option Meaning). list_meaning (option_and_then (λ y. option_map (λ ys. y ∷ ys) (all_of (item (node 0) indent) ps)) o))
    (no_inner (eqb p.head.indent indent && is_item p.head.content) (item_of p.head) p.below)

too_deep_by : (indent : ℕ) (words : List (List ℕ)) → 1 ≤ length words → node 1 (map (item_line indent) words) ≡ None
too_deep_by indent [] some = absurd (omega arith)
too_deep_by indent (word ∷ words) some =
    list_step 0 indent word (map (item_line indent) words)
    ∙ (ap (λ (ps : List BlockPart). list_meaning (all_of (item (node 0) indent) ps)) (item_parts indent word words) ∙ no_items indent (item_part indent word) (map (item_part indent) words))

pub lines_too_deep : (indent : ℕ) (words : List (List ℕ)) → AreWords words → node 1 (map (item_line indent) words) ≡ None
lines_too_deep indent words are = too_deep_by indent words are.some

-- ---- where there is more

pub line_words : (room indent : ℕ) (words : List (List ℕ)) → 2 ≤ room → AreWords words → node room (map (item_line indent) words) ≡ Some (list_of_words words)
line_words zero indent words enough are = absurd (omega arith)
line_words (suc zero) indent words enough are = absurd (omega arith)
line_words (suc (suc room)) indent words enough are = lines_by room indent words are.some are.all
