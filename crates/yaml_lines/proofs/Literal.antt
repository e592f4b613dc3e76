-- Lines that are indented alike are the lines of a literal block text, and its text.
use Rattle.std.proofs.Common.{◌≡◌, ℕ, zero, suc, ◌+◌, ◌<◌, ◌≤◌, Bool, true, false, cond, not, ◌&&◌, ◌||◌, eqb, ltb, List, [], ◌∷◌, ◌++◌, length, drop, map, replicate, Option, Some, None, refl, sym, ap, ◌∙◌, arith, append_assoc}
use Rattle.std.proofs.lemmas.Bool.{lt-ltb, le-leb}
use Rattle.std.specs.List.{prefix_len, list_all}
use Rattle.std.specs.Str.{encode_utf8_all}
use Rattle.yaml_lines.specs.BlockLaws.{literal, indented, all_indented, text_of_lines, begins_bare, ends_full}
use Rattle.yaml_lines.specs.BlockTexts.{LineText, all_spaces, spaces, margin_of, belongs, extent, is_ragged, without_margin, has_text, feeds_of, joined, block_text}
use Rattle.yaml_lines.specs.Characters.{is_space}
use Rattle.yaml_lines.specs.declared.header.Chomping.TheVariants.{Clip, Keep}
use Rattle.yaml_lines.proofs.Passes.{joined-nil, joined-cons}

-- ---- a line after its indentation

behind : (n : ℕ) (line : List ℕ) → drop n (replicate n 32 ++ line) ≡ line
behind zero line = refl
behind (suc n) line = behind n line

not_all : (n c : ℕ) (cs : List ℕ) → eqb c 32 ≡ false → list_all is_space (replicate n 32 ++ c ∷ cs) ≡ false
not_all zero c cs e = ap (λ (b : Bool). b && list_all is_space cs) e
not_all (suc n) c cs e = not_all n c cs e

one_more : (n : ℕ) → 1 + n ≡ suc n
one_more n = omega arith

exactly : (n c : ℕ) (cs : List ℕ) → eqb c 32 ≡ false → prefix_len is_space (replicate n 32 ++ c ∷ cs) ≡ n
exactly zero c cs e = ap (λ (b : Bool). cond b (1 + prefix_len is_space cs) 0) e
exactly (suc n) c cs e = ap (λ (k : ℕ). 1 + k) (exactly n c cs e) ∙ one_more n

at_least : (n : ℕ) (line : List ℕ) → n ≤ prefix_len is_space (replicate n 32 ++ line)
at_least zero line = omega arith
at_least (suc n) line = let h = at_least n line in omega arith

bare_by : (a b : Bool) → (not a && not b) ≡ true → b ≡ false
bare_by true b e = cc
bare_by false true e = cc
bare_by false false e = refl

first_bare : (c : ℕ) (cs : List ℕ) (lines : List (List ℕ)) → begins_bare ((c ∷ cs) ∷ lines) ≡ true → eqb c 32 ≡ false
first_bare c cs lines e = bare_by false (eqb c 32) e

-- ---- the indentation, and which lines belong

margin_by : (column margin n : ℕ) (all above : Bool) (more : Option ℕ) → all ≡ false → above ≡ true → n ≡ margin → cond all more (cond above (Some n) None) ≡ Some margin
margin_by column margin n true above more a b e = cc
margin_by column margin n false false more a b e = cc
margin_by column margin n false true more a b e = ap Some e

pub margin_is : (column margin : ℕ) (lines : List (List ℕ)) → column < margin → begins_bare lines ≡ true → margin_of column (all_indented margin lines) ≡ Some margin
unfolding margin_of
margin_is column margin [] deep e = cc
margin_is column margin ([] ∷ lines) deep e = cc
margin_is column margin ((c ∷ cs) ∷ lines) deep e =
    let other = first_bare c cs lines e in
    let n : ℕ = spaces (indented margin (c ∷ cs)) in
    let is : n ≡ margin = exactly margin c cs other in
    margin_by column margin n (all_spaces (indented margin (c ∷ cs))) (ltb column n) (margin_of column (all_indented margin lines)) (not_all margin c cs other) (lt-ltb column n (omega arith)) is

or_true : (b : Bool) → (b || true) ≡ true
or_true true = refl
or_true false = refl

belongs_indented : (margin : ℕ) (line : List ℕ) → belongs (Some margin) (indented margin line) ≡ true
belongs_indented margin line =
    ap (λ (b : Bool). all_spaces (indented margin line) || b) (le-leb margin (spaces (indented margin line)) (at_least margin line)) ∙ or_true (all_spaces (indented margin line))

pub all_belong : (margin : ℕ) (lines : List (List ℕ)) → extent (Some margin) (all_indented margin lines) ≡ length lines
all_belong margin [] = refl
all_belong margin (line ∷ lines) =
    ap (λ (b : Bool). cond b (1 + extent (Some margin) (all_indented margin lines)) 0) (belongs_indented margin line)
    ∙ (ap (λ (n : ℕ). 1 + n) (all_belong margin lines) ∙ one_more (length lines))

pub none_ragged : (margin : ℕ) (lines : List (List ℕ)) → begins_bare lines ≡ true → is_ragged (Some margin) (all_indented margin lines) ≡ false
unfolding is_ragged
none_ragged margin [] e = cc
none_ragged margin ([] ∷ lines) e = cc
none_ragged margin ((c ∷ cs) ∷ lines) e =
    let text : List ℕ = replicate margin 32 ++ c ∷ cs in
    ap (λ (b : Bool). b && (ltb margin (length text) || is_ragged (Some margin) (all_indented margin lines))) (not_all margin c cs (first_bare c cs lines e))

-- ---- the text

-- the line without its indentation
abbrev bare : List ℕ → LineText
bare line = record { text = line; ended = true }

bare_again : (margin : ℕ) (lines : List (List ℕ)) → map (without_margin (Some margin)) (all_indented margin lines) ≡ map bare lines
bare_again margin [] = refl
bare_again margin (line ∷ lines) =
    ap (λ (text : List ℕ). bare text ∷ map (without_margin (Some margin)) (all_indented margin lines)) (behind margin line)
    ∙ ap (λ (ls : List LineText). bare line ∷ ls) (bare_again margin lines)

all_empty : (lines : List (List ℕ)) → has_text (map bare lines) ≡ false → feeds_of (map bare lines) ≡ text_of_lines lines
all_empty [] e = refl
all_empty ([] ∷ lines) e = ap (λ (bs : List ℕ). 10 ∷ bs) (all_empty lines e)
all_empty ((c ∷ cs) ∷ lines) e = cc

-- a line with its line feed
with_feed : (line rest all : List ℕ) → rest ≡ all → line ++ (10 ∷ rest) ≡ (line ++ 10 ∷ []) ++ all
with_feed line rest all e = ap (λ (bs : List ℕ). line ++ (10 ∷ bs)) e ∙ sym (append_assoc line (10 ∷ []) all)

kept_line : (line : List ℕ) (lines : List (List ℕ)) (b : Bool) → has_text (map bare lines) ≡ b → joined (literal Keep) (map bare lines) ≡ text_of_lines lines
    → joined (literal Keep) (map bare (line ∷ lines)) ≡ text_of_lines (line ∷ lines)
kept_line line lines true some rest =
    joined-cons (literal Keep) (bare line) (map bare lines) true some
    ∙ with_feed (encode_utf8_all line) (joined (literal Keep) (map bare lines)) (text_of_lines lines) rest
kept_line line lines false none rest =
    joined-cons (literal Keep) (bare line) (map bare lines) false none
    ∙ with_feed (encode_utf8_all line) (feeds_of (map bare lines)) (text_of_lines lines) (all_empty lines none)

kept_lines : (lines : List (List ℕ)) → joined (literal Keep) (map bare lines) ≡ text_of_lines lines
kept_lines [] = joined-nil (literal Keep)
kept_lines (line ∷ lines) = kept_line line lines (has_text (map bare lines)) refl (kept_lines lines)

pub kept_text : (margin : ℕ) (lines : List (List ℕ)) → block_text (literal Keep) (Some margin) (all_indented margin lines) ≡ text_of_lines lines
kept_text margin lines = ap (joined (literal Keep)) (bare_again margin lines) ∙ kept_lines lines

full_has_text : (lines : List (List ℕ)) → ends_full lines ≡ true → has_text (map bare lines) ≡ true
full_has_text [] full = cc
full_has_text ([] ∷ []) full = cc
full_has_text ((c ∷ cs) ∷ lines) full = refl
full_has_text ([] ∷ (line ∷ lines)) full = full_has_text (line ∷ lines) full

clipped_lines : (lines : List (List ℕ)) → ends_full lines ≡ true → joined (literal Clip) (map bare lines) ≡ text_of_lines lines
clipped_lines [] full = cc
clipped_lines ([] ∷ []) full = cc
clipped_lines ((c ∷ cs) ∷ []) full =
    joined-cons (literal Clip) (bare (c ∷ cs)) [] false refl ∙ with_feed (encode_utf8_all (c ∷ cs)) [] [] refl
clipped_lines (line ∷ (next ∷ lines)) full =
    joined-cons (literal Clip) (bare line) (map bare (next ∷ lines)) true (full_has_text (next ∷ lines) full)
    ∙ with_feed (encode_utf8_all line) (joined (literal Clip) (map bare (next ∷ lines))) (text_of_lines (next ∷ lines)) (clipped_lines (next ∷ lines) full)

pub clipped_text : (margin : ℕ) (lines : List (List ℕ)) → ends_full lines ≡ true → block_text (literal Clip) (Some margin) (all_indented margin lines) ≡ text_of_lines lines
clipped_text margin lines full = ap (joined (literal Clip)) (bare_again margin lines) ∙ clipped_lines lines full
