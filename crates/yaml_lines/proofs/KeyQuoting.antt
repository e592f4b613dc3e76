-- A key, plain and within quotes.
use Rattle.std.proofs.Common.{◌≡◌, ℕ, Bool, true, false, cond, not, ◌&&◌, ◌||◌, eqb, List, [], ◌∷◌, ◌++◌, Option, Some, None, option_map, option_and_then, is_none, refl, sym, ap, ◌∙◌, arith, append_assoc}
use Rattle.std.specs.List.{list_all, flat_map}
use Rattle.std.specs.Str.{encode_utf8_all}
use Rattle.yaml_lines.specs.Characters.{is_blank, blank_or_end}
use Rattle.yaml_lines.specs.Entries.{KeyAndValue, value_behind, plain_entry, behind_colon, quoted_entry, entry_of_line}
use Rattle.yaml_lines.specs.Plain.{is_indicator, is_mark_character, begins_plain, plain_of, Sides, before_side, sides_of, trim_end, uncommented}
use Rattle.yaml_lines.specs.Quoted.{is_quote, single_step, double_step, step_of, quoted_of}
use Rattle.yaml_lines.specs.QuotingLaws.{IsPlainAlone, in_quotes, fits_single, fits_double}
use Rattle.yaml_lines.proofs.Quoting.{plain_parts, plain_first, bytes_of, single_one, double_one}
use Rattle.yaml_lines.proofs.Written.{reads, written_quoted}

and_none : (a b : Bool) → b ≡ false → (a && b) ≡ false
and_none true b e = e
and_none false b e = refl

-- ---- the plain key

no_sides_by : (b : Bool) (all bytes : List ℕ) (o : Option Sides) → b ≡ true → cond (b && is_none o) (Some all) None ≡ Some bytes → o ≡ None
no_sides_by true all bytes None e f = refl
no_sides_by true all bytes (Some sides) e f = absurd (cc)
no_sides_by false all bytes o e f = absurd (cc)

no_sides : (content bytes : List ℕ) → plain_of content ≡ Some bytes → sides_of true content ≡ None
unfolding plain_of
no_sides content bytes e = no_sides_by (begins_plain content) (encode_utf8_all (trim_end (uncommented true content))) bytes (sides_of true content) (plain_parts content bytes e).0 e

-- what the characters of a key say of the first of them
kept_by : (b : Bool) (c : ℕ) (cs more : List ℕ) → cond b [] (c ∷ more) ≡ c ∷ cs → (b ≡ false) × (more ≡ cs)
kept_by true c cs more e = absurd (cc)
kept_by false c cs more e = (refl, cc)

passed_by : (a b : Bool) (c : ℕ) (here : Sides) (o : Option Sides) → a ≡ false → cond a None (cond b (Some here) (option_map (before_side c) o)) ≡ None → (b ≡ false) × (o ≡ None)
passed_by true b c here o e f = absurd (cc)
passed_by false true c here o e f = absurd (cc)
passed_by false false c here None e f = (refl, refl)
passed_by false false c here (Some sides) e f = absurd (cc)

no_colon : (c : ℕ) (cs behind : List ℕ) → (eqb c 58 && blank_or_end cs) ≡ false → (eqb c 58 && blank_or_end (cs ++ 58 ∷ behind)) ≡ false
no_colon c [] behind e = and_none (eqb c 58) (blank_or_end (58 ∷ behind)) refl
no_colon c (d ∷ ds) behind e = e

key_sides : (free : Bool) (key behind : List ℕ) → uncommented free key ≡ key → sides_of free key ≡ None → blank_or_end behind ≡ true
    → sides_of free (key ++ 58 ∷ behind) ≡ Some (record { before = key; behind = behind })
unfolding uncommented sides_of
key_sides free [] behind kept none blank =
    let here : Option Sides = Some (record { before = []; behind = behind }) in
    let later : Option Sides = option_map (before_side 58) (sides_of (is_blank 58) behind) in
    ap (λ (b : Bool). cond b None (cond (blank_or_end behind) here later)) (and_none free (eqb 58 35) refl) ∙ ap (λ (b : Bool). cond b here later) blank
key_sides free (c ∷ cs) behind kept none blank =
    let first = kept_by (free && eqb c 35) c cs (uncommented (is_blank c) cs) kept in
    let next = passed_by (free && eqb c 35) (eqb c 58 && blank_or_end cs) c (record { before = []; behind = cs }) (sides_of (is_blank c) cs) first.0 none in
    let rest : List ℕ = cs ++ 58 ∷ behind in
    let here : Option Sides = Some (record { before = []; behind = rest }) in
    let later : Option Sides = option_map (before_side c) (sides_of (is_blank c) rest) in
    ap (λ (b : Bool). cond b None (cond (eqb c 58 && blank_or_end rest) here later)) first.0
    ∙ (ap (λ (b : Bool). cond b here later) (no_colon c cs behind next.0) ∙ ap (option_map (before_side c)) (key_sides (is_blank c) cs behind first.1 next.1 blank))

begins_by : (a b : Bool) → (not a && not (b && true)) ≡ true → (not a && not (b && false)) ≡ true
begins_by true b e = absurd (cc)
begins_by false true e = absurd (cc)
begins_by false false e = refl

key_begins : (c : ℕ) (cs behind : List ℕ) → begins_plain (c ∷ cs) ≡ true → begins_plain (c ∷ (cs ++ 58 ∷ behind)) ≡ true
unfolding begins_plain
key_begins c [] behind e = begins_by (is_indicator c) (is_mark_character c) e
key_begins c (d ∷ ds) behind e = e

plain_key_by : (key behind : List ℕ) → begins_plain key ≡ true → uncommented true key ≡ key → sides_of true key ≡ None → blank_or_end behind ≡ true
    → entry_of_line (key ++ 58 ∷ behind) ≡ Some (record { key = encode_utf8_all (trim_end key); value = value_behind behind })
unfolding entry_of_line begins_plain
plain_key_by [] behind begins kept none blank = absurd (cc)
plain_key_by (c ∷ cs) behind begins kept none blank =
    let t : List ℕ = c ∷ (cs ++ 58 ∷ behind) in
    let plain : Option KeyAndValue = option_map plain_entry (sides_of true t) in
    ap (λ (b : Bool). cond b (option_and_then quoted_entry (quoted_of t)) (cond (begins_plain t) plain None)) (plain_first c cs begins)
    ∙ (ap (λ (b : Bool). cond b plain None) (key_begins c cs behind begins) ∙ ap (option_map plain_entry) (key_sides true (c ∷ cs) behind kept none blank))

abbrev entry : List ℕ → List ℕ → Option KeyAndValue
entry key behind = Some (record { key = key; value = value_behind behind })

pub plain_key : (key bytes behind : List ℕ) → IsPlainAlone key bytes → blank_or_end behind ≡ true → entry_of_line (key ++ 58 ∷ behind) ≡ Some (record { key = bytes; value = value_behind behind })
plain_key key bytes behind is blank =
    plain_key_by key behind (plain_parts key bytes is.plain).0 is.without_comment (no_sides key bytes is.plain) blank
    ∙ ap (λ (cs : List ℕ). entry cs behind) (ap encode_utf8_all is.without_blanks ∙ bytes_of key bytes is)

-- ---- the key in quotes

itself : (cs : List ℕ) → flat_map (λ c. c ∷ []) cs ≡ cs
itself [] = refl
itself (c ∷ cs) = ap (λ (ds : List ℕ). c ∷ ds) (itself cs)

colon_behind : (behind : List ℕ) → blank_or_end behind ≡ true → behind_colon (58 ∷ behind) ≡ Some behind
colon_behind behind blank = ap (λ (b : Bool). cond b (Some behind) None) blank

quoted_key : (mark : ℕ) (stands : ℕ → Bool) (key bytes behind : List ℕ) → is_quote mark ≡ true → ((c : ℕ) (rest : List ℕ) → stands c ≡ true → step_of mark (c ∷ rest) ≡ reads c rest)
    → step_of mark (mark ∷ 58 ∷ behind) ≡ Some (record { character = None; rest = 58 ∷ behind }) → list_all stands key ≡ true → encode_utf8_all key ≡ bytes → blank_or_end behind ≡ true
    → entry_of_line (in_quotes mark key ++ 58 ∷ behind) ≡ Some (record { key = bytes; value = value_behind behind })
unfolding entry_of_line
quoted_key mark stands key bytes behind quote one last all e blank =
    let t : List ℕ = key ++ mark ∷ 58 ∷ behind in
    let plain : Option KeyAndValue = cond (begins_plain (mark ∷ t)) (option_map plain_entry (sides_of true (mark ∷ t))) None in
    let found : quoted_of (mark ∷ t) ≡ Some (record { text = encode_utf8_all key; rest = 58 ∷ behind }) =
    ap (λ (cs : List ℕ). quoted_of (mark ∷ (cs ++ mark ∷ 58 ∷ behind))) (sym (itself key))
    ∙ written_quoted mark (λ c. c ∷ []) stands (λ c. omega arith) one (58 ∷ behind) last key quote all in
    ap (λ (cs : List ℕ). entry_of_line (mark ∷ cs)) (append_assoc key (mark ∷ []) (58 ∷ behind))
    ∙ (ap (λ (b : Bool). cond b (option_and_then quoted_entry (quoted_of (mark ∷ t))) plain) quote
    ∙ (ap (option_and_then quoted_entry) found
    ∙ (ap (λ (o : Option (List ℕ)). option_map (λ cs. record { key = encode_utf8_all key; value = value_behind cs }) o) (colon_behind behind blank) ∙ ap (λ (cs : List ℕ). entry cs behind) e)))

pub single_key : (key bytes behind : List ℕ) → IsPlainAlone key bytes → fits_single key ≡ true → blank_or_end behind ≡ true
    → entry_of_line (in_quotes 39 key ++ 58 ∷ behind) ≡ Some (record { key = bytes; value = value_behind behind })
unfolding single_step
single_key key bytes behind is fits blank = quoted_key 39 (λ c. not (eqb c 39 || eqb c 10)) key bytes behind refl single_one refl fits (bytes_of key bytes is) blank

pub double_key : (key bytes behind : List ℕ) → IsPlainAlone key bytes → fits_double key ≡ true → blank_or_end behind ≡ true
    → entry_of_line (in_quotes 34 key ++ 58 ∷ behind) ≡ Some (record { key = bytes; value = value_behind behind })
unfolding double_step
double_key key bytes behind is fits blank = quoted_key 34 (λ c. not (eqb c 34 || eqb c 92 || eqb c 10)) key bytes behind refl double_one refl fits (bytes_of key bytes is) blank
