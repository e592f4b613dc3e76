-- A word's characters stand for themselves: what the scans of a content find in a word.
use Rattle.std.proofs.Common.{◌≡◌, ℕ, ◌<◌, Bool, true, false, cond, not, ◌&&◌, ◌||◌, eqb, ltb, List, [], ◌∷◌, Option, Some, None, option_map, option_and_then, is_none, refl, ap, ap₂, ◌∙◌, arith}
use Rattle.std.proofs.lemmas.Bool.{eqb-true, ne_eqb, ltb-true, le-leb}
use Rattle.std.specs.List.{list_all}
use Rattle.std.specs.Str.{encode_utf8_all}
use Rattle.yaml_lines.specs.Characters.{is_blank, is_allowed, is_nil, blank_or_end}
use Rattle.yaml_lines.specs.Entries.{KeyAndValue, is_item, entry_of_line, quoted_entry, plain_entry}
use Rattle.yaml_lines.specs.Meaning.{text}
use Rattle.yaml_lines.specs.Plain.{is_indicator, is_mark_character, begins_plain, plain_of, Sides, before_side, sides_of, trim_end, uncommented}
use Rattle.yaml_lines.specs.Quoted.{is_quote, quoted_of}
use Rattle.yaml_lines.specs.Scalars.{alone, scalar_meaning}
use Rattle.yaml_profile.specs.Words.{is_word_character, is_word}

-- ---- tests

pub both : (a b : Bool) → (a && b) ≡ true → (a ≡ true) × (b ≡ true)
both true b e = (refl, e)
both false b e = absurd (cc)

neither : (a b : Bool) → not (a || b) ≡ true → (a ≡ false) × (b ≡ false)
neither true b e = absurd (cc)
neither false true e = absurd (cc)
neither false false e = (refl, refl)

pub or_none : (a b : Bool) → a ≡ false → b ≡ false → (a || b) ≡ false
or_none a b e f = ap₂ (λ x y. x || y) e f

pub and_none : (a b : Bool) → b ≡ false → (a && b) ≡ false
and_none true b e = e
and_none false b e = refl

apart_by : (c k : ℕ) (test : ℕ → Bool) (b : Bool) → eqb c k ≡ b → test c ≡ false → test k ≡ true → b ≡ false
apart_by c k test true e f t = absurd (let same = ap test (eqb-true c k e) in cc)
apart_by c k test false e f t = refl

-- what one test tells apart isn't equal
pub apart : (c k : ℕ) (test : ℕ → Bool) → test c ≡ false → test k ≡ true → eqb c k ≡ false
apart c k test f t = apart_by c k test (eqb c k) refl f t

-- ---- one character

pub record IsOrdinary (c : ℕ) : Type 0 where
  pub above : 32 < c
  pub no_indicator : is_indicator c ≡ false
  pub no_mark : is_mark_character c ≡ false

pub ordinary : (c : ℕ) → is_word_character c ≡ true → IsOrdinary c
ordinary c e =
    let parts = both (ltb 32 c) (not (is_indicator c || is_mark_character c)) e in
    let none = neither (is_indicator c) (is_mark_character c) parts.1 in
    record { above = ltb-true 32 c parts.0; no_indicator = none.0; no_mark = none.1 }

pub no_blank : (c : ℕ) → IsOrdinary c → is_blank c ≡ false
no_blank c o = or_none (eqb c 32) (eqb c 9) (ne_eqb c 32 (λ e. let h = o.above in omega arith)) (ne_eqb c 9 (λ e. let h = o.above in omega arith))

pub no_feed : (c : ℕ) → IsOrdinary c → eqb c 10 ≡ false
no_feed c o = ne_eqb c 10 (λ e. let h = o.above in omega arith)

pub no_return : (c : ℕ) → IsOrdinary c → eqb c 13 ≡ false
no_return c o = ne_eqb c 13 (λ e. let h = o.above in omega arith)

pub allowed : (c : ℕ) → IsOrdinary c → is_allowed c ≡ true
allowed c o = ap (λ (b : Bool). b || eqb c 9) (le-leb 32 c (let h = o.above in omega arith))

pub no_hash : (c : ℕ) → IsOrdinary c → eqb c 35 ≡ false
no_hash c o = apart c 35 is_indicator o.no_indicator refl

pub no_colon : (c : ℕ) → IsOrdinary c → eqb c 58 ≡ false
no_colon c o = apart c 58 is_mark_character o.no_mark refl

pub no_dash : (c : ℕ) → IsOrdinary c → eqb c 45 ≡ false
no_dash c o = apart c 45 is_mark_character o.no_mark refl

pub no_quote : (c : ℕ) → IsOrdinary c → is_quote c ≡ false
no_quote c o = or_none (eqb c 39) (eqb c 34) (apart c 39 is_indicator o.no_indicator refl) (apart c 34 is_indicator o.no_indicator refl)

-- ---- the characters of a word

pub word_uncommented : (free : Bool) (cs : List ℕ) → list_all is_word_character cs ≡ true → uncommented free cs ≡ cs
unfolding uncommented
word_uncommented free [] all = refl
word_uncommented free (c ∷ cs) all =
    let parts = both (is_word_character c) (list_all is_word_character cs) all in
    ap (λ (b : Bool). cond b [] (c ∷ uncommented (is_blank c) cs)) (and_none free (eqb c 35) (no_hash c (ordinary c parts.0)))
    ∙ ap (λ (rest : List ℕ). c ∷ rest) (word_uncommented (is_blank c) cs parts.1)

pub word_trimmed : (cs : List ℕ) → list_all is_word_character cs ≡ true → trim_end cs ≡ cs
unfolding trim_end
word_trimmed [] all = refl
word_trimmed (c ∷ cs) all =
    let parts = both (is_word_character c) (list_all is_word_character cs) all in
    ap (λ (b : Bool). cond (b && is_nil (trim_end cs)) [] (c ∷ trim_end cs)) (no_blank c (ordinary c parts.0))
    ∙ ap (λ (rest : List ℕ). c ∷ rest) (word_trimmed cs parts.1)

pub word_sides : (free : Bool) (cs : List ℕ) → list_all is_word_character cs ≡ true → sides_of free cs ≡ None
unfolding sides_of
word_sides free [] all = refl
word_sides free (c ∷ cs) all =
    let parts = both (is_word_character c) (list_all is_word_character cs) all in
    let o = ordinary c parts.0 in
    let here : Option Sides = Some (record { before = []; behind = cs }) in
    let later : Option Sides = option_map (before_side c) (sides_of (is_blank c) cs) in
    ap (λ (b : Bool). cond b None (cond (eqb c 58 && blank_or_end cs) here later)) (and_none free (eqb c 35) (no_hash c o))
    ∙ (ap (λ (b : Bool). cond (b && blank_or_end cs) here later) (no_colon c o)
    ∙ ap (option_map (before_side c)) (word_sides (is_blank c) cs parts.1))

pub word_allowed : (cs : List ℕ) → list_all is_word_character cs ≡ true → list_all is_allowed cs ≡ true
word_allowed [] all = refl
word_allowed (c ∷ cs) all =
    let parts = both (is_word_character c) (list_all is_word_character cs) all in
    ap₂ (λ (a b : Bool). a && b) (allowed c (ordinary c parts.0)) (word_allowed cs parts.1)

-- ---- a word

-- the characters of a word, of which there is one at least
pub record IsFirst (c : ℕ) (cs : List ℕ) : Type 0 where
  pub first : IsOrdinary c
  pub all : list_all is_word_character (c ∷ cs) ≡ true

pub first_of_word : (c : ℕ) (cs : List ℕ) → is_word (c ∷ cs) ≡ true → IsFirst c cs
first_of_word c cs e = record { first = ordinary c (both (is_word_character c) (list_all is_word_character cs) e).0; all = e }

pub word_begins : (c : ℕ) (cs : List ℕ) → IsOrdinary c → begins_plain (c ∷ cs) ≡ true
unfolding begins_plain
word_begins c cs o =
    ap (λ (b : Bool). not b && not (is_mark_character c && blank_or_end cs)) o.no_indicator
    ∙ ap (λ (b : Bool). not (b && blank_or_end cs)) o.no_mark

word_plain : (c : ℕ) (cs : List ℕ) → IsFirst c cs → plain_of (c ∷ cs) ≡ Some (encode_utf8_all (c ∷ cs))
unfolding plain_of
word_plain c cs w =
    let t : List ℕ = c ∷ cs in
    let bytes : List ℕ = encode_utf8_all (trim_end (uncommented true t)) in
    ap (λ (b : Bool). cond (b && is_none (sides_of true t)) (Some bytes) None) (word_begins c cs w.first)
    ∙ (ap (λ (o : Option Sides). cond (is_none o) (Some bytes) None) (word_sides true t w.all)
    ∙ ap (λ (ds : List ℕ). Some (encode_utf8_all ds)) (ap trim_end (word_uncommented true t w.all) ∙ word_trimmed t w.all))

pub word_meaning : (c : ℕ) (cs : List ℕ) → IsFirst c cs → scalar_meaning (c ∷ cs) ≡ Some (text (encode_utf8_all (c ∷ cs)) false)
unfolding scalar_meaning
word_meaning c cs w =
    ap (λ (b : Bool). cond b (option_and_then alone (quoted_of (c ∷ cs))) (option_map (λ bs. text bs false) (plain_of (c ∷ cs)))) (no_quote c w.first)
    ∙ ap (option_map (λ bs. text bs false)) (word_plain c cs w)

-- a word is neither an item nor an entry
pub word_no_item : (c : ℕ) (cs : List ℕ) → IsFirst c cs → is_item (c ∷ cs) ≡ false
unfolding is_item
word_no_item c cs w = ap (λ (b : Bool). b && blank_or_end cs) (no_dash c w.first)

pub word_no_entry : (c : ℕ) (cs : List ℕ) → IsFirst c cs → entry_of_line (c ∷ cs) ≡ None
unfolding entry_of_line
word_no_entry c cs w =
    let plain : Option KeyAndValue = option_map plain_entry (sides_of true (c ∷ cs)) in
    ap (λ (b : Bool). cond b (option_and_then quoted_entry (quoted_of (c ∷ cs))) (cond (begins_plain (c ∷ cs)) plain None)) (no_quote c w.first)
    ∙ (ap (λ (b : Bool). cond b plain None) (word_begins c cs w.first) ∙ ap (option_map plain_entry) (word_sides true (c ∷ cs) w.all))
