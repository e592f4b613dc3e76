-- A plain text, and the same characters within quotes.
use Rattle.std.proofs.Common.{◌≡◌, ℕ, zero, suc, Bool, true, false, cond, not, ◌&&◌, ◌||◌, eqb, List, [], ◌∷◌, ◌++◌, length, Option, Some, None, option_map, option_and_then, is_none, refl, sym, ap, ◌∙◌}
use Rattle.std.proofs.lemmas.Bool.{eqb-true}
use Rattle.std.specs.Char.{encode_utf8}
use Rattle.std.specs.List.{list_all}
use Rattle.std.specs.Str.{encode_utf8_all}
use Rattle.yaml_lines.specs.Meaning.{Meaning, text}
use Rattle.yaml_lines.specs.Plain.{is_indicator, is_mark_character, begins_plain, plain_of, sides_of, trim_end, uncommented}
use Rattle.yaml_lines.specs.Characters.{blank_or_end}
use Rattle.yaml_lines.specs.Quoted.{QuotedStep, Quoted, behind, is_quote, begins_quoted, after_quote, escaped, single_step, double_step, step_of, quoted_within, quoted_of}
use Rattle.yaml_lines.specs.QuotingLaws.{IsPlainAlone, in_quotes, fits_single, fits_double}
use Rattle.yaml_lines.specs.Scalars.{alone, scalar_meaning}

-- ---- the plain text

some_same : (a b : List ℕ) → ◌≡◌ {A = Option (List ℕ)} (Some a) (Some b) → a ≡ b
some_same a b e = cc

chosen : (b : Bool) (all bytes : List ℕ) → cond b (Some all) None ≡ Some bytes → (b ≡ true) × (all ≡ bytes)
chosen true all bytes e = (refl, some_same all bytes e)
chosen false all bytes e = absurd (cc)

left_true : (a b : Bool) → (a && b) ≡ true → a ≡ true
left_true true b e = refl
left_true false b e = absurd (cc)

-- the parts of what `plain_of` gives
pub plain_parts : (content bytes : List ℕ) → plain_of content ≡ Some bytes → (begins_plain content ≡ true) × (encode_utf8_all (trim_end (uncommented true content)) ≡ bytes)
unfolding plain_of
plain_parts content bytes e =
    let both = chosen (begins_plain content && is_none (sides_of true content)) (encode_utf8_all (trim_end (uncommented true content))) bytes e in
    (left_true (begins_plain content) (is_none (sides_of true content)) both.0, both.1)

pub bytes_of : (content bytes : List ℕ) → IsPlainAlone content bytes → encode_utf8_all content ≡ bytes
bytes_of content bytes is =
    sym (ap (λ (cs : List ℕ). encode_utf8_all (trim_end cs)) is.without_comment ∙ ap encode_utf8_all is.without_blanks)
    ∙ (plain_parts content bytes is.plain).1

no_indicator : (a b : Bool) → (not a && b) ≡ true → a ≡ false
no_indicator true b e = absurd (cc)
no_indicator false b e = refl

-- a quote is one of the indicators
quote_by : (c : ℕ) (a b : Bool) → eqb c 39 ≡ a → eqb c 34 ≡ b → is_indicator c ≡ false → (a || b) ≡ false
quote_by c true b e f none = absurd (let is = ap is_indicator (eqb-true c 39 e) in cc)
quote_by c false true e f none = absurd (let is = ap is_indicator (eqb-true c 34 f) in cc)
quote_by c false false e f none = refl

pub plain_first : (c : ℕ) (cs : List ℕ) → begins_plain (c ∷ cs) ≡ true → is_quote c ≡ false
unfolding begins_plain
plain_first c cs e = quote_by c (eqb c 39) (eqb c 34) refl refl (no_indicator (is_indicator c) (not (is_mark_character c && blank_or_end cs)) e)

not_quoted : (content : List ℕ) → begins_plain content ≡ true → begins_quoted content ≡ false
not_quoted [] e = refl
not_quoted (c ∷ cs) e = plain_first c cs e

pub bare_meaning : (content bytes : List ℕ) → IsPlainAlone content bytes → scalar_meaning content ≡ Some (text bytes false)
unfolding scalar_meaning
bare_meaning content bytes is =
    ap (λ (b : Bool). cond b (option_and_then alone (quoted_of content)) (option_map (λ bs. text bs false) (plain_of content))) (not_quoted content (plain_parts content bytes is.plain).0)
    ∙ ap (λ (o : Option (List ℕ)). option_map (λ bs. text bs false) o) is.plain

-- ---- the quoted text

neither : (a b : Bool) → not (a || b) ≡ true → (a ≡ false) × (b ≡ false)
neither true b e = absurd (cc)
neither false true e = absurd (cc)
neither false false e = (refl, refl)

both : (a b : Bool) → (a && b) ≡ true → (a ≡ true) × (b ≡ true)
both true b e = (refl, e)
both false b e = absurd (cc)

pub single_one : (c : ℕ) (rest : List ℕ) → not (eqb c 39 || eqb c 10) ≡ true → step_of 39 (c ∷ rest) ≡ Some (record { character = Some c; rest = rest })
unfolding single_step
single_one c rest e =
    let it = neither (eqb c 39) (eqb c 10) e in
    ap (λ (b : Bool). cond b (Some (after_quote rest)) (cond (eqb c 10) None (Some (record { character = Some c; rest = rest })))) it.0
    ∙ ap (λ (b : Bool). cond b None (Some (record { character = Some c; rest = rest }))) it.1

pub double_one : (c : ℕ) (rest : List ℕ) → not (eqb c 34 || eqb c 92 || eqb c 10) ≡ true → step_of 34 (c ∷ rest) ≡ Some (record { character = Some c; rest = rest })
unfolding double_step
double_one c rest e =
    let it = neither (eqb c 34 || eqb c 92) (eqb c 10) e in
    let its = neither (eqb c 34) (eqb c 92) (ap not it.0) in
    let last : Option QuotedStep = Some (record { character = Some c; rest = rest }) in
    ap (λ (b : Bool). cond b (Some (record { character = None; rest = rest })) (cond (eqb c 92) (escaped rest) (cond (eqb c 10) None last))) its.0
    ∙ (ap (λ (b : Bool). cond b (escaped rest) (cond (eqb c 10) None last)) its.1 ∙ ap (λ (b : Bool). cond b None last) it.1)

single_last : step_of 39 (39 ∷ []) ≡ Some (record { character = None; rest = [] })
unfolding single_step
single_last = refl

double_last : step_of 34 (34 ∷ []) ≡ Some (record { character = None; rest = [] })
unfolding double_step
double_last = refl

-- each character that passes the test stands for itself in the quotes of this mark, and the mark alone ends the text
module _ (mark : ℕ) (stands : ℕ → Bool) (one : (c : ℕ) (rest : List ℕ) → stands c ≡ true → step_of mark (c ∷ rest) ≡ Some (record { character = Some c; rest = rest }))
    (last : step_of mark (mark ∷ []) ≡ Some (record { character = None; rest = [] })) where
  one_more : (c : ℕ) (rest : List ℕ) (most : ℕ) (q : Quoted) → stands c ≡ true → quoted_within mark most rest ≡ Some q
      → quoted_within mark (suc most) (c ∷ rest) ≡ Some (record { text = encode_utf8 c ++ q.text; rest = q.rest })
  unfolding quoted_within
  one_more c rest most q it more =
      ap (λ (o : Option QuotedStep). option_and_then (λ step. behind (quoted_within mark most) step.rest step.character) o) (one c rest it)
      ∙ ap (λ (o : Option Quoted). option_map (λ q. record { text = encode_utf8 c ++ q.text; rest = q.rest }) o) more

  no_more : quoted_within mark (suc zero) (mark ∷ []) ≡ Some (record { text = []; rest = [] })
  unfolding quoted_within
  no_more = ap (λ (o : Option QuotedStep). option_and_then (λ step. behind (quoted_within mark zero) step.rest step.character) o) last

  all_within : (cs : List ℕ) → list_all stands cs ≡ true → quoted_within mark (length (cs ++ mark ∷ [])) (cs ++ mark ∷ []) ≡ Some (record { text = encode_utf8_all cs; rest = [] })
  all_within [] all = no_more
  all_within (c ∷ cs) all =
      let it = both (stands c) (list_all stands cs) all in
      one_more c (cs ++ mark ∷ []) (length (cs ++ mark ∷ [])) (record { text = encode_utf8_all cs; rest = [] }) it.0 (all_within cs it.1)

  quoted_meaning : (cs bytes : List ℕ) → is_quote mark ≡ true → list_all stands cs ≡ true → encode_utf8_all cs ≡ bytes → scalar_meaning (in_quotes mark cs) ≡ Some (text bytes true)
  unfolding scalar_meaning quoted_of
  quoted_meaning cs bytes quote all e =
      let content : List ℕ = cs ++ mark ∷ [] in
      let value : Option Meaning = option_map (λ bs. text bs false) (plain_of (mark ∷ content)) in
      let f : Bool → Bool → Option Meaning = λ a b. cond a (option_and_then alone (cond b (quoted_within mark (length content) content) None)) value in
      ap (λ (b : Bool). f b (is_quote mark)) quote
      ∙ (ap (λ (b : Bool). f true b) quote
      ∙ (ap (λ (o : Option Quoted). option_and_then alone o) (all_within cs all) ∙ ap (λ (bs : List ℕ). Some (text bs true)) e))

pub single_meaning : (content bytes : List ℕ) → IsPlainAlone content bytes → fits_single content ≡ true → scalar_meaning (in_quotes 39 content) ≡ Some (text bytes true)
single_meaning content bytes is fits = quoted_meaning 39 (λ c. not (eqb c 39 || eqb c 10)) single_one single_last content bytes refl fits (bytes_of content bytes is)

pub double_meaning : (content bytes : List ℕ) → IsPlainAlone content bytes → fits_double content ≡ true → scalar_meaning (in_quotes 34 content) ≡ Some (text bytes true)
double_meaning content bytes is fits = quoted_meaning 34 (λ c. not (eqb c 34 || eqb c 92 || eqb c 10)) double_one double_last content bytes refl fits (bytes_of content bytes is)
