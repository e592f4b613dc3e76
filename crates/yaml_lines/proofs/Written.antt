-- A text that is written in quotes, each character as itself or by an escape, reads as it was.
use Rattle.std.proofs.Common.{◌≡◌, ℕ, zero, suc, ◌<◌, ◌≤◌, Bool, true, false, cond, not, ◌&&◌, ◌||◌, eqb, List, [], ◌∷◌, ◌++◌, length, Option, Some, None, option_map, option_and_then, refl, sym, ap, ◌∙◌, arith, append_assoc}
use Rattle.std.proofs.lemmas.Bool.{eqb-true}
use Rattle.std.proofs.lemmas.List.{length-append}
use Rattle.std.specs.Char.{encode_utf8}
use Rattle.std.specs.List.{list_all, flat_map}
use Rattle.std.specs.Str.{encode_utf8_all}
use Rattle.yaml_lines.specs.Characters.{is_over}
use Rattle.yaml_lines.specs.Meaning.{text}
use Rattle.yaml_lines.specs.Plain.{plain_of}
use Rattle.yaml_lines.specs.Quoted.{QuotedStep, Quoted, behind, is_quote, after_quote, single_step, named, escaped, double_step, step_of, quoted_within, quoted_of}
use Rattle.yaml_lines.specs.QuotingLaws.{in_quotes, doubled, escaped as escape, holds_no_feed}
use Rattle.yaml_lines.specs.Scalars.{alone, scalar_meaning}

both : (a b : Bool) → (a && b) ≡ true → (a ≡ true) × (b ≡ true)
both true b e = (refl, e)
both false b e = absurd (cc)

-- the step that reads this character, with these characters after it
abbrev pub reads : ℕ → List ℕ → Option QuotedStep
reads c rest = Some (record { character = Some c; rest = rest })

-- Each character that passes the test is read from what is written for it, and the mark in front of the tail ends the
-- text.
module _ (mark : ℕ) (write : ℕ → List ℕ) (fits : ℕ → Bool) (some : (c : ℕ) → 1 ≤ length (write c))
    (one : (c : ℕ) (rest : List ℕ) → fits c ≡ true → step_of mark (write c ++ rest) ≡ reads c rest)
    (tail : List ℕ) (last : step_of mark (mark ∷ tail) ≡ Some (record { character = None; rest = tail })) where
  abbrev first_step : ℕ → Option QuotedStep → Option Quoted
  first_step most o = option_and_then (λ step. behind (quoted_within mark most) step.rest step.character) o

  one_more : (c : ℕ) (rest : List ℕ) (most : ℕ) (q : Quoted) → fits c ≡ true → quoted_within mark most rest ≡ Some q
      → quoted_within mark (suc most) (write c ++ rest) ≡ Some (record { text = encode_utf8 c ++ q.text; rest = q.rest })
  unfolding quoted_within
  one_more c rest most q it more =
      ap (first_step most) (one c rest it) ∙ ap (λ (o : Option Quoted). option_map (λ q. record { text = encode_utf8 c ++ q.text; rest = q.rest }) o) more

  no_more : (most : ℕ) → quoted_within mark (suc most) (mark ∷ tail) ≡ Some (record { text = []; rest = tail })
  unfolding quoted_within
  no_more most = ap (first_step most) last

  written_within : (cs : List ℕ) (most : ℕ) → list_all fits cs ≡ true → length cs < most
      → quoted_within mark most (flat_map write cs ++ mark ∷ tail) ≡ Some (record { text = encode_utf8_all cs; rest = tail })
  written_within cs zero all room = absurd (omega arith)
  written_within [] (suc most) all room = no_more most
  written_within (c ∷ cs) (suc most) all room =
      let it = both (fits c) (list_all fits cs) all in
      ap (quoted_within mark (suc most)) (append_assoc (write c) (flat_map write cs) (mark ∷ tail))
      ∙ one_more c (flat_map write cs ++ mark ∷ tail) most (record { text = encode_utf8_all cs; rest = tail }) it.0 (written_within cs most it.1 (omega arith))

  long_enough : (cs : List ℕ) → length cs < length (flat_map write cs ++ mark ∷ tail)
  long_enough [] = omega arith
  long_enough (c ∷ cs) =
      let more = long_enough cs in
      let first = some c in
      let all = ap length (append_assoc (write c) (flat_map write cs) (mark ∷ tail)) in
      omega (arith, length-append (write c) (flat_map write cs ++ mark ∷ tail))

  pub written_quoted : (cs : List ℕ) → is_quote mark ≡ true → list_all fits cs ≡ true → quoted_of (mark ∷ (flat_map write cs ++ mark ∷ tail)) ≡ Some (record { text = encode_utf8_all cs; rest = tail })
  unfolding quoted_of
  written_quoted cs quote all =
      let t : List ℕ = flat_map write cs ++ mark ∷ tail in
      ap (λ (b : Bool). cond b (quoted_within mark (length t) t) None) quote ∙ written_within cs (length t) all (long_enough cs)

  written_meaning : (cs : List ℕ) → is_quote mark ≡ true → list_all fits cs ≡ true → is_over tail ≡ true
      → scalar_meaning (mark ∷ (flat_map write cs ++ mark ∷ tail)) ≡ Some (text (encode_utf8_all cs) true)
  unfolding scalar_meaning
  written_meaning cs quote all over =
      let t : List ℕ = mark ∷ (flat_map write cs ++ mark ∷ tail) in
      ap (λ (b : Bool). cond b (option_and_then alone (quoted_of t)) (option_map (λ bs. text bs false) (plain_of t))) quote
      ∙ (ap (option_and_then alone) (written_quoted cs quote all) ∙ ap (λ (b : Bool). cond b (Some (text (encode_utf8_all cs) true)) None) over)

-- ---- single quotes

doubled_some : (b : Bool) (c : ℕ) → 1 ≤ length (cond b (39 ∷ 39 ∷ []) (c ∷ []))
doubled_some true c = omega arith
doubled_some false c = omega arith

negated : (b : Bool) → not b ≡ true → b ≡ false
negated true e = absurd (cc)
negated false e = refl

single_by : (b : Bool) (c : ℕ) (rest : List ℕ) → eqb c 39 ≡ b → not (eqb c 10) ≡ true → single_step (cond b (39 ∷ 39 ∷ []) (c ∷ []) ++ rest) ≡ reads c rest
unfolding single_step
single_by true c rest e fits = ap (λ (x : ℕ). reads x rest) (sym (eqb-true c 39 e))
single_by false c rest e fits =
    ap (λ (b : Bool). cond b (Some (after_quote rest)) (cond (eqb c 10) None (reads c rest))) e ∙ ap (λ (b : Bool). cond b None (reads c rest)) (negated (eqb c 10) fits)

pub single_written : (cs : List ℕ) → holds_no_feed cs ≡ true → scalar_meaning (in_quotes 39 (flat_map doubled cs)) ≡ Some (text (encode_utf8_all cs) true)
unfolding single_step
single_written cs none =
    written_meaning 39 doubled (λ c. not (eqb c 10)) (λ c. doubled_some (eqb c 39) c) (λ c rest fits. single_by (eqb c 39) c rest refl fits) [] refl cs refl none refl

-- ---- double quotes

escape_some : (a b : Bool) (c : ℕ) → 1 ≤ length (cond a (92 ∷ c ∷ []) (cond b (92 ∷ 110 ∷ []) (c ∷ [])))
escape_some true b c = omega arith
escape_some false true c = omega arith
escape_some false false c = omega arith

-- a backslash and one of these two stand for it
marked_by : (b : Bool) (c : ℕ) (rest : List ℕ) → eqb c 34 ≡ b → (b || eqb c 92) ≡ true → double_step (92 ∷ c ∷ rest) ≡ reads c rest
unfolding double_step escaped named
marked_by true c rest e f = let same = eqb-true c 34 e in ap (λ (x : ℕ). double_step (92 ∷ x ∷ rest)) same ∙ ap (λ (x : ℕ). reads x rest) (sym same)
marked_by false c rest e f = let same = eqb-true c 92 f in ap (λ (x : ℕ). double_step (92 ∷ x ∷ rest)) same ∙ ap (λ (x : ℕ). reads x rest) (sym same)

neither : (a b : Bool) → (a || b) ≡ false → (a ≡ false) × (b ≡ false)
neither true b e = absurd (cc)
neither false b e = (refl, e)

double_by : (a b : Bool) (c : ℕ) (rest : List ℕ) → (eqb c 34 || eqb c 92) ≡ a → eqb c 10 ≡ b → double_step (cond a (92 ∷ c ∷ []) (cond b (92 ∷ 110 ∷ []) (c ∷ [])) ++ rest) ≡ reads c rest
unfolding double_step escaped named
double_by true b c rest e f = marked_by (eqb c 34) c rest refl e
double_by false true c rest e f = ap (λ (x : ℕ). reads x rest) (sym (eqb-true c 10 f))
double_by false false c rest e f =
    let none = neither (eqb c 34) (eqb c 92) e in
    ap (λ (b : Bool). cond b (Some (record { character = None; rest = rest })) (cond (eqb c 92) (escaped rest) (cond (eqb c 10) None (reads c rest)))) none.0
    ∙ (ap (λ (b : Bool). cond b (escaped rest) (cond (eqb c 10) None (reads c rest))) none.1 ∙ ap (λ (b : Bool). cond b None (reads c rest)) f)

all_pass : (cs : List ℕ) → list_all (λ c. true) cs ≡ true
all_pass [] = refl
all_pass (c ∷ cs) = all_pass cs

pub double_written : (cs : List ℕ) → scalar_meaning (in_quotes 34 (flat_map escape cs)) ≡ Some (text (encode_utf8_all cs) true)
unfolding double_step
double_written cs =
    written_meaning 34 escape (λ c. true) (λ c. escape_some (eqb c 34 || eqb c 92) (eqb c 10) c) (λ c rest fits. double_by (eqb c 34 || eqb c 92) (eqb c 10) c rest refl refl) [] refl cs refl
    (all_pass cs) refl
