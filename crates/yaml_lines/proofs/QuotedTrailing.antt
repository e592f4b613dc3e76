-- What a quoted text is where more stands after it.
use Rattle.std.proofs.Common.{◌≡◌, ℕ, zero, suc, ◌+◌, ◌*◌, ◌≤◌, Bool, true, false, cond, eqb, List, [], ◌∷◌, ◌++◌, length, Option, Some, None, option_map, option_and_then, refl, ap, ◌∙◌, arith}
use Rattle.std.proofs.lemmas.List.{length-append}
use Rattle.std.specs.Char.{encode_utf8}
use Rattle.yaml_lines.specs.Characters.{blank_or_end, is_over}
use Rattle.yaml_lines.specs.Meaning.{Meaning, text}
use Rattle.yaml_lines.specs.Plain.{begins_plain, plain_of}
use Rattle.yaml_lines.specs.Quoted.{QuotedStep, Quoted, is_quote, behind, after_quote, single_step, coded, pair_of, two_digits, four_digits, named, escaped, double_step, step_of, quoted_within, quoted_of}
use Rattle.yaml_lines.specs.Scalars.{alone, scalar_meaning}
use Rattle.yaml_lines.proofs.Trailing.{blank_apart, over_blank, over_more, plain_behind}

-- the same character, and more after it
abbrev longer : List ℕ → QuotedStep → QuotedStep
longer s step = record { character = step.character; rest = step.rest ++ s }

abbrev longer_text : List ℕ → Quoted → Quoted
longer_text s q = record { text = q.text; rest = q.rest ++ s }

-- ---- single quotes

after_by : (b : Bool) (c : ℕ) (cs s : List ℕ)
    → ◌≡◌ {A = QuotedStep} (cond b (record { character = Some 39; rest = cs ++ s }) (record { character = None; rest = c ∷ (cs ++ s) }))
    (longer s (cond b (record { character = Some 39; rest = cs }) (record { character = None; rest = c ∷ cs })))
after_by true c cs s = refl
after_by false c cs s = refl

after_more : (cs s : List ℕ) → blank_or_end s ≡ true → after_quote (cs ++ s) ≡ longer s (after_quote cs)
after_more [] [] e = refl
after_more [] (b ∷ s) e = ap (λ (x : Bool). cond x (record { character = Some 39; rest = s }) (record { character = None; rest = b ∷ s })) (blank_apart b 39 e refl)
after_more (c ∷ cs) s e = after_by (eqb c 39) c cs s

single_by : (a b : Bool) (c : ℕ) (cs s : List ℕ) (step : QuotedStep) → blank_or_end s ≡ true
    → cond a (Some (after_quote cs)) (cond b None (Some (record { character = Some c; rest = cs }))) ≡ Some step
    → cond a (Some (after_quote (cs ++ s))) (cond b None (Some (record { character = Some c; rest = cs ++ s }))) ≡ Some (longer s step)
single_by true b c cs s step blank e = ap Some (after_more cs s blank) ∙ ap (option_map (longer s)) e
single_by false true c cs s step blank e = absurd (cc)
single_by false false c cs s step blank e = ap (option_map (longer s)) e

single_more : (cs s : List ℕ) (step : QuotedStep) → blank_or_end s ≡ true → single_step cs ≡ Some step → single_step (cs ++ s) ≡ Some (longer s step)
unfolding single_step
single_more [] s step blank e = absurd (cc)
single_more (c ∷ cs) s step blank e = single_by (eqb c 39) (eqb c 10) c cs s step blank e

-- ---- double quotes

coded_by : (b : Bool) (code : ℕ) (rest s : List ℕ) (step : QuotedStep) → cond b None (Some (record { character = Some code; rest = rest })) ≡ Some step
    → cond b None (Some (record { character = Some code; rest = rest ++ s })) ≡ Some (longer s step)
coded_by true code rest s step e = absurd (cc)
coded_by false code rest s step e = ap (option_map (longer s)) e

coded_more : (code : ℕ) (rest s : List ℕ) (step : QuotedStep) → coded rest code ≡ Some step → coded (rest ++ s) code ≡ Some (longer s step)
coded_more code rest s step e = coded_by _ code rest s step e

two_by : (o : Option ℕ) (rest s : List ℕ) (step : QuotedStep) → option_and_then (coded rest) o ≡ Some step → option_and_then (coded (rest ++ s)) o ≡ Some (longer s step)
two_by None rest s step e = absurd (cc)
two_by (Some code) rest s step e = coded_more code rest s step e

two_more : (cs s : List ℕ) (step : QuotedStep) → two_digits cs ≡ Some step → two_digits (cs ++ s) ≡ Some (longer s step)
unfolding two_digits
two_more [] s step e = absurd (cc)
two_more (a ∷ []) s step e = absurd (cc)
two_more (a ∷ b ∷ rest) s step e = two_by (pair_of a b) rest s step e

four_by : (o p : Option ℕ) (rest s : List ℕ) (step : QuotedStep) → option_and_then (λ high. option_and_then (λ low. coded rest (high * 256 + low)) p) o ≡ Some step
    → option_and_then (λ high. option_and_then (λ low. coded (rest ++ s) (high * 256 + low)) p) o ≡ Some (longer s step)
four_by None p rest s step e = absurd (cc)
four_by (Some high) None rest s step e = absurd (cc)
four_by (Some high) (Some low) rest s step e = coded_more (high * 256 + low) rest s step e

four_more : (cs s : List ℕ) (step : QuotedStep) → four_digits cs ≡ Some step → four_digits (cs ++ s) ≡ Some (longer s step)
unfolding four_digits
four_more [] s step e = absurd (cc)
four_more (a ∷ []) s step e = absurd (cc)
four_more (a ∷ b ∷ []) s step e = absurd (cc)
four_more (a ∷ b ∷ c ∷ []) s step e = absurd (cc)
four_more (a ∷ b ∷ c ∷ d ∷ rest) s step e = four_by (pair_of a b) (pair_of c d) rest s step e

named_by : (o : Option ℕ) (cs s : List ℕ) (step : QuotedStep) → option_map (λ d. record { character = Some d; rest = cs }) o ≡ Some step
    → option_map (λ d. record { character = Some d; rest = cs ++ s }) o ≡ Some (longer s step)
named_by None cs s step e = absurd (cc)
named_by (Some d) cs s step e = ap (option_map (longer s)) e

escaped_by : (a b : Bool) (c : ℕ) (cs s : List ℕ) (step : QuotedStep)
    → cond a (two_digits cs) (cond b (four_digits cs) (option_map (λ d. record { character = Some d; rest = cs }) (named c))) ≡ Some step
    → cond a (two_digits (cs ++ s)) (cond b (four_digits (cs ++ s)) (option_map (λ d. record { character = Some d; rest = cs ++ s }) (named c))) ≡ Some (longer s step)
escaped_by true b c cs s step e = two_more cs s step e
escaped_by false true c cs s step e = four_more cs s step e
escaped_by false false c cs s step e = named_by (named c) cs s step e

escaped_more : (cs s : List ℕ) (step : QuotedStep) → escaped cs ≡ Some step → escaped (cs ++ s) ≡ Some (longer s step)
unfolding escaped
escaped_more [] s step e = absurd (cc)
escaped_more (c ∷ cs) s step e = escaped_by (eqb c 120) (eqb c 117) c cs s step e

double_by : (a b d : Bool) (c : ℕ) (cs s : List ℕ) (step : QuotedStep)
    → cond a (Some (record { character = None; rest = cs })) (cond b (escaped cs) (cond d None (Some (record { character = Some c; rest = cs })))) ≡ Some step
    → cond a (Some (record { character = None; rest = cs ++ s })) (cond b (escaped (cs ++ s)) (cond d None (Some (record { character = Some c; rest = cs ++ s })))) ≡ Some (longer s step)
double_by true b d c cs s step e = ap (option_map (longer s)) e
double_by false true d c cs s step e = escaped_more cs s step e
double_by false false true c cs s step e = absurd (cc)
double_by false false false c cs s step e = ap (option_map (longer s)) e

double_more : (cs s : List ℕ) (step : QuotedStep) → double_step cs ≡ Some step → double_step (cs ++ s) ≡ Some (longer s step)
unfolding double_step
double_more [] s step e = absurd (cc)
double_more (c ∷ cs) s step e = double_by (eqb c 34) (eqb c 92) (eqb c 10) c cs s step e

-- ---- the quoted text

step_by : (b : Bool) (cs s : List ℕ) (step : QuotedStep) → blank_or_end s ≡ true → cond b (single_step cs) (double_step cs) ≡ Some step
    → cond b (single_step (cs ++ s)) (double_step (cs ++ s)) ≡ Some (longer s step)
step_by true cs s step blank e = single_more cs s step blank e
step_by false cs s step blank e = double_more cs s step e

step_more : (mark : ℕ) (cs s : List ℕ) (step : QuotedStep) → blank_or_end s ≡ true → step_of mark cs ≡ Some step → step_of mark (cs ++ s) ≡ Some (longer s step)
step_more mark cs s step blank e = step_by (eqb mark 39) cs s step blank e

abbrev in_front : ℕ → Option Quoted → Option Quoted
in_front c o = option_map (λ q. record { text = encode_utf8 c ++ q.text; rest = q.rest }) o

front_more : (c : ℕ) (s : List ℕ) (o long : Option Quoted) (q : Quoted) → ((r : Quoted) → o ≡ Some r → long ≡ Some (longer_text s r)) → in_front c o ≡ Some q → in_front c long ≡ Some (longer_text s q)
front_more c s None long q more e = absurd (cc)
front_more c s (Some r) long q more e = ap (in_front c) (more r refl) ∙ ap (option_map (longer_text s)) e

-- a reading, and one that gives the same where s stands after
abbrev GivesMore : List ℕ → (List ℕ → Option Quoted) → (List ℕ → Option Quoted) → Type 0
GivesMore s read more = (cs : List ℕ) (q : Quoted) → read cs ≡ Some q → more (cs ++ s) ≡ Some (longer_text s q)

behind_more : (s : List ℕ) (read more : List ℕ → Option Quoted) (rest : List ℕ) (character : Option ℕ) (q : Quoted) → GivesMore s read more → behind read rest character ≡ Some q
    → behind more (rest ++ s) character ≡ Some (longer_text s q)
behind_more s read more rest None q gives e = ap (option_map (longer_text s)) e
behind_more s read more rest (Some c) q gives e = front_more c s (read rest) (more (rest ++ s)) q (gives rest) e

abbrev first_step : (List ℕ → Option Quoted) → Option QuotedStep → Option Quoted
first_step read o = option_and_then (λ step. behind read step.rest step.character) o

one_step : (mark : ℕ) (s cs : List ℕ) (read more : List ℕ → Option Quoted) (o : Option QuotedStep) (q : Quoted) → blank_or_end s ≡ true → GivesMore s read more → step_of mark cs ≡ o
    → first_step read o ≡ Some q
    → first_step more (step_of mark (cs ++ s)) ≡ Some (longer_text s q)
one_step mark s cs read more None q blank gives is e = absurd (cc)
one_step mark s cs read more (Some step) q blank gives is e =
    ap (first_step more) (step_more mark cs s step blank is) ∙ behind_more s read more step.rest step.character q gives e

quoted_more : (mark most more : ℕ) (s : List ℕ) → blank_or_end s ≡ true → most ≤ more → GivesMore s (quoted_within mark most) (quoted_within mark more)
unfolding quoted_within
quoted_more mark zero more s blank fits = λ cs q e. absurd (cc)
quoted_more mark (suc most) zero s blank fits = absurd (omega arith)
quoted_more mark (suc most) (suc more) s blank fits =
    λ cs q e. one_step mark s cs (quoted_within mark most) (quoted_within mark more) (step_of mark cs) q blank (quoted_more mark most more s blank (omega arith)) refl e

-- ---- the meaning

alone_by : (b : Bool) (q : Quoted) (s : List ℕ) (m : Meaning) → is_over q.rest ≡ b → is_over s ≡ true → cond b (Some (text q.text true)) None ≡ Some m → alone (longer_text s q) ≡ Some m
alone_by true q s m is over e = ap (λ (b : Bool). cond b (Some (text q.text true)) None) (over_more q.rest s is over) ∙ e
alone_by false q s m is over e = absurd (cc)

quoted_by : (o long : Option Quoted) (s : List ℕ) (m : Meaning) → is_over s ≡ true → ((q : Quoted) → o ≡ Some q → long ≡ Some (longer_text s q)) → option_and_then alone o ≡ Some m
    → option_and_then alone long ≡ Some m
quoted_by None long s m over more e = absurd (cc)
quoted_by (Some q) long s m over more e = ap (option_and_then alone) (more q refl) ∙ alone_by (is_over q.rest) q s m refl over e

scalar_by : (b : Bool) (c : ℕ) (cs s : List ℕ) (m : Meaning) → is_over s ≡ true
    → cond b (option_and_then alone (cond b (quoted_within c (length cs) cs) None)) (option_map (λ bytes. text bytes false) (plain_of (c ∷ cs))) ≡ Some m
    → cond b (option_and_then alone (cond b (quoted_within c (length (cs ++ s)) (cs ++ s)) None)) (option_map (λ bytes. text bytes false) (plain_of (c ∷ (cs ++ s)))) ≡ Some m
scalar_by true c cs s m over e =
    let fits : length cs ≤ length (cs ++ s) = omega (arith, length-append cs s) in
    quoted_by (quoted_within c (length cs) cs) (quoted_within c (length (cs ++ s)) (cs ++ s)) s m over (quoted_more c (length cs) (length (cs ++ s)) s (over_blank s over) fits cs) e
scalar_by false c cs s m over e = ap (option_map (λ bytes. text bytes false)) (plain_behind c cs s over) ∙ e

pub scalar_behind : (content s : List ℕ) (m : Meaning) → is_over s ≡ true → scalar_meaning content ≡ Some m → scalar_meaning (content ++ s) ≡ Some m
unfolding scalar_meaning quoted_of plain_of begins_plain
scalar_behind [] s m over e = absurd (cc)
scalar_behind (c ∷ cs) s m over e = scalar_by (is_quote c) c cs s m over e
