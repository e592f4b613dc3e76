-- A quoted text never goes over a line's end: it is the same whatever stands after the line.
use Rattle.std.proofs.Common.{◌≡◌, ℕ, zero, suc, ◌+◌, ◌*◌, ◌≤◌, Bool, true, false, cond, ◌&&◌, eqb, List, [], ◌∷◌, ◌++◌, length, Option, Some, None, option_map, option_and_then, refl, sym, ap, ◌∙◌, arith}
use Rattle.std.proofs.lemmas.List.{length-append}
use Rattle.std.specs.Char.{encode_utf8, digit_value}
use Rattle.std.specs.Prelude.{nat_lt}
use Rattle.yaml_lines.specs.Quoted.{QuotedStep, Quoted, is_quote, behind, after_quote, single_step, coded, pair_of, two_digits, four_digits, named, escaped, double_step, step_of, quoted_within, quoted_of}

-- a line with a line feed and these characters after it
abbrev pub line_before : List ℕ → List ℕ → List ℕ
line_before s cs = cs ++ 10 ∷ s

abbrev longer : List ℕ → QuotedStep → QuotedStep
longer s step = record { character = step.character; rest = line_before s step.rest }

abbrev pub longer_quoted : List ℕ → Quoted → Quoted
longer_quoted s q = record { text = q.text; rest = line_before s q.rest }

-- ---- single quotes

after_by : (b : Bool) (c : ℕ) (cs s : List ℕ)
    → ◌≡◌ {A = QuotedStep} (cond b (record { character = Some 39; rest = line_before s cs }) (record { character = None; rest = c ∷ line_before s cs }))
    (longer s (cond b (record { character = Some 39; rest = cs }) (record { character = None; rest = c ∷ cs })))
after_by true c cs s = refl
after_by false c cs s = refl

after_seam : (cs s : List ℕ) → after_quote (line_before s cs) ≡ longer s (after_quote cs)
after_seam [] s = refl
after_seam (c ∷ cs) s = after_by (eqb c 39) c cs s

single_by : (a b : Bool) (c : ℕ) (cs s : List ℕ)
    → cond a (Some (after_quote (line_before s cs))) (cond b None (Some (record { character = Some c; rest = line_before s cs })))
    ≡ option_map (longer s) (cond a (Some (after_quote cs)) (cond b None (Some (record { character = Some c; rest = cs }))))
single_by true b c cs s = ap Some (after_seam cs s)
single_by false true c cs s = refl
single_by false false c cs s = refl

single_seam : (cs s : List ℕ) → single_step (line_before s cs) ≡ option_map (longer s) (single_step cs)
unfolding single_step
single_seam [] s = refl
single_seam (c ∷ cs) s = single_by (eqb c 39) (eqb c 10) c cs s

-- ---- double quotes

coded_by : (b : Bool) (code : ℕ) (rest s : List ℕ)
    → cond b None (Some (record { character = Some code; rest = line_before s rest })) ≡ option_map (longer s) (cond b None (Some (record { character = Some code; rest = rest })))
coded_by true code rest s = refl
coded_by false code rest s = refl

coded_seam : (code : ℕ) (rest s : List ℕ) → coded (line_before s rest) code ≡ option_map (longer s) (coded rest code)
coded_seam code rest s = coded_by _ code rest s

two_by : (o : Option ℕ) (rest s : List ℕ) → option_and_then (coded (line_before s rest)) o ≡ option_map (longer s) (option_and_then (coded rest) o)
two_by None rest s = refl
two_by (Some code) rest s = coded_seam code rest s

-- a line feed is no digit
none_by : (b : Bool) (n : ℕ) → ◌≡◌ {A = Option ℕ} (cond (b && false) (Some n) None) None
none_by true n = refl
none_by false n = refl

no_first_digit : (b : ℕ) → pair_of 10 b ≡ None
no_first_digit b = refl

no_second_digit : (a : ℕ) → pair_of a 10 ≡ None
no_second_digit a = none_by (nat_lt (digit_value a) 16) (digit_value a * 16 + digit_value 10)

two_seam : (cs s : List ℕ) → two_digits (line_before s cs) ≡ option_map (longer s) (two_digits cs)
unfolding two_digits
two_seam [] [] = refl
two_seam [] (b ∷ s) = ap (option_and_then (coded s)) (no_first_digit b)
two_seam (a ∷ []) s = ap (option_and_then (coded s)) (no_second_digit a)
two_seam (a ∷ b ∷ rest) s = two_by (pair_of a b) rest s

abbrev four_of : List ℕ → Option ℕ → Option ℕ → Option QuotedStep
four_of rest o p = option_and_then (λ high. option_and_then (λ low. coded rest (high * 256 + low)) p) o

four_by : (o p : Option ℕ) (rest s : List ℕ) → four_of (line_before s rest) o p ≡ option_map (longer s) (four_of rest o p)
four_by None p rest s = refl
four_by (Some high) None rest s = refl
four_by (Some high) (Some low) rest s = coded_seam (high * 256 + low) rest s

no_low : (o : Option ℕ) (rest : List ℕ) → four_of rest o None ≡ None
no_low None rest = refl
no_low (Some high) rest = refl

four_seam : (cs s : List ℕ) → four_digits (line_before s cs) ≡ option_map (longer s) (four_digits cs)
unfolding four_digits
four_seam [] [] = refl
four_seam [] (b ∷ []) = refl
four_seam [] (b ∷ c ∷ []) = refl
four_seam [] (b ∷ c ∷ d ∷ s) = ap (λ (o : Option ℕ). four_of s o (pair_of c d)) (no_first_digit b)
four_seam (a ∷ []) [] = refl
four_seam (a ∷ []) (c ∷ []) = refl
four_seam (a ∷ []) (c ∷ d ∷ s) = ap (λ (o : Option ℕ). four_of s o (pair_of c d)) (no_second_digit a)
four_seam (a ∷ b ∷ []) [] = refl
four_seam (a ∷ b ∷ []) (d ∷ s) = ap (λ (o : Option ℕ). four_of s (pair_of a b) o) (no_first_digit d) ∙ no_low (pair_of a b) s
four_seam (a ∷ b ∷ c ∷ []) s = ap (λ (o : Option ℕ). four_of s (pair_of a b) o) (no_second_digit c) ∙ no_low (pair_of a b) s
four_seam (a ∷ b ∷ c ∷ d ∷ rest) s = four_by (pair_of a b) (pair_of c d) rest s

named_by : (o : Option ℕ) (cs s : List ℕ)
    → option_map (λ d. record { character = Some d; rest = line_before s cs }) o ≡ option_map (longer s) (option_map (λ d. record { character = Some d; rest = cs }) o)
named_by None cs s = refl
named_by (Some d) cs s = refl

escaped_by : (a b : Bool) (c : ℕ) (cs s : List ℕ)
    → cond a (two_digits (line_before s cs)) (cond b (four_digits (line_before s cs)) (option_map (λ d. record { character = Some d; rest = line_before s cs }) (named c)))
    ≡ option_map (longer s) (cond a (two_digits cs) (cond b (four_digits cs) (option_map (λ d. record { character = Some d; rest = cs }) (named c))))
escaped_by true b c cs s = two_seam cs s
escaped_by false true c cs s = four_seam cs s
escaped_by false false c cs s = named_by (named c) cs s

escaped_seam : (cs s : List ℕ) → escaped (line_before s cs) ≡ option_map (longer s) (escaped cs)
unfolding escaped named
escaped_seam [] s = refl
escaped_seam (c ∷ cs) s = escaped_by (eqb c 120) (eqb c 117) c cs s

double_by : (a b d : Bool) (c : ℕ) (cs s : List ℕ)
    → cond a (Some (record { character = None; rest = line_before s cs })) (cond b (escaped (line_before s cs)) (cond d None (Some (record { character = Some c; rest = line_before s cs }))))
    ≡ option_map (longer s) (cond a (Some (record { character = None; rest = cs })) (cond b (escaped cs) (cond d None (Some (record { character = Some c; rest = cs })))))
double_by true b d c cs s = refl
double_by false true d c cs s = escaped_seam cs s
double_by false false true c cs s = refl
double_by false false false c cs s = refl

double_seam : (cs s : List ℕ) → double_step (line_before s cs) ≡ option_map (longer s) (double_step cs)
unfolding double_step
double_seam [] s = refl
double_seam (c ∷ cs) s = double_by (eqb c 34) (eqb c 92) (eqb c 10) c cs s

step_by : (b : Bool) (cs s : List ℕ) → cond b (single_step (line_before s cs)) (double_step (line_before s cs)) ≡ option_map (longer s) (cond b (single_step cs) (double_step cs))
step_by true cs s = single_seam cs s
step_by false cs s = double_seam cs s

step_seam : (mark : ℕ) (cs s : List ℕ) → step_of mark (line_before s cs) ≡ option_map (longer s) (step_of mark cs)
step_seam mark cs s = step_by (eqb mark 39) cs s

-- ---- each step takes a character

-- what is given, if something is, leaves at most so many characters
abbrev pub Within : {A : Type 0} → (A → List ℕ) → ℕ → Option A → Type 0
Within rest n None = Unit {0}
Within rest n (Some x) = length (rest x) ≤ n

abbrev StepWithin : ℕ → Option QuotedStep → Type 0
StepWithin n o = Within (λ step. step.rest) n o

more_within : (o : Option QuotedStep) (m n : ℕ) → m ≤ n → StepWithin m o → StepWithin n o
more_within None m n fits h = tt
more_within (Some step) m n fits h = omega arith

after_within_by : (b : Bool) (c : ℕ) (cs : List ℕ) → StepWithin (length (c ∷ cs)) (Some (cond b (record { character = Some 39; rest = cs }) (record { character = None; rest = c ∷ cs })))
after_within_by true c cs = omega arith
after_within_by false c cs = omega arith

after_within : (cs : List ℕ) → StepWithin (length cs) (Some (after_quote cs))
after_within [] = omega arith
after_within (c ∷ cs) = after_within_by (eqb c 39) c cs

single_within : (a b : Bool) (c : ℕ) (cs : List ℕ) → StepWithin (length cs) (cond a (Some (after_quote cs)) (cond b None (Some (record { character = Some c; rest = cs }))))
single_within true b c cs = after_within cs
single_within false true c cs = tt
single_within false false c cs = omega arith

coded_within_by : (b : Bool) (code : ℕ) (rest : List ℕ) → StepWithin (length rest) (cond b None (Some (record { character = Some code; rest = rest })))
coded_within_by true code rest = tt
coded_within_by false code rest = omega arith

coded_within : (code : ℕ) (rest : List ℕ) → StepWithin (length rest) (coded rest code)
coded_within code rest = coded_within_by _ code rest

two_within_by : (o : Option ℕ) (rest : List ℕ) → StepWithin (length rest) (option_and_then (coded rest) o)
two_within_by None rest = tt
two_within_by (Some code) rest = coded_within code rest

two_within : (cs : List ℕ) → StepWithin (length cs) (two_digits cs)
unfolding two_digits
two_within [] = tt
two_within (a ∷ []) = tt
two_within (a ∷ b ∷ rest) = more_within (option_and_then (coded rest) (pair_of a b)) (length rest) (length (a ∷ b ∷ rest)) (omega arith) (two_within_by (pair_of a b) rest)

four_within_by : (o p : Option ℕ) (rest : List ℕ) → StepWithin (length rest) (four_of rest o p)
four_within_by None p rest = tt
four_within_by (Some high) None rest = tt
four_within_by (Some high) (Some low) rest = coded_within (high * 256 + low) rest

four_within : (cs : List ℕ) → StepWithin (length cs) (four_digits cs)
unfolding four_digits
four_within [] = tt
four_within (a ∷ []) = tt
four_within (a ∷ b ∷ []) = tt
four_within (a ∷ b ∷ c ∷ []) = tt
four_within (a ∷ b ∷ c ∷ d ∷ rest) =
    more_within (four_of rest (pair_of a b) (pair_of c d)) (length rest) (length (a ∷ b ∷ c ∷ d ∷ rest)) (omega arith) (four_within_by (pair_of a b) (pair_of c d) rest)

named_within : (o : Option ℕ) (cs : List ℕ) → StepWithin (length cs) (option_map (λ d. record { character = Some d; rest = cs }) o)
named_within None cs = tt
named_within (Some d) cs = omega arith

escaped_within_by : (a b : Bool) (c : ℕ) (cs : List ℕ) → StepWithin (length cs)
    (cond a (two_digits cs) (cond b (four_digits cs) (option_map (λ d. record { character = Some d; rest = cs }) (named c))))
escaped_within_by true b c cs = two_within cs
escaped_within_by false true c cs = four_within cs
escaped_within_by false false c cs = named_within (named c) cs

escaped_within : (cs : List ℕ) → StepWithin (length cs) (escaped cs)
unfolding escaped
escaped_within [] = tt
escaped_within (c ∷ cs) =
    let o : Option QuotedStep = cond (eqb c 120) (two_digits cs) (cond (eqb c 117) (four_digits cs) (option_map (λ d. record { character = Some d; rest = cs }) (named c))) in
    more_within o (length cs) (length (c ∷ cs)) (omega arith) (escaped_within_by (eqb c 120) (eqb c 117) c cs)

double_within : (a b d : Bool) (c : ℕ) (cs : List ℕ)
    → StepWithin (length cs) (cond a (Some (record { character = None; rest = cs })) (cond b (escaped cs) (cond d None (Some (record { character = Some c; rest = cs })))))
double_within true b d c cs = omega arith
double_within false true d c cs = escaped_within cs
double_within false false true c cs = tt
double_within false false false c cs = omega arith

step_within_by : (b : Bool) (c : ℕ) (cs : List ℕ) → StepWithin (length cs) (cond b (single_step (c ∷ cs)) (double_step (c ∷ cs)))
unfolding single_step double_step
step_within_by true c cs = single_within (eqb c 39) (eqb c 10) c cs
step_within_by false c cs = double_within (eqb c 34) (eqb c 92) (eqb c 10) c cs

step_within : (mark c : ℕ) (cs : List ℕ) → StepWithin (length cs) (step_of mark (c ∷ cs))
step_within mark c cs = step_within_by (eqb mark 39) c cs

no_step_by : (b : Bool) → cond b (single_step []) (double_step []) ≡ None
unfolding single_step double_step
no_step_by true = refl
no_step_by false = refl

no_step : (mark : ℕ) → step_of mark [] ≡ None
no_step mark = no_step_by (eqb mark 39)

-- ---- the quoted text

abbrev in_front : ℕ → Option Quoted → Option Quoted
in_front c o = option_map (λ q. record { text = encode_utf8 c ++ q.text; rest = q.rest }) o

front_seam : (c : ℕ) (s : List ℕ) (o : Option Quoted) → in_front c (option_map (longer_quoted s) o) ≡ option_map (longer_quoted s) (in_front c o)
front_seam c s None = refl
front_seam c s (Some q) = refl

abbrev first_step : (List ℕ → Option Quoted) → Option QuotedStep → Option Quoted
first_step read o = option_and_then (λ step. behind read step.rest step.character) o

-- a reading of at most n characters, and one that gives the same in front of the line feed
abbrev ReadsAlike : List ℕ → ℕ → (List ℕ → Option Quoted) → (List ℕ → Option Quoted) → Type 0
ReadsAlike s n read more = (cs : List ℕ) → length cs ≤ n → more (line_before s cs) ≡ option_map (longer_quoted s) (read cs)

behind_seam : (s : List ℕ) (n : ℕ) (read more : List ℕ → Option Quoted) (rest : List ℕ) (character : Option ℕ) → ReadsAlike s n read more → length rest ≤ n
    → behind more (line_before s rest) character ≡ option_map (longer_quoted s) (behind read rest character)
behind_seam s n read more rest None alike fits = refl
behind_seam s n read more rest (Some c) alike fits = ap (in_front c) (alike rest fits) ∙ front_seam c s (read rest)

first_seam : (s : List ℕ) (n : ℕ) (read more : List ℕ → Option Quoted) (o : Option QuotedStep) → ReadsAlike s n read more → StepWithin n o
    → first_step more (option_map (longer s) o) ≡ option_map (longer_quoted s) (first_step read o)
first_seam s n read more None alike fits = refl
first_seam s n read more (Some step) alike fits = behind_seam s n read more step.rest step.character alike fits

within_step : (mark m : ℕ) (cs : List ℕ) → quoted_within mark (suc m) cs ≡ first_step (quoted_within mark m) (step_of mark cs)
unfolding quoted_within
within_step mark m cs = refl

within_none : (mark : ℕ) (cs : List ℕ) → quoted_within mark zero cs ≡ None
unfolding quoted_within
within_none mark cs = refl

nothing_within : (mark m : ℕ) → quoted_within mark m [] ≡ None
nothing_within mark zero = within_none mark []
nothing_within mark (suc m) = within_step mark m [] ∙ ap (first_step (quoted_within mark m)) (no_step mark)

no_more : (mark n : ℕ) (s : List ℕ) → quoted_within mark n (10 ∷ s) ≡ None
no_more mark zero s = within_none mark (10 ∷ s)
no_more mark (suc n) s =
    within_step mark n (10 ∷ s)
    ∙ (ap (first_step (quoted_within mark n)) (step_seam mark [] s)
    ∙ ap (λ (o : Option QuotedStep). first_step (quoted_within mark n) (option_map (longer s) o)) (no_step mark))

within_seam : (mark m n : ℕ) (s cs : List ℕ) → length cs ≤ m → length cs ≤ n → quoted_within mark n (line_before s cs) ≡ option_map (longer_quoted s) (quoted_within mark m cs)
within_seam mark m n s [] f g = no_more mark n s ∙ ap (option_map (longer_quoted s)) (sym (nothing_within mark m))
within_seam mark zero n s (c ∷ cs) f g = absurd (omega arith)
within_seam mark (suc m) zero s (c ∷ cs) f g = absurd (omega arith)
within_seam mark (suc m) (suc n) s (c ∷ cs) f g =
    let alike : ReadsAlike s (length cs) (quoted_within mark m) (quoted_within mark n) = λ ds fits. within_seam mark m n s ds (omega arith) (omega arith) in
    within_step mark n (line_before s (c ∷ cs))
    ∙ (ap (first_step (quoted_within mark n)) (step_seam mark (c ∷ cs) s)
    ∙ (first_seam s (length cs) (quoted_within mark m) (quoted_within mark n) (step_of mark (c ∷ cs)) alike (step_within mark c cs)
    ∙ ap (option_map (longer_quoted s)) (sym (within_step mark m (c ∷ cs)))))

quoted_by : (b : Bool) (c : ℕ) (cs s : List ℕ) → cond b (quoted_within c (length (line_before s cs)) (line_before s cs)) None
    ≡ option_map (longer_quoted s) (cond b (quoted_within c (length cs) cs) None)
quoted_by true c cs s =
    let fits : length cs ≤ length (line_before s cs) = omega (arith, length-append cs (10 ∷ s)) in within_seam c (length cs) (length (line_before s cs)) s cs (omega arith) fits
quoted_by false c cs s = refl

pub quoted_seam : (cs s : List ℕ) → quoted_of (line_before s cs) ≡ option_map (longer_quoted s) (quoted_of cs)
unfolding quoted_of
quoted_seam [] s = refl
quoted_seam (c ∷ cs) s = quoted_by (is_quote c) c cs s

-- ---- a quoted text takes a character

abbrev QuotedWithin : ℕ → Option Quoted → Type 0
QuotedWithin n o = Within (λ q. q.rest) n o

front_within : (c n : ℕ) (o : Option Quoted) → QuotedWithin n o → QuotedWithin n (in_front c o)
front_within c n None h = tt
front_within c n (Some q) h = h

behind_within : (n : ℕ) (read : List ℕ → Option Quoted) (rest : List ℕ) (character : Option ℕ) → ((cs : List ℕ) → QuotedWithin (length cs) (read cs)) → length rest ≤ n
    → QuotedWithin n (behind read rest character)
behind_within n read rest None more fits = fits
behind_within n read rest (Some c) more fits = front_within c n (read rest) (weaker (read rest) (length rest) n fits (more rest))
  where
    weaker : (o : Option Quoted) (m n : ℕ) → m ≤ n → QuotedWithin m o → QuotedWithin n o
    weaker None m n fits h = tt
    weaker (Some q) m n fits h = omega arith

first_within : (n : ℕ) (read : List ℕ → Option Quoted) (o : Option QuotedStep) → ((cs : List ℕ) → QuotedWithin (length cs) (read cs)) → StepWithin n o → QuotedWithin n (first_step read o)
first_within n read None more h = tt
first_within n read (Some step) more h = behind_within n read step.rest step.character more h

steps_within : (mark m : ℕ) (cs : List ℕ) → QuotedWithin (length cs) (quoted_within mark m cs)
unfolding quoted_within
steps_within mark zero cs = tt
steps_within mark (suc m) [] = first_within (length {A = ℕ} []) (quoted_within mark m) (step_of mark []) (steps_within mark m) (nothing (step_of mark []) (no_step mark))
  where
    nothing : (o : Option QuotedStep) → o ≡ None → StepWithin 0 o
    nothing None e = tt
    nothing (Some step) e = absurd (cc)
steps_within mark (suc m) (c ∷ cs) =
    first_within (length (c ∷ cs)) (quoted_within mark m) (step_of mark (c ∷ cs)) (steps_within mark m)
    (more_within (step_of mark (c ∷ cs)) (length cs) (length (c ∷ cs)) (omega arith) (step_within mark c cs))

quoted_within_by : (b : Bool) (c : ℕ) (cs : List ℕ) → QuotedWithin (length cs) (cond b (quoted_within c (length cs) cs) None)
quoted_within_by true c cs = steps_within c (length cs) cs
quoted_within_by false c cs = tt

pub quoted_shorter : (c : ℕ) (cs : List ℕ) → QuotedWithin (length cs) (quoted_of (c ∷ cs))
unfolding quoted_of
quoted_shorter c cs = quoted_within_by (is_quote c) c cs
