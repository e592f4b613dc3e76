-- What the scans of a content find where blanks and a comment stand after it.
use Rattle.std.proofs.Common.{◌≡◌, ℕ, ◌+◌, Bool, true, false, cond, not, ◌&&◌, eqb, List, [], ◌∷◌, ◌++◌, drop, Option, Some, None, option_map, is_none, refl, sym, ap, ap₂, ◌∙◌}
use Rattle.std.proofs.Math.Numerals.{one-add}
use Rattle.std.proofs.lemmas.Bool.{eqb-true}
use Rattle.std.specs.List.{prefix_len}
use Rattle.std.specs.Str.{encode_utf8_all}
use Rattle.yaml_lines.specs.Characters.{is_blank, is_nil, blank_or_end, comment_or_end, trim_start, is_over}
use Rattle.yaml_lines.specs.Plain.{is_indicator, is_mark_character, begins_plain, plain_of, Sides, before_side, sides_of, trim_end, uncommented}

-- ---- tests

both : (a b : Bool) → (a && b) ≡ true → (a ≡ true) × (b ≡ true)
both true b e = (refl, e)
both false b e = absurd (cc)

and_none : (a b : Bool) → b ≡ false → (a && b) ≡ false
and_none true b e = e
and_none false b e = refl

apart_by : (c k : ℕ) (b : Bool) → eqb c k ≡ b → is_blank c ≡ true → is_blank k ≡ false → b ≡ false
apart_by c k true e f g = absurd (let same = ap is_blank (eqb-true c k e) in cc)
apart_by c k false e f g = refl

-- a blank is no other character
pub blank_apart : (c k : ℕ) → is_blank c ≡ true → is_blank k ≡ false → eqb c k ≡ false
blank_apart c k f g = apart_by c k (eqb c k) refl f g

pub over_blank : (s : List ℕ) → is_over s ≡ true → blank_or_end s ≡ true
over_blank s e = (both (blank_or_end s) (comment_or_end (trim_start s)) e).0

-- ---- blanks, and then nothing or a comment

ends : List ℕ → Bool
ends [] = true
ends (c ∷ cs) = cond (is_blank c) (ends cs) (eqb c 35)

ends_by : (b : Bool) (c : ℕ) (cs : List ℕ) → comment_or_end (trim_start cs) ≡ ends cs → comment_or_end (drop (cond b (1 + prefix_len is_blank cs) 0) (c ∷ cs)) ≡ cond b (ends cs) (eqb c 35)
ends_by true c cs e = ap (λ (n : ℕ). comment_or_end (drop n (c ∷ cs))) (one-add (prefix_len is_blank cs)) ∙ e
ends_by false c cs e = refl

ends_is : (cs : List ℕ) → comment_or_end (trim_start cs) ≡ ends cs
unfolding ends
ends_is [] = refl
ends_is (c ∷ cs) = ends_by (is_blank c) c cs (ends_is cs)

-- the parts of `is_over`
record IsTrailing (s : List ℕ) : Type 0 where
  blank : blank_or_end s ≡ true
  over : ends s ≡ true

trailing : (s : List ℕ) → is_over s ≡ true → IsTrailing s
trailing s e =
    let parts = both (blank_or_end s) (comment_or_end (trim_start s)) e in record { blank = parts.0; over = sym (ends_is s) ∙ parts.1 }

ends_more_by : (b : Bool) (c : ℕ) (cs s : List ℕ) → cond b (ends cs) (eqb c 35) ≡ true → (ends cs ≡ true → ends (cs ++ s) ≡ true) → cond b (ends (cs ++ s)) (eqb c 35) ≡ true
ends_more_by true c cs s e more = more e
ends_more_by false c cs s e more = e

ends_more : (cs s : List ℕ) → ends cs ≡ true → ends s ≡ true → ends (cs ++ s) ≡ true
unfolding ends
ends_more [] s e f = f
ends_more (c ∷ cs) s e f = ends_more_by (is_blank c) c cs s e (λ g. ends_more cs s g f)

pub blank_behind : (cs s : List ℕ) → blank_or_end s ≡ true → blank_or_end (cs ++ s) ≡ blank_or_end cs
blank_behind [] s e = e
blank_behind (c ∷ cs) s e = refl

pub over_more : (cs s : List ℕ) → is_over cs ≡ true → is_over s ≡ true → is_over (cs ++ s) ≡ true
over_more cs s e f =
    let a = trailing cs e in
    let b = trailing s f in
    ap₂ (λ (x y : Bool). x && y) (blank_behind cs s b.blank ∙ a.blank) (ends_is (cs ++ s) ∙ ends_more cs s a.over b.over)

-- ---- what stands in front of a comment

comment_by : (b : Bool) (c : ℕ) (cs : List ℕ) → is_blank c ≡ b → cond b (ends cs) (eqb c 35) ≡ true → (ends cs ≡ true → trim_end (uncommented true cs) ≡ []) → trim_end (uncommented true (c ∷ cs)) ≡ []
unfolding trim_end uncommented
comment_by true c cs e over more =
    let rest : List ℕ = trim_end (uncommented true cs) in
    ap (λ (b : Bool). trim_end (cond b [] (c ∷ uncommented (is_blank c) cs))) (blank_apart c 35 e refl)
    ∙ (ap (λ (b : Bool). trim_end (c ∷ uncommented b cs)) e
    ∙ (ap (λ (b : Bool). cond (b && is_nil rest) [] (c ∷ rest)) e ∙ ap (λ (ds : List ℕ). cond (is_nil ds) [] (c ∷ ds)) (more over)))
comment_by false c cs e over more = ap (λ (b : Bool). trim_end (cond b [] (c ∷ uncommented (is_blank c) cs))) over

comment_trimmed : (s : List ℕ) → ends s ≡ true → trim_end (uncommented true s) ≡ []
unfolding ends trim_end uncommented
comment_trimmed [] over = refl
comment_trimmed (c ∷ cs) over = comment_by (is_blank c) c cs refl over (comment_trimmed cs)

behind_trimmed : (free : Bool) (s : List ℕ) → IsTrailing s → trim_end (uncommented free s) ≡ []
unfolding trim_end uncommented
behind_trimmed free [] is = refl
behind_trimmed free (c ∷ cs) is =
    let f : Bool → List ℕ = λ b. trim_end (cond b [] (c ∷ uncommented (is_blank c) cs)) in
    let none = blank_apart c 35 is.blank refl in
    ap f (and_none free (eqb c 35) none) ∙ (sym (ap f none) ∙ comment_trimmed (c ∷ cs) is.over)

same_front : (b : Bool) (c : ℕ) (xs ys : List ℕ) → trim_end xs ≡ trim_end ys → trim_end (cond b [] (c ∷ xs)) ≡ trim_end (cond b [] (c ∷ ys))
unfolding trim_end
same_front true c xs ys e = refl
same_front false c xs ys e = ap (λ (rest : List ℕ). cond (is_blank c && is_nil rest) [] (c ∷ rest)) e

text_trimmed : (free : Bool) (cs s : List ℕ) → IsTrailing s → trim_end (uncommented free (cs ++ s)) ≡ trim_end (uncommented free cs)
unfolding trim_end uncommented
text_trimmed free [] s is = behind_trimmed free s is
text_trimmed free (c ∷ cs) s is = same_front (free && eqb c 35) c (uncommented (is_blank c) (cs ++ s)) (uncommented (is_blank c) cs) (text_trimmed (is_blank c) cs s is)

-- ---- no colon that ends a key

comment_sides_by : (b : Bool) (c : ℕ) (cs : List ℕ) → is_blank c ≡ b → cond b (ends cs) (eqb c 35) ≡ true → (ends cs ≡ true → sides_of true cs ≡ None) → sides_of true (c ∷ cs) ≡ None
unfolding sides_of
comment_sides_by true c cs e over more =
    let here : Option Sides = Some (record { before = []; behind = cs }) in
    let f : Bool → Bool → Bool → Option Sides = λ x y z. cond x None (cond (y && blank_or_end cs) here (option_map (before_side c) (sides_of z cs))) in
    ap (λ (x : Bool). f x (eqb c 58) (is_blank c)) (blank_apart c 35 e refl)
    ∙ (ap (λ (y : Bool). f false y (is_blank c)) (blank_apart c 58 e refl) ∙ (ap (f false false) e ∙ ap (option_map (before_side c)) (more over)))
comment_sides_by false c cs e over more =
    let here : Option Sides = Some (record { before = []; behind = cs }) in
    ap (λ (x : Bool). cond x None (cond (eqb c 58 && blank_or_end cs) here (option_map (before_side c) (sides_of (is_blank c) cs)))) over

comment_sides : (s : List ℕ) → ends s ≡ true → sides_of true s ≡ None
unfolding ends sides_of
comment_sides [] over = refl
comment_sides (c ∷ cs) over = comment_sides_by (is_blank c) c cs refl over (comment_sides cs)

behind_sides : (free : Bool) (s : List ℕ) → IsTrailing s → sides_of free s ≡ None
unfolding sides_of
behind_sides free [] is = refl
behind_sides free (c ∷ cs) is =
    let here : Option Sides = Some (record { before = []; behind = cs }) in
    let f : Bool → Option Sides = λ x. cond x None (cond (eqb c 58 && blank_or_end cs) here (option_map (before_side c) (sides_of (is_blank c) cs))) in
    let none = blank_apart c 35 is.blank refl in
    ap f (and_none free (eqb c 35) none) ∙ (sym (ap f none) ∙ comment_sides (c ∷ cs) is.over)

sides_by : (a b : Bool) (c : ℕ) (x y : Sides) (o p : Option Sides) → is_none o ≡ is_none p
    → is_none (cond a None (cond b (Some x) (option_map (before_side c) o))) ≡ is_none (cond a None (cond b (Some y) (option_map (before_side c) p)))
sides_by true b c x y o p e = refl
sides_by false true c x y o p e = refl
sides_by false false c x y None None e = refl
sides_by false false c x y None (Some q) e = e
sides_by false false c x y (Some q) None e = e
sides_by false false c x y (Some q) (Some r) e = refl

text_sides : (free : Bool) (cs s : List ℕ) → IsTrailing s → is_none (sides_of free (cs ++ s)) ≡ is_none (sides_of free cs)
unfolding sides_of
text_sides free [] s is = ap is_none (behind_sides free s is)
text_sides free (c ∷ cs) s is =
    let long : Sides = record { before = []; behind = cs ++ s } in
    let later : Option Sides = sides_of (is_blank c) (cs ++ s) in
    ap (λ (b : Bool). is_none (cond (free && eqb c 35) None (cond (eqb c 58 && b) (Some long) (option_map (before_side c) later)))) (blank_behind cs s is.blank)
    ∙ sides_by (free && eqb c 35) (eqb c 58 && blank_or_end cs) c long (record { before = []; behind = cs }) later (sides_of (is_blank c) cs) (text_sides (is_blank c) cs s is)

-- ---- the plain text

text_begins : (c : ℕ) (cs s : List ℕ) → IsTrailing s → begins_plain (c ∷ (cs ++ s)) ≡ begins_plain (c ∷ cs)
unfolding begins_plain
text_begins c cs s is = ap (λ (b : Bool). not (is_indicator c) && not (is_mark_character c && b)) (blank_behind cs s is.blank)

pub plain_behind : (c : ℕ) (cs s : List ℕ) → is_over s ≡ true → plain_of (c ∷ (cs ++ s)) ≡ plain_of (c ∷ cs)
unfolding plain_of
plain_behind c cs s over =
    let is = trailing s over in
    let f : Bool → Bool → List ℕ → Option (List ℕ) = λ a b ds. cond (a && b) (Some (encode_utf8_all ds)) None in
    let t : List ℕ = c ∷ (cs ++ s) in
    ap (λ (a : Bool). f a (is_none (sides_of true t)) (trim_end (uncommented true t))) (text_begins c cs s is)
    ∙ (ap (λ (b : Bool). f (begins_plain (c ∷ cs)) b (trim_end (uncommented true t))) (text_sides true (c ∷ cs) s is)
    ∙ ap (f (begins_plain (c ∷ cs)) (is_none (sides_of true (c ∷ cs)))) (text_trimmed true (c ∷ cs) s is))
