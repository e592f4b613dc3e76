-- How the scans of a flow's characters meet their definitions, one character further on.
use Rattle.std.proofs.Common.{◌≡◌, ℕ, ◌+◌, ◌<◌, ◌≤◌, Bool, true, false, cond, List, [], ◌∷◌, length, drop, get_or, sym, ap, ◌∙◌, arith, refl}
use Rattle.std.proofs.lemmas.List.{drop_more, drop_all}
use Rattle.yaml_lines.specs.Characters.{is_blank}
use Rattle.yaml_lines.specs.FlowGaps.{is_of_gap, in_comment, behind_gap}
use Rattle.yaml_lines.specs.FlowTexts.{ends_plain, plain_extent}

left : (t : List ℕ) (i c : ℕ) → i < length t → c ≡ get_or t i c → drop i t ≡ c ∷ drop (i + 1) t
left t i c l e = drop_more t i c l ∙ ap (λ (x : ℕ). x ∷ drop (i + 1) t) (sym e)

-- ---- a gap

abbrev pub gap_from : List ℕ → Bool → Bool → ℕ → List ℕ
gap_from t comment free i = behind_gap comment free (drop i t)

gap_step : (comment free : Bool) (c : ℕ) (cs : List ℕ) (b : Bool) → is_of_gap comment free c ≡ b → behind_gap comment free (c ∷ cs) ≡ cond b (behind_gap (in_comment comment c) true cs) (c ∷ cs)
unfolding behind_gap
gap_step comment free c cs b h = ap (λ (b : Bool). cond b (behind_gap (in_comment comment c) true cs) (c ∷ cs)) h

pub gap_from_inside : (t : List ℕ) (comment free : Bool) (i c : ℕ) → i < length t → c ≡ get_or t i c → is_of_gap comment free c ≡ true
    → gap_from t comment free i ≡ gap_from t (in_comment comment c) true (i + 1)
gap_from_inside t comment free i c l e h = ap (behind_gap comment free) (left t i c l e) ∙ gap_step comment free c (drop (i + 1) t) true h

pub gap_from_behind : (t : List ℕ) (comment free : Bool) (i c : ℕ) → i < length t → c ≡ get_or t i c → is_of_gap comment free c ≡ false → gap_from t comment free i ≡ drop i t
gap_from_behind t comment free i c l e h = ap (behind_gap comment free) (left t i c l e) ∙ (gap_step comment free c (drop (i + 1) t) false h ∙ sym (left t i c l e))

gap_nil : (comment free : Bool) → behind_gap comment free [] ≡ []
unfolding behind_gap
gap_nil comment free = refl

pub gap_from_end : (t : List ℕ) (comment free : Bool) (i : ℕ) → length t ≤ i → gap_from t comment free i ≡ []
gap_from_end t comment free i l = ap (behind_gap comment free) (drop_all i t l) ∙ gap_nil comment free

-- ---- a plain text's extent

abbrev pub extent_from : List ℕ → Bool → ℕ → ℕ
extent_from t blank i = i + plain_extent blank (drop i t)

extent_step : (blank : Bool) (c : ℕ) (cs : List ℕ) (b : Bool) → ends_plain blank (c ∷ cs) ≡ b → plain_extent blank (c ∷ cs) ≡ cond b 0 (1 + plain_extent (is_blank c) cs)
unfolding plain_extent
extent_step blank c cs b h = ap (λ (b : Bool). cond b 0 (1 + plain_extent (is_blank c) cs)) h

pub extent_from_more : (t : List ℕ) (blank : Bool) (i c : ℕ) → i < length t → c ≡ get_or t i c → ends_plain blank (drop i t) ≡ false → extent_from t blank i ≡ extent_from t (is_blank c) (i + 1)
extent_from_more t blank i c l e h =
    let rest = drop (i + 1) t in
    let step : plain_extent blank (drop i t) ≡ 1 + plain_extent (is_blank c) rest =
    ap (plain_extent blank) (left t i c l e) ∙ extent_step blank c rest false (ap (ends_plain blank) (sym (left t i c l e)) ∙ h) in
    omega arith

pub extent_from_here : (t : List ℕ) (blank : Bool) (i c : ℕ) → i < length t → c ≡ get_or t i c → ends_plain blank (drop i t) ≡ true → extent_from t blank i ≡ i
extent_from_here t blank i c l e h =
    let rest = drop (i + 1) t in
    let step : plain_extent blank (drop i t) ≡ 0 =
    ap (plain_extent blank) (left t i c l e) ∙ extent_step blank c rest true (ap (ends_plain blank) (sym (left t i c l e)) ∙ h) in
    omega arith

extent_nil : (blank : Bool) → plain_extent blank [] ≡ 0
unfolding plain_extent
extent_nil blank = refl

pub extent_from_end : (t : List ℕ) (blank : Bool) (i : ℕ) → length t ≤ i → extent_from t blank i ≡ i
extent_from_end t blank i l =
    let none : plain_extent blank (drop i t) ≡ 0 = ap (plain_extent blank) (drop_all i t l) ∙ extent_nil blank in omega arith
