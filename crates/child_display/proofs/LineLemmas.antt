-- Characters that are cut to columns, one by one.
use Rattle.std.proofs.Common.{◌≡◌, ◌∙◌, ap, sym, subst, ℕ, ◌-◌, ◌<◌, nat_le, Bool, false, if◌then◌else◌, List, [], ◌∷◌, ◌++◌, length, take, drop, get_or, map, suc, encode_utf8_all, arith}
use Rattle.std.proofs.Math.Seq.{split_at}
use Rattle.std.proofs.lemmas.Bool.Decides.{nat_tests}
use Rattle.std.proofs.lemmas.List.{append-nil, map-id}
use Rattle.child_display.specs.Lines.{columns_of_char, cut_to, shown_char}

-- a character that doesn't fit ends the cut
too_wide : (columns width : ℕ) → columns < width → nat_le width columns ≡ false
too_wide columns width wide = grind (arith, nat_tests)

pub cut_to-too_wide : (columns c width : ℕ) (cs : List ℕ) → width ≡ columns_of_char c → columns < width → cut_to columns (c ∷ cs) ≡ []
cut_to-too_wide columns c width cs is wide =
    ap (λ (fits : Bool). if fits then shown_char c ∷ cut_to (columns - columns_of_char c) cs else [])
    (too_wide columns (columns_of_char c) (subst (λ (w : ℕ). columns < w) is wide))

-- the characters that were taken, the next one, and some rest are all of them
pub with_next : (all yielded : List ℕ) (c : ℕ) → map (λ d. d) yielded ≡ take (length yielded) all → length yielded < length all → c ≡ get_or all (length yielded) c
    → yielded ++ c ∷ drop (suc (length yielded)) all ≡ all
with_next all yielded c so_far within at =
    ap (λ (front : List ℕ). front ++ c ∷ drop (suc (length yielded)) all) (sym (map-id yielded) ∙ so_far)
    ∙ (ap (λ (d : ℕ). take (length yielded) all ++ d ∷ drop (suc (length yielded)) all) at ∙ sym (split_at all (length yielded) c within))

-- the characters that were taken are all of them
pub with_none : (all yielded : List ℕ) → map (λ d. d) yielded ≡ all → yielded ++ [] ≡ all
with_none all yielded same = append-nil yielded ∙ (sym (map-id yielded) ∙ same)

-- nothing more is put after what was put there, where nothing more fits
pub ended : (line whole rest : List ℕ) → rest ≡ [] → line ++ encode_utf8_all rest ≡ whole → line ≡ whole
ended line whole rest none same = sym (append-nil line) ∙ (ap (λ (r : List ℕ). line ++ encode_utf8_all r) (sym none) ∙ same)
