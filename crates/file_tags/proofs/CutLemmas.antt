-- Lemmas: names that are cut at their last slash or dot.
use Rattle.std.proofs.Common.{◌≡◌, ℕ, suc, ◌<◌, length, get_or, take, drop, Bool, true, false, List, [], ◌∷◌, ◌++◌, Option, None, Some, refl, ap, sym, ◌∙◌, arith, eq-eqb, length-append, lit<, subst}
use Rattle.std.specs.Prelude.{◌==◌, ◌||◌, not, if◌then◌else◌}
use Rattle.std.specs.List.{list_any}
use Rattle.std.specs.Option.{MatchOption}
use Rattle.std.specs.Str.{IsUtf8}
use Rattle.std.specs.Str.Pattern.{RFindsChar, SplitsAroundMatch}
use Rattle.std.proofs.lemmas.Bool.{ne_eqb}
use Rattle.std.proofs.lemmas.List.{take-append-drop}
use Rattle.std.proofs.lemmas.Str.Pattern.{NoCharPasses-char, drop_at_char}
use Rattle.std.proofs.lemmas.Str.{IsUtf8-take, IsCharBoundary-before_ascii}
use Rattle.std.proofs.Math.Seq.{get_or-append_seam, take-append_seam}
use Rattle.std.proofs.Math.Bool.{or-true}
use denote.Ref.{Bor}
use Rattle.file_tags.specs.Cuts.{is_dot, last_part, before_dots, extension_of}
use Rattle.file_tags.specs.LastCuts.{LacksByte, IsLastCut, IsCutAtLast, has_other_than_dots}

-- a cut at the last mark

none_is : (mark : ℕ) (text : List ℕ) → ((i : ℕ) → i < length text → get_or text i 0 ≡ mark → ⊥) → list_any (λ byte. byte == mark) text ≡ false
none_is mark [] none = refl
none_is mark (byte ∷ bytes) none = rw (ne_eqb byte mark (none 0 (omega arith))) (none_is mark bytes (λ i h. none (suc i) (omega arith)))

pub cut_at_last_is : (mark : ℕ) (text : List ℕ) (r : Option (Bor (List ℕ) × Bor (List ℕ))) → MatchOption r (RFindsChar mark text None) (λ x. SplitsAroundMatch (RFindsChar mark) text x.0.now x.1.now)
    → mark < 128 → IsCutAtLast mark text r
cut_at_last_is mark text None none small = record { none = none_is mark text (λ i. NoCharPasses-char mark text i none small) }
cut_at_last_is mark text (Some x) split small =
    let at = drop_at_char mark text split.0 split.1 split.2.1 small in
    record {
      whole = sym (take-append-drop split.0 text) ∙ (ap (λ back. take split.0 text ++ back) at ∙ rw (split.3, split.4) refl);
      last = record { none = rw split.4 (none_is mark (drop split.1 text) (λ i. NoCharPasses-char mark (drop split.1 text) i split.2.0 small)) };
    }

mark_found : (mark : ℕ) (before after : List ℕ) → list_any (λ byte. byte == mark) (before ++ mark ∷ after) ≡ true
mark_found mark [] after = rw (eq-eqb mark mark refl) refl
mark_found mark (byte ∷ before) after = rw (mark_found mark before after) (or-true (byte == mark))

or_false : (a b : Bool) → (a || b) ≡ false → (a ≡ false) × (b ≡ false)
or_false true b h = absurd (cc)
or_false false b h = (refl, h)

-- the last part

last_part_behind : (mark : ℕ) (before after : List ℕ) → list_any (λ byte. byte == mark) after ≡ false → last_part (λ byte. byte == mark) (before ++ mark ∷ after) ≡ after
last_part_behind mark [] after none = rw (none, eq-eqb mark mark refl) refl
last_part_behind mark (byte ∷ before) after none = rw (mark_found mark before after) (last_part_behind mark before after none)

last_part_whole : (mark : ℕ) (text : List ℕ) → list_any (λ byte. byte == mark) text ≡ false → last_part (λ byte. byte == mark) text ≡ text
last_part_whole mark [] none = refl
last_part_whole mark (byte ∷ bytes) none =
    let parts = or_false (byte == mark) (list_any (λ byte. byte == mark) bytes) none in
    rw (parts.1, parts.0) refl

pub last_part_of_cut : (mark : ℕ) (text before after : List ℕ) → IsLastCut mark text before after → last_part (λ byte. byte == mark) text ≡ after
last_part_of_cut mark text before after cut = rw cut.whole (last_part_behind mark before after cut.last.none)

pub last_part_of_whole : (mark : ℕ) (text : List ℕ) → LacksByte mark text → last_part (λ byte. byte == mark) text ≡ text
last_part_of_whole mark text lacks = last_part_whole mark text lacks.none

-- what stands before the dots

before_dots_none : (text : List ℕ) → list_any is_dot text ≡ false → before_dots text ≡ []
before_dots_none [] none = refl
before_dots_none (byte ∷ bytes) none =
    let parts = or_false (is_dot byte) (list_any is_dot bytes) none in
    rw (before_dots_none bytes parts.1, parts.0) refl

before_dots_behind : (before after : List ℕ) → list_any is_dot after ≡ false → before_dots (before ++ 46 ∷ after) ≡ before ∷ before_dots before
before_dots_behind [] after none = rw (before_dots_none after none) refl
before_dots_behind (byte ∷ before) after none = rw (before_dots_behind before after none) refl

pub before_dots_of_cut : (text before after : List ℕ) → IsLastCut 46 text before after → before_dots text ≡ before ∷ before_dots before
before_dots_of_cut text before after cut = rw cut.whole (before_dots_behind before after cut.last.none)

pub before_dots_of_whole : (text : List ℕ) → LacksByte 46 text → before_dots text ≡ []
before_dots_of_whole text lacks = before_dots_none text lacks.none

pub before_is_shorter : (text before after : List ℕ) → IsLastCut 46 text before after → length before < length text
before_is_shorter text before after cut = rw cut.whole (simp length-append (omega arith))

before_is_text : (before after : List ℕ) → IsUtf8 (before ++ 46 ∷ after) → IsUtf8 before
before_is_text before after text =
    let whole : List ℕ = before ++ 46 ∷ after in
    let short : length before < length whole = simp length-append (omega arith) in
    let dot : get_or whole (length before) 0 < 128 = rw (get_or-append_seam before 46 after 0) (lit< tt) in
    subst IsUtf8 (take-append_seam before (46 ∷ after)) (IsUtf8-take whole (length before) text (IsCharBoundary-before_ascii whole (length before) short dot))

pub before_of_text : (text before after : List ℕ) → IsLastCut 46 text before after → IsUtf8 text → IsUtf8 before
before_of_text text before after cut utf8 = before_is_text before after (subst IsUtf8 cut.whole utf8)

-- the extension

extension_none : (name : List ℕ) → list_any is_dot name ≡ false → extension_of name ≡ []
extension_none [] none = refl
extension_none (byte ∷ bytes) none =
    let parts = or_false (is_dot byte) (list_any is_dot bytes) none in
    rw (parts.0, parts.1) refl

abbrev rest_is : Bool → List ℕ → List ℕ → Type 0
rest_is dot rest extension =
    (if dot then extension_of rest else (if list_any is_dot rest then last_part is_dot rest else [])) ≡ extension

extension_behind : (before after : List ℕ) → list_any is_dot after ≡ false → has_other_than_dots before ≡ true → extension_of (before ++ 46 ∷ after) ≡ after
extension_behind [] after none other = absurd (cc)
extension_behind (byte ∷ before) after none other =
    elim (is_dot byte) as (λ dot. (not dot || has_other_than_dots before) ≡ true → rest_is dot (before ++ 46 ∷ after) after) [
      | true ↦ λ h. extension_behind before after none h
      | false ↦ λ h. rw (mark_found 46 before after) (last_part_behind 46 before after none)
    ] other

extension_of_dots : (before after : List ℕ) → list_any is_dot after ≡ false → has_other_than_dots before ≡ false → extension_of (before ++ 46 ∷ after) ≡ []
extension_of_dots [] after none dots = extension_none after none
extension_of_dots (byte ∷ before) after none dots =
    elim (is_dot byte) as (λ dot. (not dot || has_other_than_dots before) ≡ false → rest_is dot (before ++ 46 ∷ after) []) [
      | true ↦ λ h. extension_of_dots before after none h
      | false ↦ λ h. absurd (cc)
    ] dots

pub extension_of_cut : (name before after : List ℕ) → IsLastCut 46 name before after → has_other_than_dots before ≡ true → extension_of name ≡ after
extension_of_cut name before after cut other = rw cut.whole (extension_behind before after cut.last.none other)

pub no_extension_of_cut : (name before after : List ℕ) → IsLastCut 46 name before after → has_other_than_dots before ≡ false → extension_of name ≡ []
no_extension_of_cut name before after cut dots = rw cut.whole (extension_of_dots before after cut.last.none dots)

pub no_extension_of_whole : (name : List ℕ) → LacksByte 46 name → extension_of name ≡ []
no_extension_of_whole name lacks = extension_none name lacks.none
