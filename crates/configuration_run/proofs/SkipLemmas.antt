-- The names in a text with commas between them.
use Rattle.std.proofs.Common.{◌≡◌, ◌≢◌, ◌∙◌, ◌+◌, ◌<◌, ap, arith, sym, refl, subst, lit<, ℕ, Bool, true, false, cond, List, [], ◌∷◌, ◌++◌, get_or, length, length-append, map}
use Rattle.std.specs.Prelude.{◌==◌}
use Rattle.std.specs.List.{filter}
use Rattle.std.specs.Str.{IsUtf8}
use Rattle.std.proofs.Math.Dec.{eqb-suc-zero}
use Rattle.std.proofs.Math.Seq.{get_or-append_seam, take-append_seam}
use Rattle.std.proofs.lemmas.Bool.{eqb-true}
use Rattle.std.proofs.lemmas.List.{map-append, append-nil}
use Rattle.std.proofs.lemmas.List.Elements.{filter-append}
use Rattle.std.proofs.lemmas.Str.{IsCharBoundary-after_ascii, IsCharBoundary-before_ascii, IsUtf8-drop, IsUtf8-take}
use denote.Ref.{Bor}
use Rattle.configuration_run.specs.SkipList.{before_rest_of_name, is_name, without_spaces, without_spaces_after, without_spaces_before}

-- ---- spaces

pub none-before : (text : List ℕ) → ((rest : List ℕ) → text ≢ 32 ∷ rest) → without_spaces_before text ≡ text
none-before [] none = refl
none-before (byte ∷ bytes) none =
    elim (byte == 32) as (λ b. (byte == 32) ≡ b → cond b (without_spaces_before bytes) (byte ∷ bytes) ≡ byte ∷ bytes) [
      | true ↦ λ h. absurd (none bytes (ap (λ first. first ∷ bytes) (eqb-true byte 32 h)))
      | false ↦ λ h. refl
    ] refl

pub one-after : (front : List ℕ) → without_spaces_after (front ++ 32 ∷ []) ≡ without_spaces_after front
one-after [] = refl
one-after (byte ∷ front) = ap (before_rest_of_name byte) (one-after front)

pub none-after : (text : List ℕ) → ((front : List ℕ) → text ≢ front ++ 32 ∷ []) → without_spaces_after text ≡ text
none-after [] none = refl
none-after (byte ∷ []) none =
    elim (byte == 32) as (λ b. (byte == 32) ≡ b → cond b [] (byte ∷ []) ≡ byte ∷ []) [
      | true ↦ λ h. absurd (none [] (ap (λ last. last ∷ []) (eqb-true byte 32 h)))
      | false ↦ λ h. refl
    ] refl
none-after (byte ∷ next ∷ bytes) none =
    ap (before_rest_of_name byte) (none-after (next ∷ bytes) (λ front h. none (byte ∷ front) (ap (λ rest. byte ∷ rest) h)))

-- ---- the names

abbrev pub texts_of : List (Bor (List ℕ)) → List (List ℕ)
texts_of pieces = map (λ (text : Bor (List ℕ)). text.now) pieces

abbrev pub names_of : List (Bor (List ℕ)) → List (List ℕ)
names_of pieces = filter is_name (map without_spaces (texts_of pieces))

names-push : (pieces : List (Bor (List ℕ))) (piece : Bor (List ℕ))
    → names_of (pieces ++ piece ∷ []) ≡ names_of pieces ++ filter is_name (without_spaces piece.now ∷ [])
names-push pieces piece =
    ap (λ texts. filter is_name (map without_spaces texts)) (map-append (λ (text : Bor (List ℕ)). text.now) pieces (piece ∷ []))
    ∙ ap (filter is_name) (map-append without_spaces (texts_of pieces) (piece.now ∷ []))
    ∙ filter-append is_name (map without_spaces (texts_of pieces)) (without_spaces piece.now ∷ [])

pub name-more : (pieces : List (Bor (List ℕ))) (piece : Bor (List ℕ)) (names new : List (List ℕ)) (name : List ℕ) → names ≡ names_of pieces
    → name ≡ without_spaces piece.now → is_name name ≡ true → new ≡ names ++ name ∷ [] → new ≡ names_of (pieces ++ piece ∷ [])
name-more pieces piece names new name before is full more =
    let taken : filter is_name (name ∷ []) ≡ name ∷ [] = rw full refl in
    more ∙ ap (λ front. front ++ name ∷ []) before ∙ ap (λ last. names_of pieces ++ last) (sym taken ∙ ap (λ last. filter is_name (last ∷ [])) is)
    ∙ sym (names-push pieces piece)

pub no-name-more : (pieces : List (Bor (List ℕ))) (piece : Bor (List ℕ)) (names : List (List ℕ)) (name : List ℕ) → names ≡ names_of pieces
    → name ≡ without_spaces piece.now → is_name name ≡ false → names ≡ names_of (pieces ++ piece ∷ [])
no-name-more pieces piece names name before is empty =
    let left : filter is_name (name ∷ []) ≡ [] = rw empty refl in
    before ∙ sym (append-nil (names_of pieces)) ∙ ap (λ last. names_of pieces ++ last) (sym left ∙ ap (λ last. filter is_name (last ∷ [])) is)
    ∙ sym (names-push pieces piece)

pub name-is : (name : List ℕ) (empty : Bool) → empty ≡ (length name == 0) → empty ≡ false → is_name name ≡ true
name-is [] empty is none = absurd (cc)
name-is (byte ∷ bytes) empty is none = refl

pub no-name-is : (name : List ℕ) (empty : Bool) → empty ≡ (length name == 0) → empty ≡ true → is_name name ≡ false
no-name-is [] empty is none = refl
no-name-is (byte ∷ bytes) empty is none = let some = eqb-suc-zero (length bytes) in absurd (cc)

-- ---- what is left is text

pub behind-is-text : (text behind : List ℕ) → text ≡ 32 ∷ behind → IsUtf8 text → IsUtf8 behind
behind-is-text text behind is utf8 =
    let whole : List ℕ = 32 ∷ behind in
    let some : 0 < length whole = omega arith in
    let taken : IsUtf8 whole = subst IsUtf8 is utf8 in
    IsUtf8-drop whole (0 + 1) taken (IsCharBoundary-after_ascii whole 0 taken some (lit< tt))

pub before-is-text : (text before : List ℕ) → text ≡ before ++ 32 ∷ [] → IsUtf8 text → IsUtf8 before
before-is-text text before is utf8 =
    let whole : List ℕ = before ++ 32 ∷ [] in
    let short : length before < length whole = simp length-append (omega arith) in
    let space : get_or whole (length before) 0 < 128 = rw (get_or-append_seam before 32 [] 0) (lit< tt) in
    subst IsUtf8 (take-append_seam before (32 ∷ []))
    (IsUtf8-take whole (length before) (subst IsUtf8 is utf8) (IsCharBoundary-before_ascii whole (length before) short space))
