-- A word without the slashes at its end, slash by slash.
use Rattle.std.proofs.Common.{◌≡◌, ◌≢◌, ◌<◌, ap, arith, subst, refl, lit<, ℕ, true, false, cond, List, [], ◌∷◌, ◌++◌, get_or, length, length-append}
use Rattle.std.specs.Prelude.{◌==◌}
use Rattle.std.specs.Str.{IsUtf8}
use Rattle.std.proofs.Math.Seq.{get_or-append_seam, take-append_seam}
use Rattle.std.proofs.lemmas.Bool.{eqb-true}
use Rattle.std.proofs.lemmas.Str.{IsCharBoundary-before_ascii, IsUtf8-take}
use Rattle.named_files.specs.Words.{before_rest_of_word, without_slashes}

pub one-less : (front : List ℕ) → without_slashes (front ++ 47 ∷ []) ≡ without_slashes front
one-less [] = refl
one-less (byte ∷ front) = ap (before_rest_of_word byte) (one-less front)

pub none-less : (word : List ℕ) → ((front : List ℕ) → word ≢ front ++ 47 ∷ []) → without_slashes word ≡ word
none-less [] none = refl
none-less (byte ∷ []) none =
    elim (byte == 47) as (λ b. (byte == 47) ≡ b → cond b [] (byte ∷ []) ≡ byte ∷ []) [
      | true ↦ λ h. absurd (none [] (ap (λ last. last ∷ []) (eqb-true byte 47 h)))
      | false ↦ λ h. refl
    ] refl
none-less (byte ∷ next ∷ bytes) none =
    ap (before_rest_of_word byte) (none-less (next ∷ bytes) (λ front h. none (byte ∷ front) (ap (λ rest. byte ∷ rest) h)))

pub before-is-text : (word before : List ℕ) → word ≡ before ++ 47 ∷ [] → IsUtf8 word → IsUtf8 before
before-is-text word before is utf8 =
    let whole : List ℕ = before ++ 47 ∷ [] in
    let short : length before < length whole = simp length-append (omega arith) in
    let slash : get_or whole (length before) 0 < 128 = rw (get_or-append_seam before 47 [] 0) (lit< tt) in
    subst IsUtf8 (take-append_seam before (47 ∷ []))
    (IsUtf8-take whole (length before) (subst IsUtf8 is utf8) (IsCharBoundary-before_ascii whole (length before) short slash))
