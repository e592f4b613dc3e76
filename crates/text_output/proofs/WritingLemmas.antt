-- Texts that a writer takes piece by piece.
use Rattle.std.proofs.Common.{◌≡◌, ◌∙◌, ap, sym, subst, refl, arith, append_assoc, ℕ, ◌+◌, ◌-◌, ◌<◌, ◌≤◌, List, [], ◌∷◌, ◌++◌, length, take, drop, length-drop, get_or, map, Option, Bor}
use Rattle.std.specs.List.{concat}
use Rattle.std.specs.Io.KnownBytes.{Appends, Keeps}
use Rattle.std.proofs.Math.Seq.{take-add}
use Rattle.std.proofs.lemmas.List.{append-nil, take_all, take_more, take-append-drop}
use Rattle.text_output.specs.Outputs.{HasBeginning}
use Rattle.text_output.specs.OutputLemmas.{appends-kept, appends-more}

-- ---- one text

-- the writer took so many bytes of the text, and then no more
pub begun-and-kept : (held mid holds : Option (List ℕ)) (text : List ℕ) (written : ℕ) → Appends held mid (take written text) → Keeps mid holds
    → HasBeginning (record { held = held; holds = holds }) text
begun-and-kept held mid holds text written taken kept = record {
  part = take written text;
  rest = drop written text;
  cut = sym (take-append-drop written text);
  written = appends-kept held mid holds (take written text) taken kept;
}

pub begun : (held holds : Option (List ℕ)) (text : List ℕ) (written : ℕ) → Appends held holds (take written text)
    → HasBeginning (record { held = held; holds = holds }) text
begun held holds text written taken = record {
  part = take written text;
  rest = drop written text;
  cut = sym (take-append-drop written text);
  written = taken;
}

drop_whole : (text : List ℕ) (written : ℕ) → take (length text - written) (drop written text) ≡ drop written text
drop_whole text written = take_all (length text - written) (drop written text) (omega (arith, length-drop written text))

pub taken-within : (text : List ℕ) (written count : ℕ) → written ≤ length text
    → count ≤ length (take (length text - written) (drop written text)) → written + count ≤ length text
taken-within text written count within few =
    let fits : count ≤ length (drop written text) = subst (λ (rest : List ℕ). count ≤ length rest) (drop_whole text written) few in
    omega (arith, length-drop written text)

pub taken-more : (held mid holds : Option (List ℕ)) (text : List ℕ) (written count : ℕ) → Appends held mid (take written text)
    → Appends mid holds (take count (take (length text - written) (drop written text))) → Appends held holds (take (written + count) text)
taken-more held mid holds text written count taken more =
    subst (λ (bytes : List ℕ). Appends held holds bytes) (sym (take-add written count text))
    (appends-more held mid holds (take written text) (take count (drop written text)) taken
    (subst (λ (rest : List ℕ). Appends mid holds (take count rest)) (drop_whole text written) more))

-- ---- a text in pieces

abbrev pub text_of : List (Bor (List ℕ)) → List ℕ
text_of pieces = concat (map (λ piece. piece.now) pieces)

text_of-append : (pieces more : List (Bor (List ℕ))) → text_of (pieces ++ more) ≡ text_of pieces ++ text_of more
text_of-append [] more = refl
text_of-append (piece ∷ pieces) more =
    ap (λ text. piece.now ++ text) (text_of-append pieces more) ∙ sym (append_assoc piece.now (text_of pieces) (text_of more))

text_of-take : (pieces : List (Bor (List ℕ))) (place : ℕ) (d : Bor (List ℕ)) → place < length pieces
    → text_of (take (place + 1) pieces) ≡ text_of (take place pieces) ++ (get_or pieces place d).now
text_of-take pieces place d within =
    ap text_of (take_more pieces place d within) ∙ text_of-append (take place pieces) (get_or pieces place d ∷ [])
    ∙ ap (λ text. text_of (take place pieces) ++ text) (append-nil (get_or pieces place d).now)

text_of-parts : (pieces : List (Bor (List ℕ))) (place : ℕ) → text_of pieces ≡ text_of (take place pieces) ++ text_of (drop place pieces)
text_of-parts pieces place =
    ap text_of (sym (take-append-drop place pieces)) ∙ text_of-append (take place pieces) (drop place pieces)

pub piece-written : (held mid holds : Option (List ℕ)) (pieces : List (Bor (List ℕ))) (place : ℕ) (d : Bor (List ℕ)) (piece : List ℕ)
    → place < length pieces → piece ≡ (get_or pieces place d).now → Appends held mid (text_of (take place pieces)) → Appends mid holds piece
    → Appends held holds (text_of (take (place + 1) pieces))
piece-written held mid holds pieces place d piece within is taken more =
    subst (λ (bytes : List ℕ). Appends held holds bytes)
    (ap (λ last. text_of (take place pieces) ++ last) is ∙ sym (text_of-take pieces place d within))
    (appends-more held mid holds (text_of (take place pieces)) piece taken more)

pub piece-begun : (held mid holds : Option (List ℕ)) (pieces : List (Bor (List ℕ))) (place : ℕ) (d : Bor (List ℕ)) (piece : List ℕ)
    → place < length pieces → piece ≡ (get_or pieces place d).now → Appends held mid (text_of (take place pieces))
    → HasBeginning (record { held = mid; holds = holds }) piece → HasBeginning (record { held = held; holds = holds }) (text_of pieces)
piece-begun held mid holds pieces place d piece within is taken begun = record {
  part = text_of (take place pieces) ++ begun.part;
  rest = begun.rest ++ text_of (drop (place + 1) pieces);
  cut = text_of-parts pieces (place + 1)
      ∙ ap (λ text. text ++ text_of (drop (place + 1) pieces))
      (text_of-take pieces place d within ∙ ap (λ last. text_of (take place pieces) ++ last) (sym is ∙ begun.cut)
      ∙ sym (append_assoc (text_of (take place pieces)) begun.part begun.rest))
      ∙ append_assoc (text_of (take place pieces) ++ begun.part) begun.rest (text_of (drop (place + 1) pieces));
  written = appends-more held mid holds (text_of (take place pieces)) begun.part taken begun.written;
}
