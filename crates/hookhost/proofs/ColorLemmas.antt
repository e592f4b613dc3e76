-- The colored lines so far, and one more.
use Rattle.std.proofs.Common.{◌≡◌, ◌∙◌, ap, sym, refl, append_assoc, ℕ, Bool, true, false, List, [], ◌∷◌, ◌++◌, map}
use Rattle.std.proofs.lemmas.List.{append-nil, map-append}
use denote.Ref.{Bor}
use Rattle.hookhost.specs.ColoredTexts.{colored_lines, next_line}

-- no line was written yet
abbrev pub is_start : List (List ℕ) → Bool
is_start [] = true
is_start (line ∷ lines) = false

later-more : (lines : List (List ℕ)) (line : List ℕ)
    → colored_lines false (lines ++ line ∷ []) ≡ colored_lines false lines ++ next_line false line
later-more [] line = append-nil (next_line false line)
later-more (first ∷ lines) line =
    ap (λ text. next_line false first ++ text) (later-more lines line)
    ∙ sym (append_assoc (next_line false first) (colored_lines false lines) (next_line false line))

pub colored-more : (lines : List (List ℕ)) (line : List ℕ)
    → colored_lines true (lines ++ line ∷ []) ≡ colored_lines true lines ++ next_line (is_start lines) line
colored-more [] line = append-nil (next_line true line)
colored-more (first ∷ lines) line =
    ap (λ text. next_line true first ++ text) (later-more lines line)
    ∙ sym (append_assoc (next_line true first) (colored_lines false lines) (next_line false line))

pub not-start : (lines : List (List ℕ)) (line : List ℕ) → is_start (lines ++ line ∷ []) ≡ false
not-start [] line = refl
not-start (first ∷ lines) line = refl

-- ---- the pieces of a text

abbrev pub pieces_of : List (Bor (List ℕ)) → List (List ℕ)
pieces_of pieces = map (λ (piece : Bor (List ℕ)). piece.now) pieces

pieces-more : (pieces : List (Bor (List ℕ))) (piece : Bor (List ℕ))
    → pieces_of (pieces ++ piece ∷ []) ≡ pieces_of pieces ++ piece.now ∷ []
pieces-more pieces piece = map-append (λ (one : Bor (List ℕ)). one.now) pieces (piece ∷ [])

pub start-more : (pieces : List (Bor (List ℕ))) (piece : Bor (List ℕ)) → false ≡ is_start (pieces_of (pieces ++ piece ∷ []))
start-more pieces piece = sym (ap is_start (pieces-more pieces piece) ∙ not-start (pieces_of pieces) piece.now)

pub line-more : (pieces : List (Bor (List ℕ))) (piece : Bor (List ℕ)) (is_first : Bool) (old new : List ℕ)
    → is_first ≡ is_start (pieces_of pieces) → old ≡ colored_lines true (pieces_of pieces)
    → new ≡ old ++ next_line is_first piece.now → new ≡ colored_lines true (pieces_of (pieces ++ piece ∷ []))
line-more pieces piece is_first old new first text more =
    more ∙ ap (λ (before : List ℕ). before ++ next_line is_first piece.now) text
    ∙ ap (λ (b : Bool). colored_lines true (pieces_of pieces) ++ next_line b piece.now) first
    ∙ sym (ap (colored_lines true) (pieces-more pieces piece) ∙ colored-more (pieces_of pieces) piece.now)
