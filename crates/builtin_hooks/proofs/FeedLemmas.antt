-- Where line feeds stand in bytes, and how they cut these into pieces.
use Rattle.std.proofs.Common.{◌≡◌, ◌≢◌, ◌∙◌, ap, sym, refl, arith, ℕ, ◌+◌, ◌-◌, ◌<◌, ◌≤◌, false, List, [], ◌∷◌, length, length-drop, take, take_all, drop}
use Rattle.std.specs.List.{position_or_len}
use Rattle.std.proofs.lemmas.Bool.{false_from_ne_true}
use Rattle.std.proofs.lemmas.List.Elements.{All-from_get_or}
use Rattle.std.proofs.lemmas.List.Splits.{length-slice_split, slice_split_first, slice_split_none}
use Rattle.std.proofs.lemmas.List.Sums.{fails_before_first, position_or_len_is}
use Rattle.memchr.specs.Find.{NoneBefore, Nowhere, Passes, is_byte}
use Rattle.builtin_hooks.specs.Lines.{is_line_end, lines_of, pieces_of, without_empty_last}

abbrev pub first_feed : List ℕ → ℕ
first_feed bytes = position_or_len is_line_end bytes

pub feed_found : (bytes : List ℕ) (place : ℕ) → NoneBefore (Passes (is_byte 10) bytes) 0 (length bytes) place
    → Passes (is_byte 10) bytes place → place ≡ first_feed bytes
feed_found bytes place first here =
    let high = first.high in
    sym (position_or_len_is is_line_end bytes place 0 (omega arith)
    (λ k before. false_from_ne_true _ (first.before k (omega arith) before)) (λ within. here))

pub feed_none : (bytes : List ℕ) → Nowhere (Passes (is_byte 10) bytes) 0 (length bytes) → length bytes ≡ first_feed bytes
feed_none bytes none =
    sym (position_or_len_is is_line_end bytes (length bytes) 0 (omega arith)
    (λ k before. false_from_ne_true _ (none k (omega arith) before)) (λ within. absurd (omega arith)))

-- ---- pieces

pub some-pieces : (bytes : List ℕ) → 0 < length (pieces_of bytes)
some-pieces bytes = omega (arith, length-slice_split is_line_end bytes)

pub pieces-cut : (bytes : List ℕ) → first_feed bytes < length bytes
    → pieces_of bytes ≡ take (first_feed bytes) bytes ∷ pieces_of (drop (first_feed bytes + 1) bytes)
pieces-cut bytes within = slice_split_first is_line_end bytes 0 within

pub pieces-whole : (bytes : List ℕ) → length bytes ≤ first_feed bytes → pieces_of bytes ≡ bytes ∷ []
pieces-whole bytes none =
    slice_split_none is_line_end bytes
    (All-from_get_or (λ byte. is_line_end byte ≡ false) bytes 0 (λ k within. fails_before_first is_line_end bytes k 0 (omega arith)))

-- ---- lines

more-pieces : (piece : List ℕ) (pieces : List (List ℕ)) → 0 < length pieces
    → without_empty_last (piece ∷ pieces) ≡ piece ∷ without_empty_last pieces
more-pieces piece [] some = absurd (omega arith)
more-pieces [] (next ∷ pieces) some = refl
more-pieces (byte ∷ piece) (next ∷ pieces) some = refl

-- what a range without an end takes
pub tail-is : (n : ℕ) (bytes : List ℕ) → take (length bytes - n) (drop n bytes) ≡ drop n bytes
tail-is n bytes = take_all _ _ (omega (arith, length-drop n bytes))

pub lines_cut : (bytes : List ℕ) (place : ℕ) → place ≡ first_feed bytes → place < length bytes
    → lines_of bytes ≡ take place bytes ∷ lines_of (take (length bytes - (place + 1)) (drop (place + 1) bytes))
lines_cut bytes place is within =
    let cut : first_feed bytes < length bytes = omega arith in
    ap without_empty_last (pieces-cut bytes cut) ∙ more-pieces _ _ (some-pieces (drop (first_feed bytes + 1) bytes))
    ∙ ap (λ n. take n bytes ∷ lines_of (drop (n + 1) bytes)) (sym is)
    ∙ ap (λ text. take place bytes ∷ lines_of text) (sym (tail-is (place + 1) bytes))

some-bytes : (bytes : List ℕ) → bytes ≢ [] → without_empty_last (bytes ∷ []) ≡ bytes ∷ []
some-bytes [] some = absurd (some refl)
some-bytes (byte ∷ bytes) some = refl

pub lines_last : (bytes : List ℕ) (place : ℕ) → bytes ≢ [] → place ≡ first_feed bytes → length bytes ≤ place → lines_of bytes ≡ bytes ∷ []
lines_last bytes place some is none = ap without_empty_last (pieces-whole bytes (omega arith)) ∙ some-bytes bytes some
