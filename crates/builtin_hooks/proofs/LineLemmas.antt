-- The lines in which a pattern is found, from one line on.
use Rattle.std.proofs.Common.{◌≡◌, ◌∙◌, ap, sym, append_assoc, ℕ, ◌+◌, true, false, List, [], ◌∷◌, ◌++◌}
use Rattle.std.specs.List.{flat_map}
use Rattle.std.proofs.lemmas.Bool.{cond-true, cond-false}
use Rattle.builtin_hooks.specs.GrepAnswer.{found_lines, line_text, place_text}
use Rattle.builtin_hooks.specs.Lines.{MatchedLine, lines_of, numbered}
use Rattle.builtin_hooks.specs.Search.{Search, is_search_found}
use Rattle.builtin_hooks.specs.Searchers.{found_from}

pub found_here : (search : Search) (path : List ℕ) (number : ℕ) (rest line after : List ℕ) → lines_of rest ≡ line ∷ lines_of after
    → is_search_found search line ≡ true
    → found_from search path number rest ≡ record { path = path; number = number; bytes = line } ∷ found_from search path (number + 1) after
found_here search path number rest line after is found =
    ap (λ lines. found_lines search (numbered path number lines)) is ∙ cond-true _ _ _ found

pub found_later : (search : Search) (path : List ℕ) (number : ℕ) (rest line after : List ℕ) → lines_of rest ≡ line ∷ lines_of after
    → is_search_found search line ≡ false → found_from search path number rest ≡ found_from search path (number + 1) after
found_later search path number rest line after is found =
    ap (λ lines. found_lines search (numbered path number lines)) is ∙ cond-false _ _ _ found

-- the text of a line is written, and those of the lines after it are left
pub text_more : (whole before after : List ℕ) (line : MatchedLine) (lines left : List MatchedLine) → whole ≡ before ++ flat_map line_text lines
    → lines ≡ line ∷ left → after ≡ before ++ line_text line → whole ≡ after ++ flat_map line_text left
text_more whole before after line lines left so_far first made =
    so_far ∙ ap (λ rest. before ++ flat_map line_text rest) first ∙ sym (append_assoc before (line_text line) (flat_map line_text left))
    ∙ ap (λ text. text ++ flat_map line_text left) (sym made)

-- the pieces of a line's text, as they are written
pub line_written : (start one two three path bytes : List ℕ) (number : ℕ) → one ≡ start ++ place_text path number
    → two ≡ one ++ bytes → three ≡ two ++ 10 ∷ [] → three ≡ start ++ (place_text path number ++ bytes ++ 10 ∷ [])
line_written start one two three path bytes number a b c =
    c ∙ ap (λ text. text ++ 10 ∷ []) (b ∙ ap (λ text. text ++ bytes) a ∙ append_assoc start (place_text path number) bytes)
    ∙ append_assoc start (place_text path number ++ bytes) (10 ∷ [])
