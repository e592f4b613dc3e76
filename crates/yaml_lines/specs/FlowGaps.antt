-- What may come between the parts of a flow: blanks, line ends and comments. (YAML 1.2.2, section 6.7
-- "Separation Lines".) The lines of a flow are joined by line feeds, so a line ends at a line feed or at
-- the end of the text.
use Rattle.std.specs.Prelude.{ℕ, Bool, true, false, not, ◌&&◌, ◌||◌, List, [], ◌∷◌, ◌==◌, if◌then◌else◌}
use Rattle.yaml_lines.specs.Characters.{is_blank}

abbrev pub is_feed : ℕ → Bool
is_feed c = c == 10

-- here is a blank or a line's end
abbrev pub blank_or_line_end : List ℕ → Bool
blank_or_line_end [] = true
blank_or_line_end (c ∷ _) = is_blank c || is_feed c

-- The character belongs to a gap. `comment` says whether it is in a comment, and `free` whether a comment
-- may begin with it: it follows a blank or a line's end.
abbrev pub is_of_gap : Bool → Bool → ℕ → Bool
is_of_gap comment free c = comment || is_blank c || is_feed c || (free && c == 35)

-- the character after this one of a gap is in a comment, which ends with the line
abbrev pub in_comment : Bool → ℕ → Bool
in_comment comment c = (comment || c == 35) && not (is_feed c)

-- what follows a gap
unfoldable pub behind_gap : Bool → Bool → List ℕ → List ℕ
behind_gap comment free [] = []
behind_gap comment free (c ∷ cs) =
    if is_of_gap comment free c then behind_gap (in_comment comment c) true cs else c ∷ cs

-- what follows the gap after a bracket, a comma, a colon or a text
abbrev pub after_gap : List ℕ → List ℕ
after_gap cs = behind_gap false false cs

-- what follows the gap at a line's start, where a comment may begin at once
abbrev pub after_start : List ℕ → List ℕ
after_start cs = behind_gap false true cs
