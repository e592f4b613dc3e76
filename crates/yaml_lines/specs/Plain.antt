-- Plain texts on one line. (YAML 1.2.2, section 7.3.3 "Plain Style".)
use Rattle.std.specs.Prelude.{ℕ, Bool, true, false, not, ◌&&◌, ◌||◌, List, [], ◌∷◌, Option, Some, None, option_map, is_none, ◌==◌, if◌then◌else◌, encode_utf8_all}
use Rattle.yaml_lines.specs.Characters.{is_blank, is_nil, blank_or_end}

-- one of `, [ ] { } # & * ! | > ' " % @` and the backtick, which begin no plain text
abbrev pub is_indicator : ℕ → Bool
is_indicator c =
    c == 44 || c == 91 || c == 93 || c == 123 || c == 125 || c == 35 || c == 38 || c == 42
    || c == 33 || c == 124 || c == 62 || c == 39 || c == 34 || c == 37 || c == 64 || c == 96

-- `-`, `?` or `:`, which begin a plain text only if neither a blank nor the end follows
abbrev pub is_mark_character : ℕ → Bool
is_mark_character c = c == 45 || c == 63 || c == 58

-- the content begins as a plain text may
unfoldable pub begins_plain : List ℕ → Bool
begins_plain [] = false
begins_plain (c ∷ cs) = not (is_indicator c) && not (is_mark_character c && blank_or_end cs)

-- A `#` at the start of a line or after a blank begins a comment, which ends with the line. `free` says
-- whether a comment may begin with the first character. (Section 6.6 "Comments".)
unfoldable pub uncommented : Bool → List ℕ → List ℕ
uncommented free [] = []
uncommented free (c ∷ cs) = if free && c == 35 then [] else c ∷ uncommented (is_blank c) cs

-- without the blanks at the end
unfoldable pub trim_end : List ℕ → List ℕ
trim_end [] = []
trim_end (c ∷ cs) = let rest = trim_end cs in if is_blank c && is_nil rest then [] else c ∷ rest

-- the characters before a colon, and those after it
pub record Sides : Type 0 where
  pub before : List ℕ
  pub behind : List ℕ

abbrev pub before_side : ℕ → Sides → Sides
before_side c sides = record { before = c ∷ sides.before; behind = sides.behind }

-- Both sides of the first `:` outside of comments that a blank or the end follows; none if there is no such
-- colon. `free` says whether a comment may begin with the first character.
unfoldable pub sides_of : Bool → List ℕ → Option Sides
sides_of free [] = None
sides_of free (c ∷ cs) =
    if free && c == 35 then None
    else (if c == 58 && blank_or_end cs then Some (record { before = []; behind = cs })
    else option_map (before_side c) (sides_of (is_blank c) cs))

-- the plain text in UTF-8 that the whole content is; only blanks and a comment may follow it
unfoldable pub plain_of : List ℕ → Option (List ℕ)
plain_of content =
    if begins_plain content && is_none (sides_of true content)
    then Some (encode_utf8_all (trim_end (uncommented true content))) else None
