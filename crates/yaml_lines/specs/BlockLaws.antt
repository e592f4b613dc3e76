-- Words of the law of literal block texts: lines that are all indented alike, and the text that they are.
-- (YAML 1.2.2, section 8.1.2 "Literal Style".)
use Rattle.std.specs.Prelude.{ℕ, Bool, true, false, not, ◌&&◌, ◌++◌, List, [], ◌∷◌, map, replicate, encode_utf8_all}
use Rattle.std.specs.List.{flat_map}
use Rattle.yaml_lines.specs.BlockTexts.{LineText}
use Rattle.yaml_lines.specs.Characters.{is_nil, begins_with}
use Rattle.yaml_lines.specs.declared.header.Chomping.{Chomping}
use Rattle.yaml_lines.specs.declared.header.Header.{Header}

-- `|` with this mark
abbrev pub literal : Chomping → Header
literal chomping = record { folded = false; chomping = chomping }

-- the line after so many spaces, with an end
abbrev pub indented : ℕ → List ℕ → LineText
indented margin line = record { text = replicate margin 32 ++ line; ended = true }

abbrev pub all_indented : ℕ → List (List ℕ) → List LineText
all_indented margin lines = map (indented margin) lines

-- the text of the lines in UTF-8, each with a line feed
abbrev pub text_of_lines : List (List ℕ) → List ℕ
text_of_lines lines = flat_map (λ line. encode_utf8_all line ++ 10 ∷ []) lines

-- the first line holds something and begins with no space
abbrev pub begins_bare : List (List ℕ) → Bool
begins_bare [] = false
begins_bare (line ∷ _) = not (is_nil line) && not (begins_with 32 line)

-- the last line holds something
abbrev pub ends_full : List (List ℕ) → Bool
ends_full [] = false
ends_full (line ∷ []) = not (is_nil line)
ends_full (_ ∷ line ∷ lines) = ends_full (line ∷ lines)
