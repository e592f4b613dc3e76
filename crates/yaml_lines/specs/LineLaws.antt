-- Words of the law of comments and empty lines: which lines say nothing, and which begin a block text.
-- (YAML 1.2.2, sections 6.6 "Comments" and 8.1 "Block Scalar Styles".)
use Rattle.std.specs.Prelude.{ℕ, Bool, true, false, not, ◌&&◌, ◌||◌, ◌==◌, List, drop, Option, Some, None}
use Rattle.std.specs.List.{filter, list_all}
use Rattle.yaml_lines.specs.BlockTexts.{LineText, begins_block, spaces}
use Rattle.yaml_lines.specs.Characters.{is_allowed, comment_or_end, trim_start}
use Rattle.yaml_lines.specs.Lines.{ColumnValue, last_value}

-- blanks, or blanks and a comment, of characters that a line may hold
abbrev pub says_nothing : LineText → Bool
says_nothing line = list_all is_allowed line.text && comment_or_end (trim_start line.text)

-- the lines without those that say nothing
abbrev pub saying : List LineText → List LineText
saying lines = filter (λ line. not (says_nothing line)) lines

abbrev pub is_block : Option ColumnValue → Bool
is_block None = false
is_block (Some value) = begins_block value.content

-- the last value on the line begins with `|` or `>`
abbrev pub begins_text : LineText → Bool
begins_text line = is_block (last_value (spaces line) None (drop (spaces line) line.text))

-- the line has neither `|` nor `>`, so its last value begins with neither
abbrev pub holds_no_bar : LineText → Bool
holds_no_bar line = list_all (λ c. not (c == 124 || c == 62)) line.text

-- the line with an end
abbrev pub ended : List ℕ → LineText
ended text = record { text = text; ended = true }
