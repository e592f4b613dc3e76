-- Block texts: their headers, the lines that belong to them, and their text. (YAML 1.2.2, section 8.1
-- "Block Scalar Styles".)
use Rattle.std.specs.Prelude.{ℕ, Bool, true, false, not, suc, ◌&&◌, ◌||◌, ◌++◌, List, [], ◌∷◌, map, length, take, drop, replicate, Option, Some, None, nat_lt, nat_le, ◌==◌, if◌then◌else◌, encode_utf8_all}
use Rattle.std.specs.List.{prefix_len, list_all, list_any, flat_map}
use Rattle.yaml_lines.specs.Characters.{is_space, is_blank, is_nil, is_over}
use Rattle.yaml_lines.specs.declared.header.Chomping.{Chomping}
use Rattle.yaml_lines.specs.declared.header.Chomping.TheVariants.{Strip, Clip, Keep}
use Rattle.yaml_lines.specs.declared.header.Header.{Header}

-- a line as it is in the text, without its end, and whether it has one
pub record LineText : Type 0 where
  pub text : List ℕ
  pub ended : Bool

-- the header, from what follows its `|` or `>`
abbrev pub header_behind : Bool → List ℕ → Option Header
header_behind folded [] = Some (record { folded = folded; chomping = Clip })
header_behind folded (c ∷ cs) =
    if c == 45 && is_over cs then Some (record { folded = folded; chomping = Strip })
    else (if c == 43 && is_over cs then Some (record { folded = folded; chomping = Keep })
    else (if is_over (c ∷ cs) then Some (record { folded = folded; chomping = Clip }) else None))

abbrev pub begins_block : List ℕ → Bool
begins_block [] = false
begins_block (c ∷ _) = c == 124 || c == 62

-- the header that a value is: `|` or `>`, then `-`, `+` or nothing, then blanks and a comment
unfoldable pub header_of : List ℕ → Option Header
header_of [] = None
header_of (c ∷ cs) =
    if c == 124 then header_behind false cs else (if c == 62 then header_behind true cs else None)

abbrev pub all_spaces : LineText → Bool
all_spaces line = list_all is_space line.text

abbrev pub spaces : LineText → ℕ
spaces line = prefix_len is_space line.text

-- The indentation of the text whose header belongs to a key or dash at `column`. It is that of the first
-- line that isn't all spaces, if that line is deeper. Otherwise there is none, and the text has no text
-- line. (Section 8.1.1.1 "Block Indentation Indicator".)
unfoldable pub margin_of : ℕ → List LineText → Option ℕ
margin_of column [] = None
margin_of column (l ∷ ls) =
    if all_spaces l then margin_of column ls else (if nat_lt column (spaces l) then Some (spaces l) else None)

abbrev pub belongs : Option ℕ → LineText → Bool
belongs None line = all_spaces line
belongs (Some margin) line = all_spaces line || nat_le margin (spaces line)

-- how many of the lines belong to the text
abbrev pub extent : Option ℕ → List LineText → ℕ
extent margin ls = prefix_len (belongs margin) ls

-- Before the first line that isn't all spaces comes one with more spaces than the margin. Section 8.1.1.1
-- makes that an error.
unfoldable pub is_ragged : Option ℕ → List LineText → Bool
is_ragged None ls = false
is_ragged (Some margin) [] = false
is_ragged (Some margin) (l ∷ ls) = all_spaces l && (nat_lt margin (length l.text) || is_ragged (Some margin) ls)

-- a line's part after the margin
abbrev pub behind_margin : Option ℕ → LineText → List ℕ
behind_margin None line = []
behind_margin (Some margin) line = drop margin line.text

-- a line of a block text without its indentation: an empty line, or a text line
abbrev pub without_margin : Option ℕ → LineText → LineText
without_margin margin line = record { text = behind_margin margin line; ended = line.ended }

-- one of the lines is a text line
abbrev pub has_text : List LineText → Bool
has_text lines = list_any (λ line. not (is_nil line.text)) lines

-- the first of the lines is empty
abbrev pub begins_empty : List LineText → Bool
begins_empty [] = false
begins_empty (line ∷ _) = is_nil line.text

abbrev pub begins_blank : List ℕ → Bool
begins_blank [] = false
begins_blank (c ∷ _) = is_blank c

-- the first text line of these begins with a blank
abbrev pub next_begins_blank : List LineText → Bool
next_begins_blank [] = false
next_begins_blank (line ∷ lines) = if is_nil line.text then next_begins_blank lines else begins_blank line.text

-- What the end of a line becomes if one of the lines after it is a text line. It stays a line feed, except
-- in folded text between two text lines that don't begin with a blank. There it is a space, or nothing
-- before empty lines, whose own ends stay. (Section 8.1.3 "Folded Style".)
abbrev pub line_end : Bool → LineText → List LineText → List ℕ
line_end folded line later =
    if not folded || is_nil line.text || begins_blank line.text || next_begins_blank later then 10 ∷ []
    else (if begins_empty later then [] else 32 ∷ [])

-- a line feed for each of the lines that has an end
abbrev pub feeds_of : List LineText → List ℕ
feeds_of lines = flat_map (λ line. if line.ended then 10 ∷ [] else []) lines

-- What the ends of the last text line and of the empty lines after it become. If there is no text line,
-- these are the ends of all lines. (Section 8.1.1.2 "Block Chomping Indicator".)
abbrev pub last_ends : Chomping → LineText → List LineText → List ℕ
last_ends Strip line later = []
last_ends Clip line later = if is_nil line.text then [] else take 1 (feeds_of (line ∷ later))
last_ends Keep line later = feeds_of (line ∷ later)

-- the text of the lines in UTF-8, each without its indentation
unfoldable pub joined : Header → List LineText → List ℕ
joined header [] = []
joined header (line ∷ later) =
    encode_utf8_all line.text
    ++ (if has_text later then line_end header.folded line later ++ joined header later else last_ends header.chomping
    line later)

-- the text of a block text with this header and margin, from the lines that belong to it
abbrev pub block_text : Header → Option ℕ → List LineText → List ℕ
block_text header margin ls = joined header (map (without_margin margin) ls)

-- ---- only for contracts of private functions

-- What comes before a text line with k empty lines before it. `before` says whether the text line before
-- those begins with a blank; it is none if there is no such line. `blank` says whether this text line
-- begins with one.
abbrev pub between : Bool → Option Bool → ℕ → Bool → List ℕ
between folded None k blank = replicate k 10
between folded (Some before) k blank =
    if not folded || before || blank then replicate (suc k) 10 else (if k == 0 then 32 ∷ [] else replicate k 10)

-- What follows the last text line. `ends` counts the line ends from that line on.
abbrev pub behind_last : Chomping → Option Bool → ℕ → List ℕ
behind_last Strip before ends = []
behind_last Clip None ends = []
behind_last Clip (Some _) ends = if ends == 0 then [] else 10 ∷ []
behind_last Keep before ends = replicate ends 10
