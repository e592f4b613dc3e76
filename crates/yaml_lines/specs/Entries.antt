-- How one line's content begins a list's item or a table's entry. (YAML 1.2.2, sections 8.2.1 "Block
-- Sequences" and 8.2.2 "Block Mappings".)
use Rattle.std.specs.Prelude.{ℕ, Bool, true, false, ◌&&◌, ◌+◌, List, [], ◌∷◌, take, drop, Option, Some, None, option_map, option_and_then, ◌==◌, if◌then◌else◌, encode_utf8_all}
use Rattle.std.specs.List.{prefix_len, list_all}
use Rattle.yaml_lines.specs.Characters.{is_space, is_blank, blank_or_end, comment_or_end, trim_start}
use Rattle.yaml_lines.specs.Plain.{begins_plain, Sides, sides_of, trim_end}
use Rattle.yaml_lines.specs.Quoted.{Quoted, begins_quoted, quoted_of}

-- Where a line's content begins, the content, and in UTF-8 the block text that its last value begins, if it
-- begins one. The content begins with neither a blank nor a comment; both may end it.
pub record ContentLine : Type 0 where
  pub indent : ℕ
  pub content : List ℕ
  pub block : Option (List ℕ)

-- the content begins with a `-` before a blank or the end
unfoldable pub is_item : List ℕ → Bool
is_item [] = false
is_item (c ∷ cs) = c == 45 && blank_or_end cs

-- What follows a dash and blanks; `spaces` says whether the blanks are all spaces. It is one content line
-- at the column `at`, or no content line if nothing or a comment follows. None if a tab comes before it.
abbrev pub rest_behind : ℕ → Option (List ℕ) → Bool → List ℕ → Option (List ContentLine)
rest_behind at block spaces cs =
    if comment_or_end cs then Some []
    else (if spaces then Some (record { indent = at; content = cs; block = block } ∷ []) else None)

-- What follows the dash of an item whose dash is at `column`. It is one content line at its own column, or
-- no content line if only blanks and a comment follow. None if a tab comes between (section 6.1
-- "Indentation Spaces").
unfoldable pub rest_of : ℕ → Option (List ℕ) → List ℕ → Option (List ContentLine)
rest_of column block cs =
    let n = prefix_len is_blank cs in
    rest_behind (column + 1 + n) block (list_all is_space (take n cs)) (drop n cs)

unfoldable pub item_of : ContentLine → Option (List ContentLine)
item_of p = rest_of p.indent p.block (drop 1 p.content)

-- A key's text in UTF-8, without outer blanks if it is plain, and the characters of the value. The value
-- follows the blanks after the key's colon, and is empty if nothing or a comment follows.
pub record KeyAndValue : Type 0 where
  pub key : List ℕ
  pub value : List ℕ

-- the value after a colon
abbrev pub value_behind : List ℕ → List ℕ
value_behind cs = if comment_or_end (trim_start cs) then [] else trim_start cs

abbrev pub plain_entry : Sides → KeyAndValue
plain_entry sides = record { key = encode_utf8_all (trim_end sides.before); value = value_behind sides.behind }

-- what follows the colon that the characters begin with; none if they begin in another way
abbrev pub behind_colon : List ℕ → Option (List ℕ)
behind_colon [] = None
behind_colon (c ∷ cs) = if c == 58 && blank_or_end cs then Some cs else None

abbrev pub quoted_entry : Quoted → Option KeyAndValue
quoted_entry quoted =
    option_map (λ cs. record { key = quoted.text; value = value_behind cs }) (behind_colon (trim_start quoted.rest))

-- The entry that the content is: a plain or quoted text as its key, a colon before a blank or the end, and
-- the value. None if the content begins in another way.
unfoldable pub entry_of_line : List ℕ → Option KeyAndValue
entry_of_line content =
    if begins_quoted content then option_and_then quoted_entry (quoted_of content)
    else (if begins_plain content then option_map plain_entry (sides_of true content) else None)
