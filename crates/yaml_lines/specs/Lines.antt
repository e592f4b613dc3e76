-- The lines of a text, and the content lines that they leave without comments, empty lines, the lines of
-- block texts and the document's mark. (YAML 1.2.2, sections 5.4 "Line Break Characters", 6.1 "Indentation
-- Spaces", 6.6 "Comments" and 9.1 "Documents".)
use Rattle.std.specs.Prelude.{ℕ, Bool, true, false, not, zero, suc, ◌+◌, ◌&&◌, ◌||◌, List, [], ◌∷◌, take, drop, Option, Some, None, option_map, option_and_then, ◌==◌, if◌then◌else◌}
use Rattle.std.specs.List.{prefix_len, list_all, list_any}
use Rattle.yaml_lines.specs.BlockTexts.{LineText, header_of, begins_block, margin_of, extent, is_ragged, block_text}
use Rattle.yaml_lines.specs.Characters.{characters_of, is_space, is_blank, is_allowed, is_nil, is_over, begins_with, blank_or_end, comment_or_end, trim_start}
use Rattle.yaml_lines.specs.declared.header.Header.{Header}
use Rattle.yaml_lines.specs.declared.flow_state.FlowState.{FlowState}
use Rattle.yaml_lines.specs.declared.line_state.LineState.{LineState}
use Rattle.yaml_lines.specs.Entries.{ContentLine, KeyAndValue, entry_of_line}
use Rattle.yaml_lines.specs.FlowLines.{outside, is_closed, skim, state_behind}

-- one character more before the first line
abbrev pub before_lines : ℕ → List LineText → List LineText
before_lines c [] = record { text = c ∷ []; ended = false } ∷ []
before_lines c (l ∷ ls) = record { text = c ∷ l.text; ended = l.ended } ∷ ls

-- without a carriage return at the end
abbrev pub without_return : List ℕ → List ℕ
without_return [] = []
without_return (c ∷ cs) = if c == 13 && is_nil cs then [] else c ∷ without_return cs

-- A line feed ends a line, and so does a carriage return with a line feed. The last line may lack its end.
unfoldable pub line_texts : List ℕ → List LineText
line_texts [] = []
line_texts (c ∷ cs) =
    if c == 10 then record { text = []; ended = true } ∷ line_texts cs
    else (if c == 13 && begins_with 10 cs then line_texts cs else before_lines c (line_texts cs))

-- a value, and the column of the key or the dash that it belongs to
pub record ColumnValue : Type 0 where
  pub column : ℕ
  pub content : List ℕ

-- the value of the entry at `at`; without one, the value of the last dash before it
abbrev pub value_at : ℕ → Option ℕ → List ℕ → Option KeyAndValue → Option ColumnValue
value_at at dash content (Some entry) = Some (record { column = at; content = entry.value })
value_at at dash content None = option_map (λ column. record { column = column; content = content }) dash

-- The last value on a line, after its dashes and its key. `at` is the column of the first character, `dash`
-- that of the last dash before it. None if nothing follows, and if there is neither a dash nor a key.
unfoldable pub last_value : ℕ → Option ℕ → List ℕ → Option ColumnValue
last_value at dash [] = None
last_value at dash (c ∷ cs) =
    if is_blank c then last_value (at + 1) dash cs
    else (if c == 45 && blank_or_end cs then last_value (at + 1) (Some at) cs
    else value_at at dash (c ∷ cs) (entry_of_line (c ∷ cs)))

-- what a line leaves: where the next line is, and a content line unless it holds only blanks or a comment
pub record Left : Type 0 where
  pub content_line : Option ContentLine
  pub next : LineState

abbrev pub standing : ℕ → FlowState → LineState
standing taken flow = record { taken = taken; flow = flow }

-- a content line without a block text, after which this flow is open
abbrev pub bare : ℕ → List ℕ → FlowState → Left
bare indent content flow =
    record { content_line = Some (record { indent = indent; content = content; block = None }); next = standing 0 flow }

-- a content line whose last value is a block text with this header and margin; none if a line before its
-- text is ragged
unfoldable pub with_text : ℕ → List ℕ → List LineText → Option ℕ → Header → Option Left
with_text indent content later margin header =
    if is_ragged margin later then None
    else Some (record {
      content_line =
          Some (record {
            indent = indent;
            content = content;
            block = Some
                (block_text header margin (take (extent margin later) later));
          });
      next = standing (extent margin later) outside;
    })

-- a content line with the block text or the flow that its last value begins, if it begins one; none if a
-- header can't be read
unfoldable pub with_value : ℕ → List ℕ → List LineText → Option ColumnValue → Option Left
with_value indent content later None = Some (bare indent content (state_behind content))
with_value indent content later (Some value) =
    if begins_block value.content
    then option_and_then (with_text indent content later (margin_of value.column later)) (header_of value.content)
    else Some (bare indent content (state_behind value.content))

-- a content line: a line within a flow has no value of its own
unfoldable pub with_flow : FlowState → ℕ → List ℕ → List LineText → Option Left
with_flow flow indent content later =
    if is_closed flow then with_value indent content later (last_value indent None content)
    else Some (bare indent content (skim flow content))

-- What a line leaves, if these lines follow it; none if it can't be read. A tab can't indent. (Section 6.1
-- "Indentation Spaces".)
unfoldable pub left_of : FlowState → List ℕ → List LineText → Option Left
left_of flow text later =
    let n = prefix_len is_space text in
    let content = drop n text in
    if not (list_all is_allowed text) then None
    else (if comment_or_end (trim_start text) then Some (record { content_line = None; next = standing 0 flow })
    else (if begins_with 9 content then None else with_flow flow n content later))

-- what a line leaves if the first `taken` lines from it on are a block text
abbrev pub left_by : ℕ → FlowState → List ℕ → List LineText → Option Left
left_by zero flow text later = left_of flow text later
left_by (suc taken) flow text later =
    if list_all is_allowed text then Some (record { content_line = None; next = standing taken flow }) else None

-- what a line leaves at its place
unfoldable pub left_at_line : LineState → List ℕ → List LineText → Option Left
left_at_line at text later = left_by at.taken at.flow text later

abbrev pub before_content_lines : Option ContentLine → List ContentLine → List ContentLine
before_content_lines None later = later
before_content_lines (Some p) later = p ∷ later

-- the content lines of all lines, the first of which is at this place
unfoldable pub all_content_lines : LineState → List LineText → Option (List ContentLine)
all_content_lines at [] = Some []
all_content_lines at (l ∷ ls) =
    option_and_then (λ left. option_map (before_content_lines left.content_line) (all_content_lines left.next ls))
    (left_at_line at l.text ls)

-- the first three characters are `m`
abbrev pub three : ℕ → List ℕ → Bool
three m (a ∷ b ∷ c ∷ cs) = a == m && b == m && c == m
three m _ = false

-- a line without indentation that marks a document: `---` or `...` before a blank or the end, or a
-- directive (sections 9.1.2 "Document Markers" and 6.8 "Directives")
abbrev pub is_mark : ContentLine → Bool
is_mark p =
    p.indent == 0
    && ((three 45 p.content && blank_or_end (drop 3 p.content)) ||
    (three 46 p.content && blank_or_end (drop 3 p.content)) || begins_with 37 p.content)

-- `---`, with at most a comment after it (section 9.1.4 "Explicit Documents")
abbrev pub is_start : ContentLine → Bool
is_start p = p.indent == 0 && three 45 p.content && is_over (drop 3 p.content)

abbrev pub unmarked : List ContentLine → Option (List ContentLine)
unmarked ps = if list_any is_mark ps then None else Some ps

-- the content lines of the one document: `---` alone may come first, and no other mark anywhere
unfoldable pub document : List ContentLine → Option (List ContentLine)
document [] = Some []
document (p ∷ ps) = if is_start p then unmarked ps else unmarked (p ∷ ps)

-- the content lines that the lines of a text leave
unfoldable pub content_lines_from : List LineText → Option (List ContentLine)
content_lines_from ls = option_and_then document (all_content_lines (standing 0 outside) ls)

-- the content lines that a text of characters leaves
unfoldable pub content_lines_of : List ℕ → Option (List ContentLine)
content_lines_of text = content_lines_from (line_texts text)

-- the content lines that a text of bytes leaves
unfoldable pub content_lines_of_bytes : List ℕ → Option (List ContentLine)
content_lines_of_bytes bytes = option_and_then content_lines_of (characters_of bytes)
