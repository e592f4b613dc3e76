-- Texts within a flow, plain or quoted. (YAML 1.2.2, sections 7.3.1 "Double-Quoted Style", 7.3.2
-- "Single-Quoted Style" and 7.3.3 "Plain Style".)
use Rattle.std.specs.Prelude.{ℕ, Bool, true, false, not, ◌+◌, ◌&&◌, ◌||◌, List, [], ◌∷◌, Option, Some, None, option_map, length, take, drop, ◌==◌, if◌then◌else◌, encode_utf8_all}
use Rattle.yaml_lines.specs.Characters.{is_blank, is_nil}
use Rattle.yaml_lines.specs.Plain.{is_indicator, is_mark_character, trim_end}
use Rattle.yaml_lines.specs.Quoted.{Quoted, begins_quoted, quoted_of}
use Rattle.yaml_lines.specs.FlowGaps.{is_feed, blank_or_line_end}

-- one of `, [ ] { }`, which no plain text in a flow holds (section 5.3 "Indicator Characters")
abbrev pub is_flow_indicator : ℕ → Bool
is_flow_indicator c = c == 44 || c == 91 || c == 93 || c == 123 || c == 125

-- a colon before these characters ends a plain key
abbrev pub ends_key : List ℕ → Bool
ends_key [] = true
ends_key (c ∷ _) = is_blank c || is_feed c || is_flow_indicator c

-- A colon before these characters ends a key: a plain one if it may end one, a quoted one in any case.
-- (Section 7.4.2 "Flow Mappings".)
abbrev pub is_key_end : Bool → ℕ → List ℕ → Bool
is_key_end quoted c cs = c == 58 && (quoted || ends_key cs)

-- the characters begin as a plain text may
unfoldable pub begins_plain : List ℕ → Bool
begins_plain [] = false
begins_plain (c ∷ cs) = not (is_indicator c) && not (is_mark_character c && blank_or_line_end cs)

-- A plain text ends here: at one of `, [ ] { }`, at the line's end, at a comment, or at a key's colon.
-- `blank` says whether a blank comes before.
abbrev pub ends_plain : Bool → List ℕ → Bool
ends_plain blank [] = true
ends_plain blank (c ∷ cs) = is_flow_indicator c || is_feed c || (blank && c == 35) || (c == 58 && ends_key cs)

-- how many characters come before the end of a plain text
unfoldable pub plain_extent : Bool → List ℕ → ℕ
plain_extent blank [] = 0
plain_extent blank (c ∷ cs) = if ends_plain blank (c ∷ cs) then 0 else 1 + plain_extent (is_blank c) cs

-- a text in UTF-8, whether it is quoted, and what follows it
pub record FlowText : Type 0 where
  pub text : List ℕ
  pub quoted : Bool
  pub rest : List ℕ

-- the plain text of these characters, which isn't empty
abbrev pub plain_text : List ℕ → List ℕ → Option FlowText
plain_text part cs =
    if is_nil part then None
    else Some (record { text = encode_utf8_all part; quoted = false; rest = drop (length part) cs })

-- the plain text that the characters begin with, without the blanks at its end
unfoldable pub plain_at : List ℕ → Option FlowText
plain_at cs = if begins_plain cs then plain_text (trim_end (take (plain_extent false cs) cs)) cs else None

abbrev pub quoted_text : Quoted → FlowText
quoted_text q = record { text = q.text; quoted = true; rest = q.rest }

-- the quoted text that the characters begin with
abbrev pub quoted_at : List ℕ → Option FlowText
quoted_at cs = option_map quoted_text (quoted_of cs)

-- the text that the characters begin with
unfoldable pub text_at : List ℕ → Option FlowText
text_at cs = if begins_quoted cs then quoted_at cs else plain_at cs
