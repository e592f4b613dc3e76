-- The characters of a text, and the tests of one of them. (YAML 1.2.2, chapter 5.)
use Rattle.std.specs.Prelude.{ℕ, Bool, true, false, ◌&&◌, ◌||◌, List, [], ◌∷◌, Option, Some, None, length, drop, nat_lt, nat_le, ◌==◌, if◌then◌else◌, chars}
use Rattle.std.specs.List.{prefix_len}
use Rattle.std.specs.Str.{is_utf8}

-- the most bytes that a text may have
abbrev pub most_bytes : ℕ
most_bytes = 1_048_576

-- without a byte order mark at the start, which isn't part of the text (section 5.2 "Character Encodings")
abbrev pub without_mark : List ℕ → List ℕ
without_mark [] = []
without_mark (c ∷ cs) = if c == 0xFEFF then cs else c ∷ cs

-- the characters of bytes: none if there are too many bytes, or if they aren't UTF-8
unfoldable pub characters_of : List ℕ → Option (List ℕ)
characters_of bytes =
    if nat_lt most_bytes (length bytes) then None
    else (if is_utf8 bytes then Some (without_mark (chars bytes)) else None)

abbrev pub is_space : ℕ → Bool
is_space c = c == 32

-- a space or a tab (section 5.5 "White Space Characters")
abbrev pub is_blank : ℕ → Bool
is_blank c = c == 32 || c == 9

-- what a line may hold: the tab and all characters from the space on (`nb-json` of section 5.1 "Character
-- Set")
abbrev pub is_allowed : ℕ → Bool
is_allowed c = nat_le 32 c || c == 9

-- the characters begin with a blank, or there are none
abbrev pub blank_or_end : List ℕ → Bool
blank_or_end [] = true
blank_or_end (c ∷ _) = is_blank c

-- the characters without the blanks at their start
abbrev pub trim_start : List ℕ → List ℕ
trim_start cs = drop (prefix_len is_blank cs) cs

abbrev pub is_nil : List ℕ → Bool
is_nil [] = true
is_nil (_ ∷ _) = false

abbrev pub begins_with : ℕ → List ℕ → Bool
begins_with c [] = false
begins_with c (d ∷ _) = d == c

-- a comment, or nothing
abbrev pub comment_or_end : List ℕ → Bool
comment_or_end [] = true
comment_or_end (c ∷ _) = c == 35

-- what may follow a text, a flow or a mark on its line: nothing, or blanks and then nothing or a comment
-- (section 6.6 "Comments")
abbrev pub is_over : List ℕ → Bool
is_over cs = blank_or_end cs && comment_or_end (trim_start cs)
