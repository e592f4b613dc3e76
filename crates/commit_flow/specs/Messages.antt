-- The message of a commit: what the hooks begin with, and how it is cleaned (git-commit(1), "--cleanup", mode
-- `whitespace`).
use Rattle.std.specs.Prelude.{ℕ, zero, suc, ◌==◌, Bool, true, false, ◌&&◌, ◌||◌, if◌then◌else◌, List, [], ◌∷◌, ◌++◌, drop, get_or, length, map}
use Rattle.std.specs.List.{filter, flat_map, list_any, range_with_len, slice_split}

abbrev pub is_message_line_feed : ℕ → Bool
is_message_line_feed byte = byte == 10

-- there is a last byte, and it isn't a line feed
abbrev pub lacks_line_end : List ℕ → Bool
lacks_line_end [] = false
lacks_line_end (byte ∷ []) = if is_message_line_feed byte then false else true
lacks_line_end (byte ∷ next ∷ bytes) = lacks_line_end (next ∷ bytes)

-- what the hooks begin with: the message, with a line feed at its end unless it is empty
abbrev pub begun_message : List ℕ → List ℕ
begun_message message = if lacks_line_end message then message ++ 10 ∷ [] else message

-- ---- the clean-up

-- a carriage return, a tab or a space
abbrev pub is_message_blank : ℕ → Bool
is_message_blank byte = byte == 13 || byte == 9 || byte == 32

-- the byte and then the rest; a blank with nothing after it is left out
abbrev pub before_rest_of_message : ℕ → List ℕ → List ℕ
before_rest_of_message byte [] = if is_message_blank byte then [] else byte ∷ []
before_rest_of_message byte (next ∷ rest) = byte ∷ next ∷ rest

-- the bytes without the blanks at their end
abbrev pub without_trailing_blanks : List ℕ → List ℕ
without_trailing_blanks [] = []
without_trailing_blanks (byte ∷ bytes) = before_rest_of_message byte (without_trailing_blanks bytes)

-- the lines of a message without the blanks at their ends; the text after the last line feed is a line too,
-- perhaps empty
abbrev pub trimmed_lines : List ℕ → List (List ℕ)
trimmed_lines message = map without_trailing_blanks (slice_split is_message_line_feed message)

-- the line isn't empty
abbrev pub is_filled : List ℕ → Bool
is_filled [] = false
is_filled (byte ∷ bytes) = true

-- the line at a place, counted from 0
abbrev pub message_line_at : List (List ℕ) → ℕ → List ℕ
message_line_at lines place = get_or lines place []

-- there is a line before the place, and it isn't empty
abbrev pub follows_filled : List (List ℕ) → ℕ → Bool
follows_filled lines zero = false
follows_filled lines (suc place) = is_filled (message_line_at lines place)

-- a line after the place isn't empty
abbrev pub precedes_filled : List (List ℕ) → ℕ → Bool
precedes_filled lines place = list_any is_filled (drop (suc place) lines)

-- The line at the place stays: it isn't empty, or it is the first empty one after a line that isn't, and a
-- later line isn't empty. So empty lines at both ends go, and of several one stays.
abbrev pub stays_at : List (List ℕ) → ℕ → Bool
stays_at lines place =
    is_filled (message_line_at lines place) || (follows_filled lines place && precedes_filled lines place)

-- the lines that stay, in order
abbrev pub staying : List (List ℕ) → List (List ℕ)
staying lines = map (message_line_at lines) (filter (stays_at lines) (range_with_len 0 (length lines)))

abbrev pub ended_line : List ℕ → List ℕ
ended_line line = line ++ 10 ∷ []

-- the cleaned message: the lines that stay, each ended by a line feed
abbrev pub cleaned_message : List ℕ → List ℕ
cleaned_message message = flat_map ended_line (staying (trimmed_lines message))
