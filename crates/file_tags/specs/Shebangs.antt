-- The words of a script's first line: what follows `#!`, cut at spaces and tabs (after identify 2.5's
-- parse_shebang, which also reads quotes).
use Rattle.std.specs.Prelude.{ℕ, Bool, true, false, ◌==◌, ◌&&◌, nat_le, if◌then◌else◌, List, [], ◌∷◌, length, codes, Option, None, Some}
use Rattle.std.specs.List.{filter, slice_split, before_first}
use Rattle.std.specs.Str.{bytes_eq, is_utf8}
use Rattle.file_tags.specs.Cuts.{is_shebang_blank, is_line_feed}

-- the most bytes that may follow `#!` in the first line, including a carriage return at its end
abbrev pub most_shebang_bytes : ℕ
most_shebang_bytes = 1_024

-- without one carriage return at the end
abbrev pub without_carriage_return : List ℕ → List ℕ
without_carriage_return [] = []
without_carriage_return (byte ∷ []) = if byte == 13 then [] else byte ∷ []
without_carriage_return (byte ∷ next ∷ bytes) = byte ∷ without_carriage_return (next ∷ bytes)

abbrev pub is_shebang_word : List ℕ → Bool
is_shebang_word [] = false
is_shebang_word (byte ∷ bytes) = true

-- what is between spaces and tabs
abbrev pub words_of_shebang : List ℕ → List (List ℕ)
words_of_shebang line = filter is_shebang_word (slice_split is_shebang_blank line)

-- what follows `#!` in the first line, if it is short enough and UTF-8
abbrev pub line_of : List ℕ → Option (List ℕ)
line_of rest =
    if nat_le (length rest) most_shebang_bytes && is_utf8 rest then Some (without_carriage_return rest) else None

abbrev pub words_of_line : Option (List ℕ) → List (List ℕ)
words_of_line None = []
words_of_line (Some line) = words_of_shebang line

-- the words after `#!` at the start of a file, up to the first line feed; none if it doesn't begin so
abbrev pub shebang_of : List ℕ → List (List ℕ)
shebang_of [] = []
shebang_of (first ∷ []) = []
shebang_of (first ∷ second ∷ bytes) =
    if first == 35 && second == 33 then words_of_line (line_of (before_first is_line_feed bytes)) else []

-- `env` starts the program that its first word names, or the word after `-S` (identify 2.5's parse_shebang)
abbrev pub env_program : List (List ℕ) → List (List ℕ)
env_program [] = []
env_program (word ∷ words) = if bytes_eq word (codes "-S") then words else word ∷ words

-- the words from the interpreter's on
abbrev pub from_interpreter : List (List ℕ) → List (List ℕ)
from_interpreter [] = []
from_interpreter (word ∷ words) = if bytes_eq word (codes "/usr/bin/env") then env_program words else word ∷ words
