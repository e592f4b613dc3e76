-- The lines of a file, as bytes.
use Rattle.std.specs.Prelude.{ℕ, ◌+◌, ◌==◌, Bool, if◌then◌else◌, List, [], ◌∷◌, take, drop, slice_index_or}
use Rattle.std.specs.List.{count_by, position_or_len, slice_split}

abbrev pub is_line_end : ℕ → Bool
is_line_end byte = byte == 10

-- the bytes between line feeds, before the first and after the last
abbrev pub pieces_of : List ℕ → List (List ℕ)
pieces_of bytes = slice_split is_line_end bytes

abbrev pub without_empty_last : List (List ℕ) → List (List ℕ)
without_empty_last [] = []
without_empty_last ([] ∷ []) = []
without_empty_last (piece ∷ pieces) = piece ∷ without_empty_last pieces

-- the lines of a file, without their line feeds; after the last line feed there is one only if bytes follow
-- it
abbrev pub lines_of : List ℕ → List (List ℕ)
lines_of bytes = without_empty_last (pieces_of bytes)

-- a line of a file, with the file's path and its number
pub record MatchedLine : Type 0 where
  pub path : List ℕ
  pub number : ℕ
  pub bytes : List ℕ

-- the lines with this path, numbered from this number on
abbrev pub numbered : List ℕ → ℕ → List (List ℕ) → List MatchedLine
numbered path number [] = []
numbered path number (line ∷ lines) =
    record { path = path; number = number; bytes = line } ∷ numbered path (number + 1) lines

-- how many line feeds are before an index
abbrev pub line_feeds_before : ℕ → List ℕ → ℕ
line_feeds_before index bytes = count_by is_line_end (take index bytes)

-- The line in which an index lies. A line feed lies in the line that it ends. The index after the last byte
-- lies in the line that begins or goes on there.
abbrev pub line_at : List ℕ → ℕ → List ℕ → MatchedLine
line_at path index bytes = record {
  path = path;
  number = line_feeds_before index bytes + 1;
  bytes = slice_index_or (pieces_of bytes) (line_feeds_before index bytes) [];
}

-- the bytes from their first line feed on
abbrev pub from_line_feed : List ℕ → List ℕ
from_line_feed bytes = drop (position_or_len is_line_end bytes) bytes

-- the byte and the rest, but not a carriage return that nothing follows
abbrev pub before_rest_of_line : ℕ → List ℕ → List ℕ
before_rest_of_line byte [] = if byte == 13 then [] else byte ∷ []
before_rest_of_line byte (next ∷ rest) = byte ∷ next ∷ rest

-- the bytes without the carriage returns at their end
abbrev pub without_returns_after : List ℕ → List ℕ
without_returns_after [] = []
without_returns_after (byte ∷ bytes) = before_rest_of_line byte (without_returns_after bytes)
