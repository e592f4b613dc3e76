-- What a hook of the language `pygrep` answers (pre-commit.com, "pygrep").
use Rattle.std.specs.Prelude.{ℕ, Bool, true, false, if◌then◌else◌, List, [], ◌∷◌, ◌++◌, Option, None, Some, codes, filter, slice_range}
use Rattle.std.specs.Fmt.{decimal}
use Rattle.std.specs.List.{flat_map}
use Rattle.child_port.specs.declared.answer.Answer.{Answer}
use Rattle.hook_base.specs.declared.file.File.{File}
use Rattle.hook_base.specs.declared.file.FileEntry.{FileEntry}
use Rattle.hook_base.specs.Trees.{entry_of}
use Rattle.builtin_hooks.specs.Lines.{MatchedLine, from_line_feed, line_at, lines_of, numbered, without_returns_after}
use Rattle.builtin_hooks.specs.Search.{Search, first_match, is_search_found}

abbrev pub is_empty_output : List ℕ → Bool
is_empty_output [] = true
is_empty_output (byte ∷ bytes) = false

-- a path and a line's number, a colon after each
abbrev pub place_text : List ℕ → ℕ → List ℕ
place_text path number = path ++ codes ":" ++ decimal number ++ codes ":"

-- ---- line by line

-- a line that is found, without the carriage returns at its end
abbrev pub line_text : MatchedLine → List ℕ
line_text line = place_text line.path line.number ++ without_returns_after line.bytes ++ codes "\n"

-- those lines in which the pattern is found
abbrev pub found_lines : Search → List MatchedLine → List MatchedLine
found_lines search lines = filter (λ line. is_search_found search line.bytes) lines

abbrev pub found_lines_text : Search → List MatchedLine → List ℕ
found_lines_text search lines = flat_map line_text (found_lines search lines)

-- ---- a whole file at once

-- the line in which the match begins, whole, and the match from its first line feed on, as pre-commit's
-- languages/pygrep.py prints them
abbrev pub match_line_text : MatchedLine → List ℕ → List ℕ
match_line_text line found = place_text line.path line.number ++ line.bytes ++ from_line_feed found ++ codes "\n"

abbrev pub match_text : List ℕ → List ℕ → Option (ℕ × ℕ) → List ℕ
match_text path bytes None = []
match_text path bytes (Some (begin, end)) = match_line_text (line_at path begin bytes) (slice_range bytes begin end)

-- ---- the answer

-- what is printed of a file if the files with a match are asked for
abbrev pub found_text : Search → List ℕ → List ℕ → List ℕ
found_text search path bytes =
    if search.multiline then match_text path bytes (first_match search bytes)
    else found_lines_text search (numbered path 1 (lines_of bytes))

-- the path of a file of which nothing would be printed by `found_text`
abbrev pub unfound_text : List ℕ → List ℕ → List ℕ
unfound_text path found = if is_empty_output found then path ++ codes "\n" else []

abbrev pub file_text : Search → List ℕ → List ℕ → List ℕ
file_text search path bytes =
    if search.negate then unfound_text path (found_text search path bytes) else found_text search path bytes

-- a file that the tree lacks prints nothing
abbrev pub searched_entry_text : Search → List ℕ → Option FileEntry → List ℕ
searched_entry_text search path None = []
searched_entry_text search path (Some entry) = file_text search path entry.bytes

-- file by file, in the order in which they are asked for
abbrev pub grep_output : Search → List (List ℕ) → List File → List ℕ
grep_output search files tree = flat_map (λ path. searched_entry_text search path (entry_of path tree)) files

-- the hook fails if anything is printed
abbrev pub status_of_output : List ℕ → ℕ
status_of_output output = if is_empty_output output then 0 else 1

-- it changes nothing
abbrev pub grep_answer : Search → List (List ℕ) → List File → Answer
grep_answer search files tree = record {
  status = status_of_output (grep_output search files tree);
  output = grep_output search files tree;
  changes = [];
}
