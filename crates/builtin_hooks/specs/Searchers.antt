-- What private functions say about a search: which pattern a searcher has, and the lines that it has found so
-- far.
use Rattle.std.specs.Prelude.{◌≡◌, ℕ, ◌+◌, List, [], ◌∷◌, Option, None, Some, IsSomeAnd}
use Rattle.regex.specs.Patterns.{Re, SameCaptures}
use Rattle.builtin_hooks.specs.declared.flags.Flags.{Flags}
use Rattle.builtin_hooks.specs.declared.file_lines.FoundLine.{FoundLine}
use Rattle.builtin_hooks.specs.GrepAnswer.{found_lines}
use Rattle.builtin_hooks.specs.Lines.{MatchedLine, lines_of, numbered}
use Rattle.builtin_hooks.specs.Search.{Search, pattern_of_search}

abbrev pub search_with : List ℕ → Flags → Search
search_with text flags = record {
  text = text;
  ignore_case = flags.ignore_case;
  multiline = flags.multiline;
  negate = flags.negate;
}

-- the pattern matches as the one that the grammar reads in the text
abbrev pub SearchesFor : Search → Re → Type 0
SearchesFor search pattern = IsSomeAnd (pattern_of_search search) (SameCaptures pattern)

-- the lines of the bytes in which the pattern is found, if the first of the bytes' lines has this number
abbrev pub found_from : Search → List ℕ → ℕ → List ℕ → List MatchedLine
found_from search path number bytes = found_lines search (numbered path number (lines_of bytes))

abbrev pub found_line_of : List ℕ → FoundLine → MatchedLine
found_line_of path found = record { path = path; number = found.number; bytes = found.line.now }

-- the first of these lines, with the bytes after it, or none if there is none
abbrev pub IsFirstFound : Search → ℕ → List ℕ → Option FoundLine → Type 0
IsFirstFound search number bytes None = (path : List ℕ) → found_from search path number bytes ≡ []
IsFirstFound search number bytes (Some found) =
    (path : List ℕ) → found_from search path number bytes
    ≡ found_line_of path found ∷ found_from search path (found.number + 1) found.after.now
