-- What a hook of the language `pygrep` searches for (pre-commit.com, "pygrep"), and where the grammar of
-- `regex` finds it.
use Rattle.std.specs.Prelude.{ℕ, Bool, false, ◌||◌, List, Option, None, Some, chars, codes, is_some, option_map}
use Rattle.std.specs.List.{list_all, list_any}
use Rattle.std.specs.Str.{bytes_eq}
use Rattle.regex.specs.Patterns.{Re, find, span}
use Rattle.regex_syntax.specs.declared.Config.{Config}
use Rattle.regex_syntax.specs.Grammar.{read}
use Rattle.regex_syntax.specs.Verdict.{default_config, default_flags}

-- The text of a pattern, and what the arguments say. Letters are found in either case, a file is searched as
-- a whole, or the files without a match are asked for.
pub record Search : Type 0 where
  pub text : List ℕ
  pub ignore_case : Bool
  pub multiline : Bool
  pub negate : Bool

-- ---- the arguments

abbrev pub is_ignore_case : List ℕ → Bool
is_ignore_case arg = bytes_eq arg (codes "-i") || bytes_eq arg (codes "--ignore-case")

abbrev pub is_multiline : List ℕ → Bool
is_multiline arg = bytes_eq arg (codes "--multiline")

abbrev pub is_negate : List ℕ → Bool
is_negate arg = bytes_eq arg (codes "--negate")

abbrev pub is_known : List ℕ → Bool
is_known arg = is_ignore_case arg || (is_multiline arg || is_negate arg)

-- each argument is one of the four
abbrev pub are_known : List (List ℕ) → Bool
are_known args = list_all is_known args

abbrev pub has_ignore_case : List (List ℕ) → Bool
has_ignore_case args = list_any is_ignore_case args

abbrev pub has_multiline : List (List ℕ) → Bool
has_multiline args = list_any is_multiline args

abbrev pub has_negate : List (List ℕ) → Bool
has_negate args = list_any is_negate args

-- the entry with what the arguments say, in any order and repeated
abbrev pub search_of : List ℕ → List (List ℕ) → Search
search_of entry args = record {
  text = entry;
  ignore_case = has_ignore_case args;
  multiline = has_multiline args;
  negate = has_negate args;
}

-- ---- what is found

-- How the grammar reads the text: letters in either case if that is asked for (Python's `re.IGNORECASE`). If
-- a file is searched as a whole, `^` and `$` are found at the ends of lines too, and `.` is a line feed too
-- (`re.MULTILINE` and `re.DOTALL`). Bytes that aren't UTF-8 are searched as well.
abbrev pub config_of : Search → Config
config_of search = record default_config {
  flags = record default_flags {
    case_insensitive = search.ignore_case;
    multi_line = search.multiline;
    dot_matches_new_line = search.multiline;
  };
  utf8 = false;
}

-- the pattern that the grammar reads in the text
abbrev pub pattern_of_search : Search → Option Re
pattern_of_search search = option_map (λ pattern. pattern.0.value) (read (config_of search) (chars search.text))

-- where the first match of a pattern in the bytes begins and ends
abbrev pub match_of : Option Re → List ℕ → Option (ℕ × ℕ)
match_of None bytes = None
match_of (Some pattern) bytes = option_map span (find pattern bytes 0)

-- where the first match in the bytes begins and ends
unfoldable pub first_match : Search → List ℕ → Option (ℕ × ℕ)
first_match search bytes = match_of (pattern_of_search search) bytes

abbrev pub is_search_found : Search → List ℕ → Bool
is_search_found search bytes = is_some (first_match search bytes)
