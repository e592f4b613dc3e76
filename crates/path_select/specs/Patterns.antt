-- What a pattern means: what the grammar of `regex` reads in its text, searched for anywhere in a path
-- (pre-commit.com, "Regular expressions"). (docs/REFERENCE.md, "Patterns and selection".)
use Rattle.std.specs.Prelude.{ℕ, Bool, false, List, Option, None, Some, IsSome, is_some}
use Rattle.std.specs.Str.{chars}
use Rattle.regex_syntax.specs.Brackets.{Nested}
use Rattle.regex_syntax.specs.Grammar.{Names, read}
use Rattle.regex.specs.Patterns.{Re, default_config, find_str}

-- what is read in the text, with the options that `regex` has by default
abbrev pub pattern_meaning : List ℕ → Option (Nested Re × Names)
pattern_meaning text = read default_config (chars text)

abbrev pub IsPattern : List ℕ → Type 0
IsPattern text = IsSome (pattern_meaning text)

abbrev pub has_match : Option (Nested Re × Names) → List ℕ → Bool
has_match None text = false
has_match (Some (meaning, names)) text = is_some (find_str meaning.value text 0)

-- what is read in the first text matches somewhere in the second, as Python's re.search does: it isn't
-- anchored
unfoldable pub is_found : List ℕ → List ℕ → Bool
is_found pattern text = has_match (pattern_meaning pattern) text
