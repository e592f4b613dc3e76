-- The patterns of a configuration, in the syntax of `regex` (pre-commit.com, "Regular expressions").
use Rattle.std.specs.Prelude.{ℕ, List, codes, if◌then◌else◌, is_some, Option, Some, None, option_and_then}
use Rattle.yaml_lines.specs.Meaning.{Meaning}
use Rattle.path_select.specs.Patterns.{pattern_meaning}
use Rattle.hook_config.specs.Kinds.{text_of}

-- a text in which the grammar reads a pattern
unfoldable pub pattern_of_text : List ℕ → Option (List ℕ)
pattern_of_text text = if is_some (pattern_meaning text) then Some text else None

abbrev pub pattern_of : Meaning → Option (List ℕ)
pattern_of value = option_and_then pattern_of_text (text_of value)

-- the pattern that is found in every path
abbrev pub every_path : List ℕ
every_path = codes ""

-- the pattern that is found in the empty text alone, and so in no path
abbrev pub no_path : List ℕ
no_path = codes "^$"
