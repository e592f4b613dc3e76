-- How a compiled pattern of `regex` relates to the text of the pattern. It serves the invariants of
-- private fields only.
use Rattle.std.specs.Prelude.{◌≡◌, ℕ, List, IsSomeAnd}
use Rattle.path_select.specs.Patterns.{pattern_meaning}
use Rattle.regex.specs.Patterns.{default_config, SameCaptures}
use Rattle.regex.specs.Strings.{regex_source, regex_config, matcher_pattern, IsReadFromSource}
use Rattle.regex.specs.declared.string.regex.Regex.{Regex}
use Rattle.regex.specs.declared.string.matcher.Matcher.{Matcher}

abbrev pub regex_text : Regex → List ℕ
regex_text = regex_source

-- it was read in its text with the options that `regex` has by default
pub record IsOfItsText (regex : Regex) : Type 0 where
  pub by_default : regex_config regex ≡ default_config
  pub is_read : IsReadFromSource regex

-- it looks for what is read in the text
abbrev pub LooksFor : List ℕ → Matcher → Type 0
LooksFor text matcher =
    IsSomeAnd (pattern_meaning text) (λ (meaning, _). SameCaptures (matcher_pattern matcher) meaning.value)
