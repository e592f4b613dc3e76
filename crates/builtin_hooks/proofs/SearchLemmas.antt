-- A pattern that is built under flags, and the one that the grammar reads in its text.
use Rattle.std.proofs.Common.{◌≡◌, ◌∙◌, ap, refl, false, ℕ, ◌<◌, List, Option, None, Some, IsSome, IsSomeAnd, rules, get_or, is_some, option_map}
use Rattle.regex.specs.Bytes as raw
use Rattle.regex.specs.Patterns.{Re, SameCaptures, Reads, find, span}
use Rattle.regex.specs.declared.bytes.regex.Regex.{Regex}
use Rattle.builtin_hooks.proofs.Kit.{span_alike}
use Rattle.regex_syntax.specs.Brackets.{Nested}
use Rattle.regex_syntax.specs.Grammar.{Names}
use Rattle.builtin_hooks.specs.Search.{Search, config_of, first_match, match_of, pattern_of_search}
use Rattle.builtin_hooks.specs.Searchers.{SearchesFor}

value-read : (read : Option (Nested Re × Names)) (P : Nested Re × Names → Type 0) (pattern : Re)
    → ((x : Nested Re × Names) → P x → SameCaptures pattern x.0.value) → IsSomeAnd read P
    → IsSomeAnd (option_map (λ x. x.0.value) read) (SameCaptures pattern)
value-read None P pattern same is = absurd is
value-read (Some x) P pattern same is = same x is

-- what `RegexBuilder::build_bytes` gives for a text under these flags
pub built_searches : (regex : Regex) (asked : Search) → raw.regex_source regex ≡ asked.text → raw.regex_config regex ≡ config_of asked
    → raw.IsReadFromSource regex → SearchesFor asked (raw.regex_pattern regex)
unfolding Reads
built_searches regex asked source config is_read =
    value-read _ _ (raw.regex_pattern regex) (λ x reads. reads.1) (rw (source, config) at is_read)

some-and : {A : Type 0} (o : Option A) (P : A → Type 0) → IsSomeAnd o P → IsSome o
some-and None P is = absurd is
some-and (Some x) P is = search rules

-- the grammar reads a pattern there
pub searched_reads : (asked : Search) (pattern : Re) → SearchesFor asked pattern → IsSome (pattern_of_search asked)
searched_reads asked pattern searches = some-and _ _ searches

match-by : (read : Option Re) (pattern : Re) (hay : List ℕ) → IsSomeAnd read (SameCaptures pattern) → ((k : ℕ) → get_or hay k 0 < 256)
    → option_map span (find pattern hay 0) ≡ match_of read hay
match-by None pattern hay same bytes = absurd same
match-by (Some re) pattern hay same bytes = span_alike same hay bytes false 0

pub first_match-by : (asked : Search) (pattern : Re) (hay : List ℕ) → SearchesFor asked pattern → ((k : ℕ) → get_or hay k 0 < 256)
    → option_map span (find pattern hay 0) ≡ first_match asked hay
unfolding first_match
first_match-by asked pattern hay same bytes = match-by (pattern_of_search asked) pattern hay same bytes

some-mapped : {A B : Type 0} (f : A → B) (o : Option A) → is_some o ≡ is_some (option_map f o)
some-mapped f None = refl
some-mapped f (Some x) = refl

pub is_found-by : (asked : Search) (pattern : Re) (hay : List ℕ) → SearchesFor asked pattern → ((k : ℕ) → get_or hay k 0 < 256)
    → is_some (find pattern hay 0) ≡ is_some (first_match asked hay)
is_found-by asked pattern hay same bytes =
    some-mapped span (find pattern hay 0) ∙ ap is_some (first_match-by asked pattern hay same bytes)
