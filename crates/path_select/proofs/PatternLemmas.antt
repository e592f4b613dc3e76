-- What a compiled pattern and its text have to do with each other.
use Rattle.std.proofs.Common.{◌≡◌, ℕ, ◌<◌, ◌≤◌, true, List, Option, None, Some, IsSome, IsSomeAnd, is_some, length, get_or, refl}
use Rattle.regex_syntax.specs.Brackets.{Nested}
use Rattle.regex_syntax.specs.Grammar.{Names, read, group_count}
use Rattle.regex.specs.Patterns.{Re, Reads, SameCaptures, find_str}
use Rattle.regex.specs.Strings.{regex_pattern, matcher_pattern}
use Rattle.regex.specs.declared.string.regex.Regex.{Regex}
use Rattle.regex.specs.declared.string.matcher.Matcher.{Matcher}
use Rattle.path_select.proofs.Kit.{is_match_alike}
use Rattle.path_select.specs.Patterns.{IsPattern, pattern_meaning, has_match, is_found}
use Rattle.path_select.specs.Regexes.{regex_text, IsOfItsText, LooksFor}

is_there : {X : Type 0} (o : Option X) (P : X → Type 0) → IsSomeAnd o P → IsSome o
is_there None P found = absurd found
is_there (Some x) P found = refl

-- a compiled pattern shows that its text is one
pub IsPattern-of_regex : (r : Regex) → IsOfItsText r → IsPattern (regex_text r)
unfolding Reads
IsPattern-of_regex r its = is_there _ _ (rw its.by_default at its.is_read)

alike : (o : Option (Nested Re × Names)) (most : ℕ) (re : Re) (names : Names)
    → IsSomeAnd o (λ (read, found). (read.depth ≤ most) × SameCaptures re read.value × (names ≡ found) × (group_count re ≤ length names)) → IsSomeAnd o (λ (read, found). SameCaptures re read.value)
alike None most re names held = absurd held
alike (Some found) most re names held = held.1

-- what is made of it for searches looks for what is read in the text
pub LooksFor-of_regex : (r : Regex) (m : Matcher) → IsOfItsText r → matcher_pattern m ≡ regex_pattern r → LooksFor (regex_text r) m
unfolding Reads
LooksFor-of_regex r m its same = rw same (alike _ _ _ _ (rw its.by_default at its.is_read))

found_alike : (o : Option (Nested Re × Names)) (re : Re) (text : List ℕ) → ((k : ℕ) → get_or text k 0 < 256) → IsSomeAnd o (λ (read, found). SameCaptures re read.value)
    → is_some (find_str re text 0) ≡ has_match o text
found_alike None re text bytes same = absurd same
found_alike (Some found) re text bytes same = is_match_alike same text bytes true 0

pub is_found-of_search : (pattern : List ℕ) (m : Matcher) (text : List ℕ) → ((k : ℕ) → get_or text k 0 < 256) → LooksFor pattern m
    → is_some (find_str (matcher_pattern m) text 0) ≡ is_found pattern text
unfolding is_found
is_found-of_search pattern m text bytes looks = found_alike (pattern_meaning pattern) (matcher_pattern m) text bytes looks
