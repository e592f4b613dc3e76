-- Words in quotes, as Python's `shlex.quote` writes those that need quotes; `shlex.join` uses it.
use Rattle.std.specs.Prelude.{ℕ, ◌==◌, if◌then◌else◌, List, [], ◌∷◌, ◌++◌}

-- a character in single quotes; a single quote closes them, is written in double quotes, and opens them again
abbrev pub quoted_character : ℕ → List ℕ
quoted_character c = if c == 39 then 39 ∷ 34 ∷ 39 ∷ 34 ∷ 39 ∷ [] else c ∷ []

abbrev pub quoted_characters : List ℕ → List ℕ
quoted_characters [] = []
quoted_characters (c ∷ cs) = quoted_character c ++ quoted_characters cs

-- a word in single quotes
abbrev pub quoted : List ℕ → List ℕ
quoted word = 39 ∷ (quoted_characters word ++ 39 ∷ [])

-- words in single quotes, each followed by a blank
abbrev pub all_quoted : List (List ℕ) → List ℕ
all_quoted [] = []
all_quoted (word ∷ words) = quoted word ++ 32 ∷ all_quoted words
