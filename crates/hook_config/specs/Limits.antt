-- The limits of a configuration.
use Rattle.std.specs.Prelude.{ℕ, List, ◌≤◌, length}
use Rattle.std.specs.List.{All}
use Rattle.yaml_lines.specs.Characters.{most_bytes}

-- the greatest number of hooks
abbrev pub most_hooks : ℕ
most_hooks = 500

-- the most names that a child of a hook is given
abbrev pub most_names : ℕ
most_names = 100_000

-- the greatest number of bytes of a text, which is that of the whole configuration
abbrev pub most_text_bytes : ℕ
most_text_bytes = most_bytes

-- the text is no longer
abbrev pub IsShort : List ℕ → Type 0
IsShort text = length text ≤ most_text_bytes

-- none of the texts is longer
abbrev pub AreTexts : List (List ℕ) → Type 0
AreTexts = All IsShort
