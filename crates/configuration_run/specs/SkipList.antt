-- The hooks that the environment skips: the ids and aliases in a text, with commas between them
-- (pre-commit.com, "Temporarily disabling hooks").
use Rattle.std.specs.Prelude.{ℕ, ◌==◌, Bool, true, false, if◌then◌else◌, List, [], ◌∷◌, map}
use Rattle.std.specs.List.{filter, slice_split}

abbrev pub is_comma : ℕ → Bool
is_comma byte = byte == 44

abbrev pub is_skip_space : ℕ → Bool
is_skip_space byte = byte == 32

abbrev pub without_spaces_before : List ℕ → List ℕ
without_spaces_before [] = []
without_spaces_before (byte ∷ bytes) = if is_skip_space byte then without_spaces_before bytes else byte ∷ bytes

-- the byte and the rest, but not a space that nothing follows
abbrev pub before_rest_of_name : ℕ → List ℕ → List ℕ
before_rest_of_name byte [] = if is_skip_space byte then [] else byte ∷ []
before_rest_of_name byte (next ∷ rest) = byte ∷ next ∷ rest

abbrev pub without_spaces_after : List ℕ → List ℕ
without_spaces_after [] = []
without_spaces_after (byte ∷ bytes) = before_rest_of_name byte (without_spaces_after bytes)

-- the text without the spaces at both ends
abbrev pub without_spaces : List ℕ → List ℕ
without_spaces text = without_spaces_after (without_spaces_before text)

abbrev pub is_name : List ℕ → Bool
is_name [] = false
is_name (byte ∷ bytes) = true

-- the pieces between commas, without the spaces around them, except those that are then empty
abbrev pub skip_list : List ℕ → List (List ℕ)
skip_list text = filter is_name (map without_spaces (slice_split is_comma text))
