-- The rules of the tables.
use Rattle.std.specs.Prelude.{ℕ, Bool, true, false, not, ◌&&◌, List, [], ◌∷◌, map}
use Rattle.std.specs.Char.{to_ascii_lowercase}
use Rattle.std.specs.List.{list_all, list_any}
use Rattle.std.specs.Str.{bytes_eq}
use Rattle.file_tags.specs.TagTables.{TagRow}

abbrev pub is_some_name : List ℕ → Bool
is_some_name [] = false
is_some_name (byte ∷ bytes) = true

abbrev pub are_some_tags : List (List ℕ) → Bool
are_some_tags [] = false
are_some_tags (tag ∷ tags) = list_all is_some_name (tag ∷ tags)

-- each row has a name that isn't empty and that no later row has, and gives at least one tag
abbrev pub are_rows : List TagRow → Bool
are_rows [] = true
are_rows (row ∷ rows) =
    is_some_name row.name && are_some_tags row.tags && not (list_any (λ later. bytes_eq later.name row.name) rows) &&
    are_rows rows

-- no name has an ASCII capital letter
abbrev pub are_small : List TagRow → Bool
are_small = list_all (λ row. bytes_eq (map to_ascii_lowercase row.name) row.name)
