-- The tables of tags. Their rows are only in the module `tables`, where the definitions read them.
use Rattle.std.specs.Prelude.{ℕ, if◌then◌else◌, List, [], ◌∷◌, map}
use Rattle.std.specs.Str.{bytes_eq}
use denote.Ref.{Bor}
use Rattle.file_tags.specs.declared.tables.TheConstants.{NAMES, EXTENSIONS, INTERPRETERS}

-- a name, and the tags that it gives
pub record TagRow : Type 0 where
  pub name : List ℕ
  pub tags : List (List ℕ)

-- the texts that references point to
abbrev pub texts_of : List (Bor (List ℕ)) → List (List ℕ)
texts_of = map (λ text. text.now)

-- the rows of a table, as the code looks them up
abbrev pub rows_of_tag_table : List (Bor (List ℕ) × Bor (List (Bor (List ℕ)))) → List TagRow
rows_of_tag_table = map (λ row. record { name = row.0.now; tags = texts_of row.1.now })

-- names of files, and of their pieces between dots
unfoldable pub name_rows : List TagRow
name_rows = map (λ row. record { name = row.0.now; tags = map (λ tag. tag.now) row.1.now }) NAMES

-- extensions of names
unfoldable pub extension_rows : List TagRow
extension_rows = map (λ row. record { name = row.0.now; tags = map (λ tag. tag.now) row.1.now }) EXTENSIONS

-- programs that scripts name in their first line
unfoldable pub interpreter_rows : List TagRow
interpreter_rows = map (λ row. record { name = row.0.now; tags = map (λ tag. tag.now) row.1.now }) INTERPRETERS

-- the tags of a name; none if no row has it
abbrev pub tags_in : List TagRow → List ℕ → List (List ℕ)
tags_in [] name = []
tags_in (row ∷ rows) name = if bytes_eq row.name name then row.tags else tags_in rows name

-- the first list if it has an item, otherwise the second
abbrev pub or_else : List (List ℕ) → List (List ℕ) → List (List ℕ)
or_else [] second = second
or_else (tag ∷ tags) second = tag ∷ tags

-- the tags of the first name that a row has; none if no row has any
abbrev pub tags_of_first : List TagRow → List (List ℕ) → List (List ℕ)
tags_of_first rows [] = []
tags_of_first rows (name ∷ names) = or_else (tags_in rows name) (tags_of_first rows names)
