-- The index of the row of a key among rows whose last one is the most recently used, and which row a put
-- drops. This serves private functions alone.
use Rattle.std.specs.Prelude.{◌≡◌, ◌⊎◌, ◌≤◌, ◌<◌, ℕ, zero, suc, List, [], ◌∷◌, length, reverse, Option, None, Some}
use Rattle.hook_base.specs.declared.file.File.{File}
use Rattle.result_book.specs.declared.book_row.BookRow.{BookRow}
use Rattle.result_book.specs.Contents.{Contents, HasKey, LackRow, with_rows}

-- the contents with this limit and these rows, of which the last one is the most recently used
abbrev pub shown_rows : ℕ → List BookRow → Contents
shown_rows limit rows = with_rows limit (reverse rows)

abbrev pub IsBookRowAt : List (List ℕ) → List File → List BookRow → ℕ → Type 0
IsBookRowAt words seen [] index = ⊥
IsBookRowAt words seen (row ∷ rows) zero = HasKey words seen row
IsBookRowAt words seen (row ∷ rows) (suc index) = IsBookRowAt words seen rows index

abbrev pub IsBookPlace : List (List ℕ) → List File → List BookRow → Option ℕ → Type 0
IsBookPlace words seen rows None = LackRow words seen rows
IsBookPlace words seen rows (Some index) = IsBookRowAt words seen rows index

-- a put drops the row of the words and the seen files, or the first one if they have none and the limit is
-- reached
abbrev pub IsGoing : List (List ℕ) → List File → ℕ → List BookRow → Option ℕ → Type 0
IsGoing words seen limit rows None = LackRow words seen rows × (length rows < limit)
IsGoing words seen limit rows (Some index) =
    IsBookRowAt words seen rows index ⊎ (LackRow words seen rows × ((index ≡ 0) × (limit ≤ length rows)))
