-- The contents of a book: rows, one for each words and seen files, the most recently used first, and their
-- limit. A key finds its answer whatever the order; the order says which row is dropped first.
use Rattle.std.specs.Prelude.{◌≡◌, ◌⊎◌, ◌≤◌, ℕ, Bool, true, false, ◌&&◌, not, List, [], ◌∷◌, length, filter, Option, None, Some}
use Rattle.std.specs.Cmp.Lexicographic.{pointwise}
use Rattle.std.specs.List.{find}
use Rattle.std.specs.Str.{bytes_eq}
use Rattle.child_port.specs.declared.answer.Answer.{Answer}
use Rattle.hook_base.specs.declared.file.File.{File}
use Rattle.hook_base.specs.SameFiles.{is_same_file}
use Rattle.store_faults.specs.Limits.{IsLimit}
use Rattle.result_book.specs.declared.book_row.BookRow.{BookRow}

pub record Contents : Type 0 where
  -- the most recently used first
  pub rows : List BookRow
  -- the most rows that may be cached
  pub limit : ℕ

-- the contents with this limit and these rows
abbrev pub with_rows : ℕ → List BookRow → Contents
with_rows limit rows = record { rows = rows; limit = limit }

-- the contents of an empty book with this limit
abbrev pub nothing : ℕ → Contents
nothing limit = with_rows limit []

-- the key of a row: its words, and its seen files with their modes and bytes
abbrev pub HasKey : List (List ℕ) → List File → BookRow → Type 0
HasKey words seen row = (row.words ≡ words) × (row.seen ≡ seen)

-- one of the rows has this answer for the words and the seen files
abbrev pub HaveRow : List (List ℕ) → List File → Answer → List BookRow → Type 0
HaveRow words seen answer [] = ⊥
HaveRow words seen answer (row ∷ rows) =
    (HasKey words seen row × (row.answer ≡ answer)) ⊎ HaveRow words seen answer rows

-- no row is for the words and the seen files
abbrev pub LackRow : List (List ℕ) → List File → List BookRow → Type 0
LackRow words seen rows = (answer : Answer) → ¬ HaveRow words seen answer rows

-- no two rows have the same key
abbrev pub HaveDistinctKeys : List BookRow → Type 0
HaveDistinctKeys [] = Unit {0}
HaveDistinctKeys (row ∷ rows) = LackRow row.words row.seen rows × HaveDistinctKeys rows

-- no two rows have the same key, and there are no more than the limit, which is from 1 to 100,000
pub record IsBook (contents : Contents) : Type 0 where
  pub distinct : HaveDistinctKeys contents.rows
  pub within : length contents.rows ≤ contents.limit
  pub limited : IsLimit contents.limit

-- ---- what is held

-- the answer is cached for the words and the seen files
abbrev pub Holds : List (List ℕ) → List File → Answer → Contents → Type 0
Holds words seen answer contents = HaveRow words seen answer contents.rows

-- no answer is cached for the words and the seen files
abbrev pub Lacks : List (List ℕ) → List File → Contents → Type 0
Lacks words seen contents = LackRow words seen contents.rows

-- what is cached for the words and the seen files
abbrev pub Finds : List (List ℕ) → List File → Contents → Option Answer → Type 0
Finds words seen contents None = Lacks words seen contents
Finds words seen contents (Some answer) = Holds words seen answer contents

-- whether an answer is cached for the words and the seen files
abbrev pub IsHeld : List (List ℕ) → List File → Contents → Bool → Type 0
IsHeld words seen contents false = Lacks words seen contents
IsHeld words seen contents true = (answer : Answer) × Holds words seen answer contents

-- how many answers are cached
abbrev pub count_of : Contents → ℕ
count_of contents = length contents.rows

-- ---- the row of a key, and the others

-- the row's key is these words and these seen files, with their modes and bytes
abbrev pub is_row_for : List (List ℕ) → List File → BookRow → Bool
is_row_for words seen row = pointwise bytes_eq row.words words && pointwise is_same_file row.seen seen

-- the row of the words and the seen files, if there is one
abbrev pub row_for : List (List ℕ) → List File → List BookRow → Option BookRow
row_for words seen rows = find (is_row_for words seen) rows

-- the rows of other keys, in their order
abbrev pub other_rows : List (List ℕ) → List File → List BookRow → List BookRow
other_rows words seen rows = filter (λ row. not (is_row_for words seen row)) rows
