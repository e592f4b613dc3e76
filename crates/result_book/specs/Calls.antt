-- What each call of a book changes, exactly. A look-up moves its row to the front; a put adds one there and
-- may drop the last. The limit stays. The other fields of the records follow from that, for books whose keys
-- are distinct.
use Rattle.std.specs.Prelude.{◌≡◌, ◌⊎◌, ℕ, List, [], ◌∷◌, take}
use Rattle.std.specs.List.{cons_option}
use Rattle.child_port.specs.declared.answer.Answer.{Answer}
use Rattle.hook_base.specs.declared.file.File.{File}
use Rattle.result_book.specs.declared.book_row.BookRow.{BookRow}
use Rattle.result_book.specs.Contents.{Contents, HaveDistinctKeys, Holds, other_rows, row_for, with_rows}

-- ---- a look-up

-- the row of the words and the seen files in front, and then the others in their order; without such a row,
-- all as they were
abbrev pub brought_rows : List (List ℕ) → List File → List BookRow → List BookRow
brought_rows words seen rows = cons_option (row_for words seen rows) (other_rows words seen rows)

abbrev pub brought : List (List ℕ) → List File → Contents → Contents
brought words seen contents = with_rows contents.limit (brought_rows words seen contents.rows)

-- After a look-up the row of the words and the seen files is in front. The answers are the same as before.
pub record AfterFind (words : List (List ℕ)) (seen : List File) (before after : Contents) : Type 0 where
  pub is : after ≡ brought words seen before
  pub kept : (others : List (List ℕ)) (theirs : List File) (answer : Answer) → Holds others theirs answer before
      → Holds others theirs answer after
  pub only : (others : List (List ℕ)) (theirs : List File) (answer : Answer) → Holds others theirs answer after
      → Holds others theirs answer before
  pub distinct : HaveDistinctKeys after.rows

-- ---- a put

-- two keys are the same
abbrev pub IsSameKey : List (List ℕ) → List File → List (List ℕ) → List File → Type 0
IsSameKey words seen others theirs = (words ≡ others) × (seen ≡ theirs)

abbrev pub new_row : List (List ℕ) → List File → Answer → BookRow
new_row words seen answer = record { words = words; seen = seen; answer = answer }

-- the new row in front, then those of other keys in their order, and of all these at most as many as the
-- limit
abbrev pub with_row : List (List ℕ) → List File → Answer → Contents → Contents
with_row words seen answer contents =
    with_rows contents.limit (take contents.limit (new_row words seen answer ∷ other_rows words seen contents.rows))

-- After a put the answer is in front, and is the only one for its words and seen files. What other keys have,
-- they had before; of that, only the last row may be gone.
pub record AfterPut (words : List (List ℕ)) (seen : List File) (answer : Answer)
    (before after : Contents) : Type 0 where
  pub is : after ≡ with_row words seen answer before
  pub put : Holds words seen answer after
  pub replaced : (other : Answer) → Holds words seen other after → other ≡ answer
  pub only : (others : List (List ℕ)) (theirs : List File) (other : Answer) → Holds others theirs other after
      → (IsSameKey others theirs words seen × (other ≡ answer)) ⊎ Holds others theirs other before
  pub distinct : HaveDistinctKeys after.rows

-- ---- removing all answers

-- After a book has forgotten, it has no answers. The limit stays.
pub record AfterForget (before after : Contents) : Type 0 where
  pub none : after.rows ≡ []
  pub limit : after.limit ≡ before.limit
