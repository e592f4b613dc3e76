use Rattle.std.proofs.Common.{List, subst}
use Rattle.result_book.specs.declared.book_row.BookRow.{BookRow}
use Rattle.result_book.specs.Contents.{Contents, IsHeld}
use Rattle.result_book.specs.Places.{shown_rows}
use Rattle.result_book.proofs.list_book.ListBookBook.holds.Goals as goal

pub returns-clause-held : goal.returns-clause-held
returns-clause-held c =
    subst (λ (book : Contents). IsHeld c.args.words.now c.args.seen.now book c.is_held.result) c.self.view_is
    (subst (λ (rows : List BookRow). IsHeld c.args.words.now c.args.seen.now (shown_rows c.self.inside.limit rows) c.is_held.result) c.as_slice.ensures.value
    (c.is_held.ensures c.self.inside.limit))
