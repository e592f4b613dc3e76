use Rattle.std.proofs.Common.{arith, subst}
use Rattle.result_book.specs.declared.book_row.BookRow.{BookRow}
use Rattle.result_book.specs.Contents.{HasKey}
use Rattle.result_book.proofs.PlaceLemmas.{key_at}
use Rattle.result_book.proofs.rows.place_near.Goals as goal

pub returns-then-is_for : goal.returns-then-is_for
returns-then-is_for c =
    key_at c.args.words.now c.args.seen.now c.args.rows.now c.args.near c.index-rows-near.result (omega arith)
    (subst (λ (row : BookRow). HasKey c.args.words.now c.args.seen.now row) c.index-rows-near.is (c.is_for.ensures.0 c.if-is_for.true))
