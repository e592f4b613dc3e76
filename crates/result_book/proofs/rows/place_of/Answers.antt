use Rattle.std.proofs.Common.{◌≡◌, ◌+◌, ℕ, List, suc, take, take_all, sym, subst, arith}
use Rattle.result_book.specs.declared.book_row.BookRow.{BookRow}
use Rattle.result_book.specs.Contents.{HasKey, LackRow}
use Rattle.result_book.proofs.PlaceLemmas.{key_at, lack_more}
use Rattle.result_book.proofs.rows.place_of.Goals as goal

pub returns-then-is_for : goal.returns-then-is_for
returns-then-is_for c =
    key_at c.args.words.now c.args.seen.now c.args.rows.now c.rows.index c.index-rows-index.result (omega arith)
    (subst (λ (row : BookRow). HasKey c.args.words.now c.args.seen.now row) c.index-rows-index.is (c.is_for.ensures.0 c.if-is_for.true))

pub rows-preserved : goal.rows-preserved
rows-preserved c =
    let next : suc c.rows.index ≡ c.rows.index + 1 = omega arith in
    subst (λ (n : ℕ). LackRow c.args.words.now c.args.seen.now (take n c.args.rows.now)) next
    (lack_more c.args.words.now c.args.seen.now c.args.rows.now c.rows.index c.index-rows-index.result (omega arith) c.rows.invariant
    (λ key. let is_for = c.is_for.ensures.1 (subst (λ (row : BookRow). HasKey c.args.words.now c.args.seen.now row) (sym c.index-rows-index.is) key) in let is_not = c.if-is_for.false in cc))

pub returns : goal.returns
returns c =
    subst (λ (rows : List BookRow). LackRow c.args.words.now c.args.seen.now rows) (take_all c.rows.index c.args.rows.now c.rows-test.false) c.rows.invariant
