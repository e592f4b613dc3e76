use Rattle.std.proofs.Common.{◌≡◌, ◌⊎◌, ◌<◌, ◌≤◌, ◌∙◌, ◌++◌, ◌∷◌, [], List, length, ap, sym, subst}
use Rattle.std.specs.List.{remove}
use Rattle.result_book.specs.declared.book_row.BookRow.{BookRow}
use Rattle.result_book.specs.Calls.{AfterPut, new_row}
use Rattle.result_book.specs.Contents.{IsBook, LackRow}
use Rattle.result_book.specs.Places.{IsBookRowAt, shown_rows}
use Rattle.result_book.proofs.PlaceLemmas.{going_put, going_within, left_by_put, put_in_room}
use Rattle.result_book.proofs.rows.put_row.Goals as goal

pub returns-in_default-clause-put : goal.returns-in_default-clause-put
returns-in_default-clause-put c =
    let none = subst (λ (rows : List BookRow). LackRow c.args.words.now c.args.seen.now rows × (length rows < c.args.limit)) c.as_slice.ensures.value c.in_default.ensures in
    subst (λ (rows : List BookRow). AfterPut c.args.words.now c.args.seen.now c.args.answer.now (shown_rows c.args.limit c.args.rows.now.items) (shown_rows c.args.limit rows))
    (sym (c.in_ok-push.ensures.items ∙ ap (λ (row : BookRow). c.args.rows.now.items ++ row ∷ []) c.in_ok-row.ensures))
    (left_by_put c.args.words.now c.args.seen.now c.args.answer.now c.args.limit c.args.rows.now.items (c.args.rows.now.items ++ new_row c.args.words.now c.args.seen.now c.args.answer.now ∷ [])
    c.requires
    (put_in_room c.args.words.now c.args.seen.now c.args.answer.now c.args.limit c.args.rows.now.items c.requires none.0 none.1)).0

pub returns-in_default-clause-book : goal.returns-in_default-clause-book
returns-in_default-clause-book c =
    let none = subst (λ (rows : List BookRow). LackRow c.args.words.now c.args.seen.now rows × (length rows < c.args.limit)) c.as_slice.ensures.value c.in_default.ensures in
    subst (λ (rows : List BookRow). IsBook (shown_rows c.args.limit rows))
    (sym (c.in_ok-push.ensures.items ∙ ap (λ (row : BookRow). c.args.rows.now.items ++ row ∷ []) c.in_ok-row.ensures))
    (left_by_put c.args.words.now c.args.seen.now c.args.answer.now c.args.limit c.args.rows.now.items (c.args.rows.now.items ++ new_row c.args.words.now c.args.seen.now c.args.answer.now ∷ [])
    c.requires
    (put_in_room c.args.words.now c.args.seen.now c.args.answer.now c.args.limit c.args.rows.now.items c.requires none.0 none.1)).1

pub take_out-requires : goal.take_out-requires
take_out-requires c =
    going_within c.args.words.now c.args.seen.now c.args.limit c.args.rows.now.items c.in-Some.index c.requires
    (subst (λ (rows : List BookRow). IsBookRowAt c.args.words.now c.args.seen.now rows c.in-Some.index
    ⊎ (LackRow c.args.words.now c.args.seen.now rows × ((c.in-Some.index ≡ 0) × (c.args.limit ≤ length rows)))) c.as_slice.ensures.value c.in-Some.ensures)

pub returns-clause-put : goal.returns-clause-put
returns-clause-put c =
    subst (λ (rows : List BookRow). AfterPut c.args.words.now c.args.seen.now c.args.answer.now (shown_rows c.args.limit c.args.rows.now.items) (shown_rows c.args.limit rows))
    (sym (c.put_last.ensures ∙ ap (λ (rows : List BookRow). rows ++ c.in_ok-row.row ∷ []) c.take_out.ensures.items
    ∙ ap (λ (row : BookRow). remove c.args.rows.now.items c.in-Some.index ++ row ∷ []) c.in_ok-row.ensures))
    (left_by_put c.args.words.now c.args.seen.now c.args.answer.now c.args.limit c.args.rows.now.items
    (remove c.args.rows.now.items c.in-Some.index ++ new_row c.args.words.now c.args.seen.now c.args.answer.now ∷ []) c.requires
    (going_put c.args.words.now c.args.seen.now c.args.answer.now c.args.limit c.args.rows.now.items c.in-Some.index c.requires
    (subst (λ (rows : List BookRow). IsBookRowAt c.args.words.now c.args.seen.now rows c.in-Some.index
    ⊎ (LackRow c.args.words.now c.args.seen.now rows × ((c.in-Some.index ≡ 0) × (c.args.limit ≤ length rows)))) c.as_slice.ensures.value c.in-Some.ensures))).0

pub returns-clause-book : goal.returns-clause-book
returns-clause-book c =
    subst (λ (rows : List BookRow). IsBook (shown_rows c.args.limit rows))
    (sym (c.put_last.ensures ∙ ap (λ (rows : List BookRow). rows ++ c.in_ok-row.row ∷ []) c.take_out.ensures.items
    ∙ ap (λ (row : BookRow). remove c.args.rows.now.items c.in-Some.index ++ row ∷ []) c.in_ok-row.ensures))
    (left_by_put c.args.words.now c.args.seen.now c.args.answer.now c.args.limit c.args.rows.now.items
    (remove c.args.rows.now.items c.in-Some.index ++ new_row c.args.words.now c.args.seen.now c.args.answer.now ∷ []) c.requires
    (going_put c.args.words.now c.args.seen.now c.args.answer.now c.args.limit c.args.rows.now.items c.in-Some.index c.requires
    (subst (λ (rows : List BookRow). IsBookRowAt c.args.words.now c.args.seen.now rows c.in-Some.index
    ⊎ (LackRow c.args.words.now c.args.seen.now rows × ((c.in-Some.index ≡ 0) × (c.args.limit ≤ length rows)))) c.as_slice.ensures.value c.in-Some.ensures))).1
