use Rattle.std.proofs.Common.{◌≡◌, ◌∙◌, ◌++◌, ◌∷◌, [], List, length, rules, arith, ap, sym, subst}
use Rattle.child_port.specs.declared.answer.Answer.{Answer}
use Rattle.result_book.specs.declared.book_row.BookRow.{BookRow}
use Rattle.result_book.specs.Calls.{brought}
use Rattle.result_book.specs.Contents.{HaveRow, LackRow}
use Rattle.result_book.specs.Places.{IsBookRowAt, shown_rows}
use Rattle.result_book.proofs.PlaceLemmas.{at_have, at_within, have_back, lack_reversed, moved, unmoved}
use Rattle.result_book.proofs.rows.found_in.Goals as goal

pub returns-in_default-clause-found : goal.returns-in_default-clause-found
returns-in_default-clause-found c =
    λ limit. lack_reversed c.args.words.now c.args.seen.now c.args.rows.now.items
    (subst (λ (rows : List BookRow). LackRow c.args.words.now c.args.seen.now rows) c.as_slice.ensures.value c.in_default.ensures)

pub returns-in_default-clause-brought : goal.returns-in_default-clause-brought
returns-in_default-clause-brought c =
    λ limit. unmoved c.args.words.now c.args.seen.now limit c.args.rows.now.items
    (subst (λ (rows : List BookRow). LackRow c.args.words.now c.args.seen.now rows) c.as_slice.ensures.value c.in_default.ensures)

pub index-requires : goal.index-requires
index-requires c = let within = at_within c.args.words.now c.args.seen.now c.as_slice.result.now c.in-Some.index c.in-Some.ensures in let as_many = ap length c.as_slice.ensures.value in omega arith

pub take_out-row-requires : goal.take_out-row-requires
take_out-row-requires c =
    at_within c.args.words.now c.args.seen.now c.args.rows.now.items c.in-Some.index
    (subst (λ (rows : List BookRow). IsBookRowAt c.args.words.now c.args.seen.now rows c.in-Some.index) c.as_slice.ensures.value c.in-Some.ensures)

pub returns-clause-found : goal.returns-clause-found
returns-clause-found c = λ limit.
    let at = subst (λ (rows : List BookRow). IsBookRowAt c.args.words.now c.args.seen.now rows c.in-Some.index) c.as_slice.ensures.value c.in-Some.ensures in
    let copied : c.index.result.now.answer ≡ c.in_ok-answer.answer = search rules in
    have_back c.args.words.now c.args.seen.now c.in_ok-answer.answer c.args.rows.now.items
    (subst (λ (answer : Answer). HaveRow c.args.words.now c.args.seen.now answer c.args.rows.now.items) (ap (λ (row : BookRow). row.answer) (sym c.index.ensures) ∙ copied)
    (at_have c.args.words.now c.args.seen.now c.args.rows.now.items c.in-Some.index c.index.result.now at))

pub returns-clause-brought : goal.returns-clause-brought
returns-clause-brought c = λ limit.
    let at = subst (λ (rows : List BookRow). IsBookRowAt c.args.words.now c.args.seen.now rows c.in-Some.index) c.as_slice.ensures.value c.in-Some.ensures in
    subst (λ (rows : List BookRow). shown_rows limit rows ≡ brought c.args.words.now c.args.seen.now (shown_rows limit c.args.rows.now.items))
    (sym (c.put_last.ensures ∙ ap (λ (rows : List BookRow). rows ++ c.take_out-row.result ∷ []) c.take_out-row.ensures.items))
    (moved c.args.words.now c.args.seen.now limit c.args.rows.now.items c.in-Some.index c.take_out-row.result c.requires at c.take_out-row.ensures.value)
