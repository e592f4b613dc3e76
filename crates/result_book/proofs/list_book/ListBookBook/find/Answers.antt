use Rattle.std.proofs.Common.{subst, sym}
use Rattle.result_book.specs.Calls.{AfterFind}
use Rattle.result_book.specs.Contents.{Contents, Finds, IsBook}
use Rattle.result_book.specs.OrderLemmas.{after_found, book_found}
use Rattle.result_book.specs.Places.{shown_rows}
use Rattle.result_book.proofs.list_book.ListBookBook.find.Goals as goal

pub invariant_of-self-2 : goal.invariant_of-self-2
invariant_of-self-2 c =
    subst IsBook (sym (c.in_ok-found_in.ensures.brought c.self.inside.limit)) (book_found c.args.words.now c.args.seen.now (shown_rows c.self.inside.limit c.self.inside.rows.items) c.self.invariant)

pub returns-clause-found : goal.returns-clause-found
returns-clause-found c =
    subst (λ (book : Contents). Finds c.args.words.now c.args.seen.now book c.in_ok-found_in.field-0) c.self.view_is (c.in_ok-found_in.ensures.found c.self.inside.limit)

pub returns-clause-after : goal.returns-clause-after
returns-clause-after c =
    let before = shown_rows c.self.inside.limit c.self.inside.rows.items in
    let after = shown_rows c.self.inside.limit c.found_in.new.rows.items in
    subst (λ (book : Contents). AfterFind c.args.words.now c.args.seen.now book after) c.self.view_is
    (after_found c.args.words.now c.args.seen.now before after c.self.invariant.distinct (c.in_ok-found_in.ensures.brought c.self.inside.limit))
