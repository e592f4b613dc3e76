use Rattle.result_book.specs.CallLemmas.{same_count}
use Rattle.result_book.proofs.laws.books_that_hold_the_same_are_as_long.Goals as goal

pub returns : goal.returns
returns c = same_count
