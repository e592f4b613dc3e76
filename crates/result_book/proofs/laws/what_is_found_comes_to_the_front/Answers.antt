use Rattle.result_book.specs.CallLemmas.{front_after_find, same_after_find}
use Rattle.result_book.proofs.laws.what_is_found_comes_to_the_front.Goals as goal

pub returns-clause-found : goal.returns-clause-found
returns-clause-found c = front_after_find

pub returns-clause-lacked : goal.returns-clause-lacked
returns-clause-lacked c = same_after_find
