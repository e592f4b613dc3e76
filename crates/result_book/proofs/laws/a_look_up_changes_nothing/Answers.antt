use Rattle.result_book.specs.CallLemmas.{count_after_find, found_after_find}
use Rattle.result_book.proofs.laws.a_look_up_changes_nothing.Goals as goal

pub returns-clause-found : goal.returns-clause-found
returns-clause-found c = found_after_find

pub returns-clause-count : goal.returns-clause-count
returns-clause-count c = count_after_find
