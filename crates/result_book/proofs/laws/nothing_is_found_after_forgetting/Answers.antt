use Rattle.result_book.specs.CallLemmas.{found_after_forget, count_after_forget}
use Rattle.result_book.proofs.laws.nothing_is_found_after_forgetting.Goals as goal

pub returns-clause-found : goal.returns-clause-found
returns-clause-found c = found_after_forget

pub returns-clause-count : goal.returns-clause-count
returns-clause-count c = count_after_forget
