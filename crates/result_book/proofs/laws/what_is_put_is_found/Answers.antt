use Rattle.result_book.specs.CallLemmas.{found_after_put}
use Rattle.result_book.proofs.laws.what_is_put_is_found.Goals as goal

pub returns : goal.returns
returns c = found_after_put
