use Rattle.result_book.specs.KeyLemmas.{Finds-one}
use Rattle.result_book.proofs.laws.one_thing_is_found.Goals as goal

pub returns : goal.returns
returns c = Finds-one
