use Rattle.hook_run.proofs.SomeRunLemmas.{answered-out}
use Rattle.hook_run.proofs.laws.there_is_a_run.Goals as goal

pub returns : goal.returns
returns c = answered-out
