use Rattle.hook_run.specs.OneRunLemmas.{same-out}
use Rattle.hook_run.proofs.laws.parts_decide_what_is_given.Goals as goal

pub returns : goal.returns
returns c = same-out
