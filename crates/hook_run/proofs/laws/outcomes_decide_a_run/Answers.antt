use Rattle.hook_run.specs.OneRunLemmas.{next-of}
use Rattle.hook_run.proofs.laws.outcomes_decide_a_run.Goals as goal

pub returns : goal.returns
returns c = next-of
