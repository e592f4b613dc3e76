use Rattle.hook_run.proofs.NextLemmas.{told-next}
use Rattle.hook_run.proofs.plan_laws.a_told_plan_is_what_comes_next.Goals as goal

pub returns : goal.returns
returns c = told-next
