use Rattle.hook_run.proofs.CompletionLemmas.{can-complete}
use Rattle.hook_run.proofs.plan_laws.each_plan_can_be_completed.Goals as goal

pub returns : goal.returns
returns c = can-complete
