use Rattle.hook_run.proofs.CompletionLemmas.{can-follow}
use Rattle.hook_run.proofs.plan_laws.any_outcome_may_come_next.Goals as goal

pub returns : goal.returns
returns c = can-follow
