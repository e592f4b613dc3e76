use Rattle.run_trial.proofs.PlanLemmas.{seen-part}
use Rattle.run_trial.proofs.child_runs.plan_over.Goals as goal

pub run-requires-clause-seen_of_tree : goal.run-requires-clause-seen_of_tree
run-requires-clause-seen_of_tree c = seen-part c.children.plan c.seen.result.now c.tree.result.now c.seen.ensures c.tree.ensures
