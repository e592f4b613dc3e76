use Rattle.hook_run.specs.PlanBounds.{most_left}
use Rattle.run_trial.proofs.child_runs.plan_over.Given as goal

abbrev pub decreases-children : goal.decreases-children
decreases-children l = most_left l.plan
