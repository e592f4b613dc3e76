use Rattle.hook_run.proofs.RunLemmas.{seen-part}
use Rattle.hook_run.proofs.part_answer.outcome_of.Goals as goal

pub run-requires-clause-seen_of_tree : goal.run-requires-clause-seen_of_tree
run-requires-clause-seen_of_tree g c = seen-part c.args.plan.now c.seen.result.now c.tree.result.now c.seen.ensures c.tree.ensures
