use Rattle.std.proofs.Common.{◌∙◌, arith}
use Rattle.repo_store.proofs.TreeLemmas.{log_step}
use Rattle.repo_store.proofs.trees.log_of.Goals as goal

pub loop-commit-preserved : goal.loop-commit-preserved
loop-commit-preserved c = record {
  number = let number = c.loop-commit.invariant.number in omega arith;
  log = (c.in_ok-push.ensures).items
      ∙ log_step c.args.history.now c.loop-commit.commit-index c.commit-item.result c.loop-commit.number c.in_ok-message.message c.loop-commit.log.items c.loop-commit-test.true c.commit-item.is
      c.loop-commit.invariant.number (c.in_ok-message.ensures).cases c.loop-commit.invariant.log;
}
