use Rattle.hook_base.proofs.MergedLemmas.{rising_now}
use Rattle.hook_base.proofs.tree.Tree.put.Goals as goal

pub returns-in_err-row-clause-rising : goal.returns-in_err-row-clause-rising
returns-in_err-row-clause-rising c =
    rising_now c.self.inside.added.items c.self.inside.base c.args.self.now c.self.invariant.1 c.self.view_is
