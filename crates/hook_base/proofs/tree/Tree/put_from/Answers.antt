use Rattle.hook_base.proofs.MergedLemmas.{rising_now}
use Rattle.hook_base.proofs.tree.Tree.put_from.Goals as goal

pub returns-in_err-clone-in-Some-clause-rising : goal.returns-in_err-clone-in-Some-clause-rising
returns-in_err-clone-in-Some-clause-rising c =
    rising_now c.self.inside.added.items c.self.inside.base c.args.self.now c.self.invariant.1 c.self.view_is

pub returns-in-None-clause-rising : goal.returns-in-None-clause-rising
returns-in-None-clause-rising c =
    rising_now c.self.inside.added.items c.self.inside.base c.args.self.now c.self.invariant.1 c.self.view_is
