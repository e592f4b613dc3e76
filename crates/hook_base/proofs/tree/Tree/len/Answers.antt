use Rattle.std.proofs.Common.{ap, arith, length}
use Rattle.hook_base.proofs.MergedLemmas.{length-put_rows, rising_now}
use Rattle.hook_base.proofs.tree.Tree.len.Goals as goal

pub returns-clause-count : goal.returns-clause-count
returns-clause-count c =
    let all = length-put_rows c.self.inside.added.items c.self.inside.base c.self.invariant.0 c.self.invariant.2 in
    let shown = ap length c.self.view_is in
    omega (arith, c.len.ensures.count, c.len-2.ensures)

pub returns-clause-rising : goal.returns-clause-rising
returns-clause-rising c =
    rising_now c.self.inside.added.items c.self.inside.base c.args.self.now c.self.invariant.1 c.self.view_is
