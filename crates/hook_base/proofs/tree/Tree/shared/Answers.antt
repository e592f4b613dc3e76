use Rattle.std.proofs.Common.{ap, arith, length}
use Rattle.hook_base.proofs.MergedLemmas.{length-put_rows, rising_now}
use Rattle.hook_base.proofs.tree.Tree.shared.Goals as goal

pub merged_row-requires-clause-within : goal.merged_row-requires-clause-within
merged_row-requires-clause-within c =
    let all = length-put_rows c.self.inside.added.items c.self.inside.base c.self.invariant.0 c.self.invariant.2 in
    let shown = ap length c.self.view_is in
    let added = ap length c.as_slice.ensures.value in
    omega (arith, c.requires)

pub returns-clause-rising : goal.returns-clause-rising
returns-clause-rising c =
    rising_now c.self.inside.added.items c.self.inside.base c.args.self.now c.self.invariant.1 c.self.view_is
