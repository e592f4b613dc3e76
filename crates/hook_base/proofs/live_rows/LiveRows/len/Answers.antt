use Rattle.std.proofs.Common.{arith, subst}
use Rattle.hook_base.specs.Trees.{IsRising}
use Rattle.hook_base.proofs.OverlayLemmas.{IsRising-live_rows, live_count}
use Rattle.hook_base.proofs.live_rows.LiveRows.len.Goals as goal

pub returns-clause-count : goal.returns-clause-count
returns-clause-count c =
    let count = live_count c.self.inside.base c.self.inside.states.items c.self.inside.live.items c.args.self.now c.self.invariant.1 c.self.invariant.2 c.self.view_is in
    omega (arith, c.len.ensures)

pub returns-clause-rising : goal.returns-clause-rising
returns-clause-rising c =
    subst IsRising c.self.view_is (IsRising-live_rows c.self.inside.base c.self.inside.states.items c.self.invariant.1 c.self.invariant.0)
