use Rattle.std.proofs.Common.{SFits, w64, rules, to_z-of_z, arith}
use Rattle.repo_store.proofs.FollowLemmas.{fall_more, ticks_more}
use Rattle.repo_store.proofs.from_rows.uses.next_after.Goals as goal

pub uses-preserved : goal.uses-preserved
uses-preserved c =
    let row = c.row-item.result in
    let fits : SFits w64 row.tick = search rules in
    let same = rw (to_z-of_z fits) at c.in_ok-tick.ensures.tick in
    let above = c.if-tick-next.false in
    let first = c.in_ok-tick.ensures.first in
    let last = c.in_ok-tick.ensures.last in
    record {
      next = record { first = omega arith; last = omega arith };
      ticks = ticks_more c.args.uses.now c.uses.row-index row c.in_ok-tick.tick c.uses-test.true c.row-item.is same c.uses.invariant.ticks;
      fall = fall_more c.args.uses.now c.uses.row-index row c.uses.next c.in_ok-tick.tick c.uses-test.true c.row-item.is same first above c.uses.invariant.fall;
    }
