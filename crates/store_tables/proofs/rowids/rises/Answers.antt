use Rattle.std.proofs.Common.{SFits, w64, rules, to_z-of_z, pos, get_or, refl}
use Rattle.store_tables.proofs.RisingLemmas.{rises_at}
use Rattle.store_tables.proofs.rowids.rises.Goals as goal

pub loop-number-preserved : goal.loop-number-preserved
loop-number-preserved c =
    let fits : SFits w64 (get_or c.args.numbers.now c.loop-number.number-index (pos 0)) = search rules in
    let below = rw (to_z-of_z fits) at (c.if-not-is_below.ensures refl) in
    rw (to_z-of_z fits) (rises_at c.args.numbers.now c.loop-number.number-index c.loop-number.last (pos 0) c.loop-number-test.true c.loop-number.invariant below)
