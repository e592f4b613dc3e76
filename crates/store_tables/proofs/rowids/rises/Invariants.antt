use Rattle.std.proofs.Common.{take}
use Rattle.store_tables.proofs.RisingLemmas.{RisesTo}
use Rattle.store_tables.proofs.rowids.rises.Given as goal

abbrev pub invariant-loop-number : goal.invariant-loop-number
invariant-loop-number l = RisesTo (take l.number-index l.numbers) l.last
