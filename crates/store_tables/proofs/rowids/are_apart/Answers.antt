use Rattle.store_tables.specs.Rowids.{AreRisingRowids}
use Rattle.store_tables.proofs.RisingLemmas.{distinct_before}
use Rattle.std.proofs.Common.{subst}
use Rattle.store_tables.proofs.rowids.are_apart.Goals as goal

pub returns : goal.returns
returns c told = distinct_before c.args.numbers.now.items c.sort_unstable.new.self.items c.sort_unstable.ensures.permutation (subst AreRisingRowids c.deref.ensures.value (c.rises.ensures told))
