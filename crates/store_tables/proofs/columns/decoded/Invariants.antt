use Rattle.std.proofs.Common.{◌≡◌, map, drop}
use Rattle.store_tables.proofs.columns.decoded.Given as goal

abbrev pub invariant-loop-row : goal.invariant-loop-row
invariant-loop-row g l = map g.T.FromColumns.cells l.items.items ≡ map (drop l.first) l.yielded
