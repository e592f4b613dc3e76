use Rattle.std.proofs.Common.{◌-◌, ◌≤◌, length}
use Rattle.hook_base.specs.Overlays.{From, UpTo}
use Rattle.hook_base.proofs.row_place.place_among.Given as goal

abbrev pub invariant-halves : goal.invariant-halves
invariant-halves l = (l.low ≤ l.high) × (l.high ≤ length l.rows) × UpTo l.path l.rows l.low × From l.path l.rows l.high

abbrev pub decreases-halves : goal.decreases-halves
decreases-halves l = l.high - l.low
