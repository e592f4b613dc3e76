use Rattle.std.proofs.Common.{◌-◌, ◌≤◌, length}
use Rattle.hook_base.specs.Overlays.{From, UpTo}
use Rattle.path_select.proofs.index.index_of.Given as goal

abbrev pub invariant-halves : goal.invariant-halves
invariant-halves l = (l.low ≤ l.high) × (l.high ≤ length l.tree) × UpTo l.path l.tree l.low × From l.path l.tree l.high

abbrev pub decreases-halves : goal.decreases-halves
decreases-halves l = l.high - l.low
