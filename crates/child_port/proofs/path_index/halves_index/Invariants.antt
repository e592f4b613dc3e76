use Rattle.std.proofs.Common.{◌-◌, ◌≤◌, length}
use Rattle.child_port.proofs.SearchLemmas.{EarlierBelow, LaterAbove}
use Rattle.child_port.proofs.path_index.halves_index.Given as goal

abbrev pub invariant-halves : goal.invariant-halves
invariant-halves l =
    (l.low ≤ l.high) × (l.high ≤ length l.tree) × EarlierBelow l.path l.tree l.low × LaterAbove l.path l.tree l.high

abbrev pub decreases-halves : goal.decreases-halves
decreases-halves l = l.high - l.low
