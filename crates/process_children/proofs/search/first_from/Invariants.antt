use Rattle.std.proofs.Common.{◌-◌, ◌≤◌}
use Rattle.process_children.proofs.search.first_from.Given as goal

abbrev pub invariant-halves : goal.invariant-halves
invariant-halves l = l.low ≤ l.high

abbrev pub decreases-halves : goal.decreases-halves
decreases-halves l = l.high - l.low
