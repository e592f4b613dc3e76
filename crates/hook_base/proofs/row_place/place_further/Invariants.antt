use Rattle.std.proofs.Common.{◌-◌, ◌<◌, ◌≤◌, length}
use Rattle.hook_base.specs.Overlays.{UpTo}
use Rattle.hook_base.proofs.row_place.place_further.Given as goal

abbrev pub invariant-steps : goal.invariant-steps
invariant-steps l = (l.near < l.high) × (l.low ≤ l.high) × (l.high ≤ length l.rows) × UpTo l.path l.rows l.low

abbrev pub decreases-steps : goal.decreases-steps
decreases-steps l = length l.rows - l.high
