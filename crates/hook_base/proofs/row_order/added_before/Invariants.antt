use Rattle.std.proofs.Common.{◌+◌, ◌-◌, ◌<◌, ◌≤◌, length, get_or}
use Rattle.hook_base.specs.declared.file.File.{File}
use Rattle.hook_base.specs.Overlays.{UpTo}
use Rattle.hook_base.proofs.row_order.added_before.Given as goal

-- the added rows before `low` stand before the index, and those from `high` on don't
abbrev pub invariant-halves : goal.invariant-halves
invariant-halves l =
    (l.low ≤ l.high) × (l.high ≤ l.index) × (l.high ≤ length l.added) × (l.index ≤ l.low + length l.base)
    × ((next : File) → l.index < l.low + length l.base → UpTo (get_or l.base (l.index - l.low) next).path l.added l.low)
    × ((next : File) → l.high < length l.added → UpTo (get_or l.added l.high next).path l.base (l.index - l.high))

abbrev pub decreases-halves : goal.decreases-halves
decreases-halves l = l.high - l.low
