use Rattle.std.proofs.Common.{◌-◌, ◌≤◌, length, slice_range}
use Rattle.arg_partition.specs.Rooms.{LeavesRoom}
use Rattle.arg_partition.proofs.command_parts.part_end.Given as goal

abbrev pub invariant-names : goal.invariant-names
invariant-names l =
    (l.start ≤ l.end) × (l.end ≤ length l.names) × (l.end - l.start ≤ l.most)
    × LeavesRoom l.fn.room (slice_range l.names l.start l.end) l.rest

abbrev pub decreases-names : goal.decreases-names
decreases-names l = length l.names - l.end
