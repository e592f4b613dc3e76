use Rattle.std.proofs.Common.{◌-◌, ◌≤◌, length, All}
use Rattle.arg_partition.specs.Parts.{Adjoin, IsPart}
use Rattle.arg_partition.specs.Rooms.{fits_room}
use Rattle.arg_partition.proofs.command_parts.cuts_of.Given as goal

abbrev pub invariant-parts : goal.invariant-parts
invariant-parts l =
    (l.start ≤ length l.names) × Adjoin 0 l.cuts.items l.start × All (IsPart (fits_room l.room) l.most l.names) l.cuts.items

abbrev pub decreases-parts : goal.decreases-parts
decreases-parts l = length l.names - l.start
