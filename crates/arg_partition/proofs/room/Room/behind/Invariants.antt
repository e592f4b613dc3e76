use Rattle.std.proofs.Common.{false, take}
use Rattle.arg_partition.specs.Rooms.{LeavesRoom}
use Rattle.arg_partition.proofs.room.Room.behind.Given as goal

abbrev pub invariant-words : goal.invariant-words
invariant-words l = LeavesRoom (record { left = l.limit; begun = false }) (take l.word-index l.words) l.room
