use Rattle.std.proofs.Common.{map, reverse, take}
use Rattle.repo_store.specs.FromRows.{HaveTicks, tick_of}
use Rattle.repo_store.specs.ListedAnswers.{IsNextTick}
use Rattle.repo_store.specs.UsesOf.{FallBelow}
use Rattle.repo_store.proofs.from_rows.uses.next_after.Given as goal

abbrev pub invariant-uses : goal.invariant-uses
invariant-uses l = record { next : IsNextTick l.next; ticks : HaveTicks (take l.row-index l.uses); fall : FallBelow l.next (map tick_of (reverse (take l.row-index l.uses))) }
