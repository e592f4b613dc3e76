use Rattle.std.proofs.Common.{◌≤◌, length, take}
use Rattle.child_port.proofs.IndexLemmas.{HasFirst}
use Rattle.child_port.proofs.indexed_files.are_all.Given as goal

-- each index up to the next one is among those so far
abbrev pub invariant-indexes : goal.invariant-indexes
invariant-indexes l = (l.next ≤ length l.tree) × HasFirst l.next l.tree (take l.index-index l.indexes)
