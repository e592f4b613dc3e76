use Rattle.std.proofs.Common.{take}
use Rattle.child_port.specs.Indexes.{AreIndexesOf}
use Rattle.child_port.specs.Seen.{is_seen_path}
use Rattle.child_port.proofs.seen_indexes.seen_indexes.Given as goal

-- the indexes of the words so far
abbrev pub invariant-words : goal.invariant-words
invariant-words l = AreIndexesOf (is_seen_path (take l.word-index l.words) l.extra) l.tree l.indexes.items
