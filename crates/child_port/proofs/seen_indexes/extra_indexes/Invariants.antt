use Rattle.std.proofs.Common.{take, []}
use Rattle.child_port.specs.Indexes.{AreIndexesOf}
use Rattle.child_port.specs.Seen.{is_seen_path}
use Rattle.child_port.proofs.seen_indexes.extra_indexes.Given as goal

-- the indexes of the paths so far
abbrev pub invariant-extra : goal.invariant-extra
invariant-extra l = AreIndexesOf (is_seen_path [] (take l.path-index l.extra)) l.tree l.indexes.items
