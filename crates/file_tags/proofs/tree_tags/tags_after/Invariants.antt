use Rattle.std.proofs.Common.{◌≡◌, ◌++◌, ◌+◌, ◌-◌, ◌≤◌, drop, length}
use Rattle.file_tags.specs.TagTables.{texts_of}
use Rattle.file_tags.specs.TreeTags.{tags_of_tree}
use Rattle.file_tags.proofs.ChangedLemmas.{rows_in}
use Rattle.file_tags.proofs.FollowLemmas.{AreLeft}
use Rattle.file_tags.proofs.tree_tags.tags_after.Given as goal

abbrev pub invariant-rows : goal.invariant-rows
invariant-rows l =
    (l.index ≤ length l.old) × (l.next ≤ length (texts_of l.paths))
    × AreLeft (drop l.next (texts_of l.paths)) (texts_of l.paths) (drop l.index l.old)
    × (l.after.items ++ tags_of_tree (rows_in l.new (drop l.index l.old)) ≡ tags_of_tree l.new)

abbrev pub decreases-rows : goal.decreases-rows
decreases-rows l = (length l.old - l.index) + (length (texts_of l.paths) - l.next)
