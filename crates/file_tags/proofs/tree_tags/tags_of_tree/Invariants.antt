use Rattle.std.proofs.Common.{◌≡◌, ◌++◌, drop}
use Rattle.file_tags.specs.TreeTags.{tags_of_tree}
use Rattle.file_tags.proofs.tree_tags.tags_of_tree.Given as goal

abbrev pub invariant-rows : goal.invariant-rows
invariant-rows l = l.tags.items ++ tags_of_tree (drop l.index l.tree) ≡ tags_of_tree l.tree
