use Rattle.std.proofs.Common.{◌≡◌, ◌++◌, All}
use Rattle.std.specs.Prelude.{Contains}
use Rattle.std.specs.Vec.Iter.{into_iter_items}
use Rattle.hookhost.specs.FileTrees.{HasRowAt}
use Rattle.hookhost.proofs.file_tree.tree_in_order.Given as goal

-- the tree holds the files so far
abbrev pub invariant-files : goal.invariant-files
invariant-files l = record {
  left : l.yielded ++ into_iter_items l.file-iterator ≡ l.fn.files.items;
  paths : All (λ file. HasRowAt l.tree file.path) l.yielded;
  rows : All (Contains l.fn.files.items) l.tree;
}
