use Rattle.std.proofs.Common.{◌≡◌, map, take}
use Rattle.repo_store.specs.Lists.{file_of}
use Rattle.repo_store.proofs.trees.tree_of.Given as goal

abbrev pub invariant-loop-file : goal.invariant-loop-file
invariant-loop-file l = l.tree ≡ map file_of (take l.file-index l.files)
