use Rattle.std.proofs.Common.{◌≡◌, ◌+◌, map, take}
use Rattle.store_faults.specs.Limits.{path_bytes, most_tree_path_bytes}
use Rattle.repo_store.specs.Lists.{file_of}
use Rattle.repo_store.proofs.files.fit.Given as goal

abbrev pub invariant-files : goal.invariant-files
invariant-files l = l.left + path_bytes (map file_of (take l.file-index l.files)) ≡ most_tree_path_bytes
