use Rattle.std.proofs.Common.{◌≡◌, take}
use Rattle.child_port.specs.Indexes.{is_indexed}
use Rattle.child_port.specs.SeenLemmas.{files_where}
use Rattle.child_port.proofs.indexed_files.put_indexed.Given as goal

-- the files at the indexes so far
abbrev pub invariant-indexes : goal.invariant-indexes
invariant-indexes l = l.files ≡ files_where (is_indexed l.tree (take l.index-index l.indexes)) l.tree
