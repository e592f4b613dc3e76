use Rattle.std.proofs.Common.{◌≡◌, take}
use Rattle.path_select.specs.Candidates.{paths_of}
use Rattle.path_select.proofs.sorted_paths.borrowed.Given as goal

abbrev pub invariant-loop-path : goal.invariant-loop-path
invariant-loop-path l = paths_of l.references.items ≡ take l.path-index l.paths
