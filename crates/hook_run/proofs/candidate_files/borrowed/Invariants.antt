use Rattle.std.proofs.Common.{◌≡◌, take}
use Rattle.path_select.specs.Candidates.{paths_of}
use Rattle.hook_run.proofs.candidate_files.borrowed.Given as goal

abbrev pub invariant-paths : goal.invariant-paths
invariant-paths l = paths_of l.references.items ≡ take l.path-index l.paths
