use Rattle.std.proofs.Common.{◌≡◌, take}
use Rattle.path_select.specs.Candidates.{paths_of}
use Rattle.hook_run.specs.CandidateFiles.{files_at}
use Rattle.hook_run.proofs.candidate_files.files_at.Given as goal

abbrev pub invariant-paths : goal.invariant-paths
invariant-paths l = l.files ≡ files_at (paths_of (take l.path-index l.paths)) l.tree
