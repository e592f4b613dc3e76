use Rattle.std.proofs.Common.{◌≡◌, filter, take}
use Rattle.path_select.specs.Candidates.{paths_of, passes}
use Rattle.path_select.proofs.candidates.filtered.Given as goal

abbrev pub invariant-paths : goal.invariant-paths
invariant-paths l =
    (l.test.files ≡ l.initial.test.files) × (l.test.exclude ≡ l.initial.test.exclude)
    × (paths_of l.kept.items ≡ filter (passes l.initial.test.files l.initial.test.exclude) (paths_of (take l.path-index l.path-items)))
