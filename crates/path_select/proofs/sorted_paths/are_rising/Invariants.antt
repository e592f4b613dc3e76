use Rattle.std.proofs.Common.{◌<◌, ◌+◌, ℕ, List, get_or}
use Rattle.hook_base.specs.Rising.{IsBelow}
use Rattle.path_select.proofs.sorted_paths.are_rising.Given as goal

abbrev pub invariant-pairs : goal.invariant-pairs
invariant-pairs l = (k : ℕ) (d : List ℕ) → k + 1 < l.index → IsBelow (get_or l.paths k d) (get_or l.paths (k + 1) d)
