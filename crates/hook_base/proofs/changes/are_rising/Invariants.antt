use Rattle.std.proofs.Common.{◌<◌, ◌+◌, ℕ, get_or}
use Rattle.hook_base.specs.declared.change.Change.{Change}
use Rattle.hook_base.specs.Rising.{IsBelow}
use Rattle.hook_base.proofs.changes.are_rising.Given as goal

abbrev pub invariant-pairs : goal.invariant-pairs
invariant-pairs l =
    (k : ℕ) (d : Change) → k + 1 < l.index → IsBelow (get_or l.changes k d).path (get_or l.changes (k + 1) d).path
