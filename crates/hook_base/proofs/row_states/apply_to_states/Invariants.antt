use Rattle.std.proofs.Common.{◌≡◌}
use Rattle.std.specs.Vec.Iter.{into_iter_items}
use Rattle.hook_base.specs.Overlays.{AreStatesOf, live_rows}
use Rattle.hook_base.specs.Trees.{apply_changes}
use Rattle.hook_base.proofs.row_states.apply_to_states.Given as goal

abbrev pub invariant-changes : goal.invariant-changes
invariant-changes l =
    (apply_changes (into_iter_items l.change-iterator) (live_rows l.base l.states.items) ≡ apply_changes l.fn.changes.items (live_rows l.base l.fn.states.items)) × AreStatesOf l.base l.states.items
