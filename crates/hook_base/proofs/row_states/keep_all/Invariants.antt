use Rattle.std.proofs.Common.{◌≡◌, ◌++◌, drop}
use Rattle.hook_base.specs.Overlays.{all_kept}
use Rattle.hook_base.proofs.row_states.keep_all.Given as goal

abbrev pub invariant-rows : goal.invariant-rows
invariant-rows l = l.states.items ++ all_kept (drop l._row-index l.rows.items) ≡ all_kept l.rows.items
