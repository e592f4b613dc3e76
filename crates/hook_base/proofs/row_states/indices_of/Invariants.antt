use Rattle.std.proofs.Common.{◌≡◌, ◌++◌, drop}
use Rattle.hook_base.specs.Overlays.{live_indices}
use Rattle.hook_base.proofs.row_states.indices_of.Given as goal

abbrev pub invariant-states : goal.invariant-states
invariant-states l = l.live.items ++ live_indices l.index (drop l.index l.states.items) ≡ live_indices 0 l.states.items
