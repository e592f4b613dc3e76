use Rattle.std.proofs.Common.{◌<◌, ◌+◌, ℕ, get_or}
use Rattle.hook_base.specs.Rising.{IsBelow}
use Rattle.answer_records.proofs.rising.are_rising.Given as goal

abbrev pub invariant-pairs : goal.invariant-pairs
invariant-pairs g l =
    let place = g.T.Placed.place_of in
    (k : ℕ) (d : g.row.T.Denot) → k + 1 < l.index → IsBelow (place (get_or l.items k d)) (place (get_or l.items (k + 1) d))
