use Rattle.std.proofs.Common.{◌+◌, ◌-◌, ◌≤◌, arith, length}
use Rattle.configuration_run.specs.TryOver.{most_bytes}
use Rattle.configuration_run.proofs.KnownReadsLemmas.{within-more}
use Rattle.configuration_run.proofs.configuration_bytes.read_bytes.Goals as goal

pub returns-in_err-read_piece-clause-within : goal.returns-in_err-read_piece-clause-within
returns-in_err-read_piece-clause-within g c =
    let so_far = c.loop-bytes.invariant in
    let count = c.len-in-loop-bytes.ensures in
    let same = c.loop-bytes.bytes.ok.0 in
    let room : length c.loop-bytes.bytes.items + (most_bytes + 1 - c.len-in-loop-bytes.result) ≤ most_bytes + 1 = omega arith in
    within-more _ _ _ c.loop-bytes.bytes.items (most_bytes + 1) (most_bytes + 1 - c.len-in-loop-bytes.result) so_far.0 c.read_piece.ensures.within room
