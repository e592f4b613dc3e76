use Rattle.std.proofs.Common.{◌≡◌, Some, drop}
use Rattle.yaml_lines.specs.BlockTexts.{is_ragged}
use Rattle.yaml_lines.proofs.block_lines.ragged_at.Given as goal

abbrev pub invariant-loop-i : goal.invariant-loop-i
invariant-loop-i l = is_ragged (Some l.margin) l.later ≡ is_ragged (Some l.margin) (drop l.i l.later)
