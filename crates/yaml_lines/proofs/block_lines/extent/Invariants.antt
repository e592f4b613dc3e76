use Rattle.std.proofs.Common.{◌≡◌, ◌+◌, drop}
use Rattle.std.specs.List.{prefix_len}
use Rattle.yaml_lines.specs.BlockTexts.{belongs, extent}
use Rattle.yaml_lines.proofs.block_lines.extent.Given as goal

abbrev pub invariant-loop-i : goal.invariant-loop-i
invariant-loop-i l = extent l.margin l.later ≡ l.i + prefix_len (belongs l.margin) (drop l.i l.later)
