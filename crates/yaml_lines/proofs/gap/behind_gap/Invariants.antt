use Rattle.std.proofs.Common.{◌≡◌, false}
use Rattle.yaml_lines.specs.FlowGaps.{behind_gap}
use Rattle.yaml_lines.proofs.FlowScans.{gap_from}
use Rattle.yaml_lines.proofs.gap.behind_gap.Given as goal

abbrev pub invariant-loop-i : goal.invariant-loop-i
invariant-loop-i l = behind_gap false l.begins_free l.text ≡ gap_from l.text l.comment l.free l.i
