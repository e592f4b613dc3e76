use Rattle.std.proofs.Common.{◌≡◌, false}
use Rattle.yaml_lines.specs.FlowTexts.{plain_extent}
use Rattle.yaml_lines.proofs.FlowScans.{extent_from}
use Rattle.yaml_lines.proofs.flow_text.plain_extent.Given as goal

abbrev pub invariant-loop-i : goal.invariant-loop-i
invariant-loop-i l = plain_extent false l.text ≡ extent_from l.text l.blank l.i
