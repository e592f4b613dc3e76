use Rattle.std.proofs.Common.{◌≡◌, ◌+◌, drop}
use Rattle.std.specs.List.{prefix_len}
use Rattle.yaml_profile.specs.Blocks.{is_in_flow}
use Rattle.yaml_profile.proofs.parts.count_in_flow.Given as goal

abbrev pub invariant-loop-count : goal.invariant-loop-count
invariant-loop-count l = l.count + prefix_len (is_in_flow l.indent) (drop l.count l.lines) ≡ prefix_len (is_in_flow l.indent) l.lines
