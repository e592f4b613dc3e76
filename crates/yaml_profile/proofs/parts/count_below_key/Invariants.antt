use Rattle.std.proofs.Common.{◌≡◌, ◌+◌, drop}
use Rattle.std.specs.List.{prefix_len}
use Rattle.yaml_profile.specs.Blocks.{is_below_key}
use Rattle.yaml_profile.proofs.parts.count_below_key.Given as goal

abbrev pub invariant-loop-count : goal.invariant-loop-count
invariant-loop-count l = l.count + prefix_len (is_below_key l.indent) (drop l.count l.lines) ≡ prefix_len (is_below_key l.indent) l.lines
