use Rattle.std.proofs.Common.{◌≡◌, ◌+◌, None, drop}
use Rattle.yaml_lines.specs.Lines.{last_value}
use Rattle.yaml_lines.proofs.last_value.last_value.Given as goal

abbrev pub invariant-loop-i : goal.invariant-loop-i
invariant-loop-i l = last_value l.indent None l.content ≡ last_value (l.indent + l.i) l.dash (drop l.i l.content)
