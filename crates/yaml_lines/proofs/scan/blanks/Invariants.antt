use Rattle.std.proofs.Common.{◌≡◌, ◌+◌, drop}
use Rattle.std.specs.List.{prefix_len}
use Rattle.yaml_lines.specs.Characters.{is_blank}
use Rattle.yaml_lines.proofs.scan.blanks.Given as goal

abbrev pub invariant-loop-i : goal.invariant-loop-i
invariant-loop-i l = prefix_len is_blank l.text ≡ l.i + prefix_len is_blank (drop l.i l.text)
