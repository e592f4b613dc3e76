use Rattle.std.proofs.Common.{◌≡◌, ◌≤◌, ◌++◌, length}
use Rattle.yaml_lines.specs.Characters.{most_bytes}
use Rattle.yaml_lines.specs.Lines.{line_texts}
use Rattle.yaml_lines.proofs.raw_line.raw_lines.Given as goal

abbrev pub invariant-loop-rest : goal.invariant-loop-rest
invariant-loop-rest l = record {
  together : l.lines.items ++ line_texts l.rest ≡ line_texts l.text;
  few : length l.rest ≤ most_bytes;
}

abbrev pub decreases-loop-rest : goal.decreases-loop-rest
decreases-loop-rest l = length l.rest
