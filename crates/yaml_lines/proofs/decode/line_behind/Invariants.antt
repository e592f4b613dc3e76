use Rattle.std.proofs.Common.{◌≡◌, ◌+◌, ◌≤◌, count_by, take, eqb}
use Rattle.yaml_lines.proofs.decode.line_behind.Given as goal

abbrev pub invariant-loop-byte : goal.invariant-loop-byte
invariant-loop-byte l = (l.line ≡ count_by (λ byte. eqb byte 10) (take l.byte-index l.bytes) + 1) × (l.line ≤ l.byte-index + 1)
