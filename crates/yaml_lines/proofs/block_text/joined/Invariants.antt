use Rattle.std.proofs.Common.{◌≡◌, ◌≤◌, ◌++◌, None, drop, string_bytes}
use Rattle.yaml_lines.proofs.Passes.{passed, without_margins}
use Rattle.yaml_lines.proofs.block_text.joined.Given as goal

abbrev pub invariant-loop-line : goal.invariant-loop-line
invariant-loop-line l = record {
  together :
      passed l.header None 0 0 (without_margins l.margin l.lines)
      ≡ string_bytes l.text ++ passed l.header l.before l.empties l.ends (without_margins l.margin (drop l.line-index l.lines));
  empty : l.empties ≤ l.line-index;
  ended : l.ends ≤ l.line-index;
}
