use Rattle.std.proofs.Common.{◌≡◌, drop}
use Rattle.yaml_lines.specs.BlockTexts.{margin_of}
use Rattle.yaml_lines.proofs.block_lines.margin_of.Given as goal

abbrev pub invariant-loop-line : goal.invariant-loop-line
invariant-loop-line l = margin_of l.column l.later ≡ margin_of l.column (drop l.line-index l.later)
