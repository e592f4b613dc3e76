use Rattle.std.proofs.Common.{◌≡◌}
use Rattle.yaml_lines.specs.Lines.{content_lines_from}
use Rattle.yaml_lines.proofs.Walks.{walked}
use Rattle.yaml_lines.proofs.content_lines.read_lines.Given as goal

abbrev pub invariant-loop-i : goal.invariant-loop-i
invariant-loop-i l = content_lines_from l.raws ≡ walked l.lines.items l.fresh l.at l.raws l.i
