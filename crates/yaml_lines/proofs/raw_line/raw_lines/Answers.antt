use Rattle.std.proofs.Common.{◌≡◌, length, rules}
use Rattle.yaml_lines.proofs.RawLines.{lines_end}
use Rattle.yaml_lines.proofs.raw_line.raw_lines.Goals as goal

pub returns : goal.returns
returns c =
    let none : length c.loop-rest.rest.now ≡ 0 = search rules in
    lines_end c.loop-rest.lines.items c.loop-rest.rest.now c.args.text.now none c.loop-rest.invariant.together
