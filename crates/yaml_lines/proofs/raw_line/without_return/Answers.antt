use Rattle.std.proofs.Common.{◌≡◌, ◌∙◌, ◌<◌, sym, length, rules}
use Rattle.yaml_lines.proofs.Scans.{without_return-return, without_return-other, without_return-nil}
use Rattle.yaml_lines.proofs.raw_line.without_return.Goals as goal
use Rattle.yaml_lines.proofs.raw_line.without_return.Goals.{then-is_empty-via-then-is_empty, then-is_empty-via-else-is_empty+then-text-ne13}

pub returns-then-is_empty-clause-value : goal.returns-then-is_empty-clause-value
returns-then-is_empty-clause-value c =
    let t = c.args.text.now in
    elim c.then-is_empty.branch [
      | then-is_empty-via-then-is_empty w ↦ (let none : length t ≡ 0 = search rules in sym (without_return-nil t none))
      | then-is_empty-via-else-is_empty+then-text-ne13 w ↦
          (let some : 0 < length t = search rules in sym (without_return-other t w.index-text-text.result some w.index-text-text.is w.if-text-ne13.true))
    ]

pub returns-clause-value : goal.returns-clause-value
returns-clause-value c =
    let t = c.args.text.now in
    let some : 0 < length t = search rules in
    c.front.ensures ∙ sym (without_return-return t c.index-text-text.result some c.index-text-text.is c.if-text-ne13.false)
