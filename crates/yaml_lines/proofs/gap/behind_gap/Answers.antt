use Rattle.std.proofs.Common.{◌≡◌, ◌∙◌, ◌+◌, sym, Bool, true, false, ap, length, arith}
use Rattle.std.proofs.lemmas.List.{drop_all}
use Rattle.yaml_lines.specs.FlowGaps.{is_of_gap}
use Rattle.yaml_lines.proofs.FlowScans.{gap_from, gap_from_inside, gap_from_behind, gap_from_end}
use Rattle.yaml_lines.proofs.gap.behind_gap.Goals as goal

pub returns-then-not-is_of_gap : goal.returns-then-not-is_of_gap
returns-then-not-is_of_gap c =
    let x = c.index-text-i.result in
    let h : is_of_gap c.loop-i.comment c.loop-i.free x ≡ false = cc in
    c.skip.ensures ∙ sym (c.loop-i.invariant ∙ gap_from_behind c.args.text.now c.loop-i.comment c.loop-i.free c.loop-i.i x c.loop-i-test.true c.index-text-i.is h)

pub loop-i-preserved : goal.loop-i-preserved
loop-i-preserved c =
    let x = c.index-text-i.result in
    let h : is_of_gap c.loop-i.comment c.loop-i.free x ≡ true = cc in
    c.loop-i.invariant
    ∙ (gap_from_inside c.args.text.now c.loop-i.comment c.loop-i.free c.loop-i.i x c.loop-i-test.true c.index-text-i.is h
    ∙ ap (λ (b : Bool). gap_from c.args.text.now b true (c.loop-i.i + 1)) (sym c.in_comment-comment.ensures))

pub returns : goal.returns
returns c =
    c.skip-2.ensures
    ∙ (drop_all (length c.args.text.now) c.args.text.now (omega arith)
    ∙ sym (c.loop-i.invariant ∙ gap_from_end c.args.text.now c.loop-i.comment c.loop-i.free c.loop-i.i c.loop-i-test.false))
