use Rattle.std.proofs.Common.{◌∙◌, ◌+◌, sym, ap, Bool}
use Rattle.yaml_lines.proofs.Scans.{uncommented_from, uncommented_from_other, uncommented_from_hash, uncommented_from_end, is_hash, no_hash, not_free}
use Rattle.yaml_lines.proofs.scan.uncommented.Goals as goal
use Rattle.yaml_lines.proofs.scan.uncommented.Goals.{else-free-via-then-free+else-c-eq35, else-free-via-else-free}

pub returns-then-c-eq35-clause-value : goal.returns-then-c-eq35-clause-value
returns-then-c-eq35-clause-value c =
    c.front.ensures ∙ sym (c.loop-i.invariant ∙ uncommented_from_hash c.args.text.now c.loop-i.free c.loop-i.i c.index-text-i.result c.loop-i-test.true c.index-text-i.is
    (is_hash c.loop-i.free c.index-text-i.result c.if-free.true c.if-c-eq35.true))

pub loop-i-preserved : goal.loop-i-preserved
loop-i-preserved c =
    let same = ap (λ (b : Bool). uncommented_from c.args.text.now b (c.loop-i.i + 1)) (sym c.is_blank-free.ensures) in
    elim c.else-free.branch [
      | else-free-via-then-free+else-c-eq35 w ↦
          c.loop-i.invariant ∙ (uncommented_from_other c.args.text.now c.loop-i.free c.loop-i.i c.index-text-i.result c.loop-i-test.true c.index-text-i.is
          (no_hash c.loop-i.free c.index-text-i.result w.if-c-eq35.false) ∙ same)
      | else-free-via-else-free w ↦
          c.loop-i.invariant ∙ (uncommented_from_other c.args.text.now c.loop-i.free c.loop-i.i c.index-text-i.result c.loop-i-test.true c.index-text-i.is
          (not_free c.loop-i.free c.index-text-i.result w.if-free.false) ∙ same)
    ]

pub returns-clause-value : goal.returns-clause-value
returns-clause-value c = sym (c.loop-i.invariant ∙ uncommented_from_end c.args.text.now c.loop-i.free c.loop-i.i c.loop-i-test.false)
