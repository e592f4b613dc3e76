use Rattle.std.proofs.Common.{◌≡◌, ◌∙◌, ◌+◌, sym, Bool, true, false, ap, drop, arith}
use Rattle.yaml_lines.specs.FlowTexts.{ends_plain}
use Rattle.yaml_lines.proofs.FlowScans.{extent_from, extent_from_more, extent_from_here, extent_from_end}
use Rattle.yaml_lines.proofs.flow_text.plain_extent.Goals as goal

pub returns-then-ends_plain-clause-value : goal.returns-then-ends_plain-clause-value
returns-then-ends_plain-clause-value c =
    let t = c.args.text.now in
    let h : ends_plain c.loop-i.blank (drop c.loop-i.i t) ≡ true = ap (ends_plain c.loop-i.blank) (sym c.skip.ensures) ∙ (sym c.ends_plain.ensures ∙ c.if-ends_plain.true) in
    sym (c.loop-i.invariant ∙ extent_from_here t c.loop-i.blank c.loop-i.i c.index-text-i.result c.loop-i-test.true c.index-text-i.is h)

pub loop-i-preserved : goal.loop-i-preserved
loop-i-preserved c =
    let t = c.args.text.now in
    let h : ends_plain c.loop-i.blank (drop c.loop-i.i t) ≡ false = ap (ends_plain c.loop-i.blank) (sym c.skip.ensures) ∙ (sym c.ends_plain.ensures ∙ c.if-ends_plain.false) in
    c.loop-i.invariant
    ∙ (extent_from_more t c.loop-i.blank c.loop-i.i c.index-text-i.result c.loop-i-test.true c.index-text-i.is h
    ∙ ap (λ (b : Bool). extent_from t b (c.loop-i.i + 1)) (sym c.is_blank-blank.ensures))

pub returns-clause-value : goal.returns-clause-value
returns-clause-value c =
    let e = c.loop-i.invariant ∙ extent_from_end c.args.text.now c.loop-i.blank c.loop-i.i c.loop-i-test.false in
    omega arith
