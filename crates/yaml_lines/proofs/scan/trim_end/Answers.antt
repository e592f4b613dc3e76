use Rattle.std.proofs.Common.{◌≡◌, ◌∙◌, sym, arith, take, ap, ℕ}
use Rattle.yaml_lines.proofs.Scans.{trim_end-nil, trim_end-blank, trim_end-other}
use Rattle.yaml_lines.specs.Plain.{trim_end}
use Rattle.yaml_lines.proofs.scan.trim_end.Goals as goal
use Rattle.yaml_lines.proofs.scan.trim_end.Goals.{then-loop-end-test+else-is_blank, else-loop-end-test}

pub loop-end-preserved : goal.loop-end-preserved
loop-end-preserved c = (
  omega arith,
  trim_end-blank c.args.text.now c.loop-end.end c.index-text-end.result c.loop-end-test.true c.loop-end.invariant.0 c.index-text-end.is (sym c.is_blank.ensures ∙ c.if-is_blank.true)
      ∙ c.loop-end.invariant.1,
)

pub returns-clause-value : goal.returns-clause-value
returns-clause-value c =
    elim c.loop-end-test.branch [
      | then-loop-end-test+else-is_blank w ↦ c.front.ensures ∙ (sym (trim_end-other c.args.text.now c.loop-end.end w.index-text-end.result w.loop-end-test.true c.loop-end.invariant.0
          w.index-text-end.is (sym w.is_blank.ensures ∙ w.if-is_blank.false)) ∙ c.loop-end.invariant.1)
      | else-loop-end-test w ↦
          (let none : c.loop-end.end ≡ 0 = omega arith in
          c.front.ensures ∙ (ap (λ (n : ℕ). take n c.args.text.now) none ∙ (sym trim_end-nil ∙ (sym (ap (λ (n : ℕ). trim_end (take n c.args.text.now)) none) ∙ c.loop-end.invariant.1))))
    ]
