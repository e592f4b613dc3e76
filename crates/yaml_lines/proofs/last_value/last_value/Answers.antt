use Rattle.std.proofs.Common.{◌≡◌, ◌∙◌, ◌+◌, ◌&&◌, eqb, sym, ap, ℕ, List, Option, None, true, false, drop}
use Rattle.std.proofs.lemmas.Result.{IfOk-weaker}
use Rattle.yaml_lines.specs.Characters.{is_blank, blank_or_end}
use Rattle.yaml_lines.specs.Entries.{entry_of_line}
use Rattle.yaml_lines.specs.Lines.{ColumnValue, value_at, last_value}
use Rattle.yaml_lines.proofs.Left.{OnLine, last_value-blank, last_value-dash, last_value-value, last_value-end, no_dash, dash_in_word}
use Rattle.yaml_lines.proofs.last_value.last_value.Goals as goal
use Rattle.yaml_lines.proofs.last_value.last_value.Goals.{then-c-eq45+then-blank_or_end, else-c-eq45+else-not-is_blank, else-c-eq45-via-then-c-eq45+else-blank_or_end, else-c-eq45-via-else-c-eq45}

pub returns-then-not-is_blank : goal.returns-then-not-is_blank
returns-then-not-is_blank c =
    let t = c.args.content.now in
    let i = c.loop-i.i in
    let x = c.index-content-i.result in
    let on : OnLine t i x = record { within = c.loop-i-test.true; is = c.index-content-i.is } in
    let blank : is_blank x ≡ false = cc in
    let rest = drop (i + 1) t in
    let word : (eqb x 45 && blank_or_end rest) ≡ false =
    elim c.else-c-eq45.branch [
      | else-c-eq45-via-then-c-eq45+else-blank_or_end w ↦ dash_in_word x (blank_or_end rest) (ap blank_or_end (sym w.skip.ensures) ∙ (sym w.blank_or_end.ensures ∙ w.if-blank_or_end.false))
      | else-c-eq45-via-else-c-eq45 w ↦ no_dash x (blank_or_end rest) w.if-c-eq45.false
    ] in
    let all : last_value c.args.indent None t ≡ value_at (c.args.indent + i) c.loop-i.dash (drop i t) (entry_of_line (drop i t)) =
    c.loop-i.invariant ∙ last_value-value c.args.indent c.loop-i.dash t i x on blank word in
    let f : List ℕ → Option ColumnValue = λ cs. value_at (c.args.indent + i) c.loop-i.dash cs (entry_of_line cs) in
    IfOk-weaker c.value_at.result _ _ (λ v h. h ∙ (ap f c.skip-then-not-is_blank.ensures ∙ sym all)) c.value_at.ensures

pub loop-i-preserved : goal.loop-i-preserved
loop-i-preserved c =
    let t = c.args.content.now in
    let i = c.loop-i.i in
    let x = c.index-content-i.result in
    let on : OnLine t i x = record { within = c.loop-i-test.true; is = c.index-content-i.is } in
    let next : Option ℕ → Option ColumnValue = λ d. last_value (c.args.indent + (i + 1)) d (drop (i + 1) t) in
    elim c.if-c-eq45.branch [
      | then-c-eq45+then-blank_or_end w ↦
          (let after : blank_or_end (drop (i + 1) t) ≡ true = ap blank_or_end (sym w.skip.ensures) ∙ (sym w.blank_or_end.ensures ∙ w.if-blank_or_end.true) in
          c.loop-i.invariant ∙ (last_value-dash c.args.indent c.loop-i.dash t i x on w.if-c-eq45.true after ∙ ap next (sym w.dash-is)))
      | else-c-eq45+else-not-is_blank w ↦
          (let blank : is_blank x ≡ true = sym w.is_blank.ensures ∙ w.if-not-is_blank.false in
          c.loop-i.invariant ∙ (last_value-blank c.args.indent c.loop-i.dash t i x on blank ∙ ap next (sym w.dash-is)))
    ]

pub returns : goal.returns
returns c = sym (c.loop-i.invariant ∙ last_value-end c.args.indent c.loop-i.dash c.args.content.now c.loop-i.i c.loop-i-test.false)
