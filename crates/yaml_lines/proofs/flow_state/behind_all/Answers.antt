use Rattle.std.proofs.Common.{◌≡◌, ◌∙◌, ◌+◌, ◌-◌, sym, ap, length, ℕ, List}
use Rattle.yaml_lines.specs.FlowLines.{Behind, behind_token, behind_tokens}
use Rattle.yaml_lines.proofs.FlowTokens.{open_empty, open_over, open_on, open_end}
use Rattle.yaml_lines.proofs.flow_state.behind_all.Goals as goal

pub returns-then-is_empty : goal.returns-then-is_empty
returns-then-is_empty c =
    sym (c.loop.invariant ∙ open_empty (length c.args.text.now) c.loop.counter c.loop.state c.loop.left.now (sym c.is_empty.ensures ∙ c.if-is_empty.true))

pub returns-then-is_over : goal.returns-then-is_over
returns-then-is_over c =
    let next : Behind = record { state = c.behind_token-in-loop.inside.state; rest = c.behind_token-in-loop.inside.rest.now } in
    let is : next ≡ behind_token c.loop.state c.loop.left.now = c.behind_token-in-loop.view_is ∙ c.behind_token.ensures in
    sym (c.loop.invariant
    ∙ open_over (length c.args.text.now) c.loop.counter c.loop.state c.loop.left.now next c.loop-test.true (sym c.is_empty.ensures ∙ c.if-is_empty.false) is
    (sym c.is_over.ensures ∙ c.if-is_over.true))

pub loop-preserved : goal.loop-preserved
loop-preserved c =
    let n : ℕ = length c.args.text.now in
    let next : Behind = record { state = c.behind_token-in-loop.inside.state; rest = c.behind_token-in-loop.inside.rest.now } in
    let is : next ≡ behind_token c.loop.state c.loop.left.now = c.behind_token-in-loop.view_is ∙ c.behind_token.ensures in
    c.loop.invariant
    ∙ (open_on n c.loop.counter c.loop.state c.loop.left.now next c.loop-test.true (sym c.is_empty.ensures ∙ c.if-is_empty.false) is (sym c.is_over.ensures ∙ c.if-is_over.false)
    ∙ ap (λ (cs : List ℕ). (behind_tokens (n - (c.loop.counter + 1)) next.state cs).state) (sym c.after_gap-left.ensures))

pub returns : goal.returns
returns c = sym (c.loop.invariant ∙ open_end (length c.args.text.now) c.loop.counter c.loop.state c.loop.left.now c.loop-test.false)
