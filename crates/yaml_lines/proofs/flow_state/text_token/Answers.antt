use Rattle.std.proofs.Common.{◌≡◌, ◌∙◌, sym, ap, Bool, option_map, Some, None}
use Rattle.yaml_lines.specs.FlowLines.{state}
use Rattle.yaml_lines.specs.FlowTexts.{text_at}
use Rattle.yaml_lines.proofs.FlowTokens.{text_some, text_none}
use Rattle.yaml_lines.proofs.flow_state.text_token.Goals as goal

pub returns-in-Some : goal.returns-in-Some
returns-in-Some c =
    let e : Some c.in-Some.rest.now ≡ option_map (λ t. t.rest) (text_at c.args.text.now) = sym (ap (option_map (λ r. r.now)) c.in-Some.is) ∙ c.behind_text.ensures in
    c.new.ensures
    ∙ (ap (λ (b : Bool). record { state = state c.args.depth b; rest = c.in-Some.rest.now }) c.begins_quoted.ensures
    ∙ sym (text_some c.args.depth c.args.text.now c.args.others.now c.in-Some.rest.now e))

pub returns-in-None : goal.returns-in-None
returns-in-None c =
    let e : None ≡ option_map (λ t. t.rest) (text_at c.args.text.now) = sym (ap (option_map (λ r. r.now)) c.in-None.is) ∙ c.behind_text.ensures in
    c.new-in-None.ensures ∙ sym (text_none c.args.depth c.args.text.now c.args.others.now e)
