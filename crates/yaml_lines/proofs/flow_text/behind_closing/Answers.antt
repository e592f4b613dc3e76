use Rattle.std.proofs.Common.{◌≡◌, ◌∙◌, sym, ap, length, Some}
use Rattle.yaml_lines.specs.Quoted.{QuotedStep, step_of}
use Rattle.yaml_lines.proofs.QuotedSteps.{rest_on, rest_end, rest_fault, no_rest}
use Rattle.yaml_lines.proofs.flow_text.behind_closing.Goals as goal

pub returns-in-Err : goal.returns-in-Err
returns-in-Err c = sym (c.loop.invariant ∙ rest_fault c.args.mark (length c.args.text.now) c.loop.counter c.loop.rest.now c.loop-test.true c.in-Err.ensures)

pub returns-in-None : goal.returns-in-None
returns-in-None c =
    let step : QuotedStep = record { character = c.character.inside.character; rest = c.character.inside.rest.now } in
    let is : step_of c.args.mark c.loop.rest.now ≡ Some step = c.in-Ok.ensures ∙ ap Some (sym c.character.view_is) in
    sym (c.loop.invariant ∙ rest_end c.args.mark (length c.args.text.now) c.loop.counter c.loop.rest.now step c.loop-test.true is c.in-None.is)

pub loop-preserved : goal.loop-preserved
loop-preserved c =
    let step : QuotedStep = record { character = c.character.inside.character; rest = c.character.inside.rest.now } in
    let is : step_of c.args.mark c.loop.rest.now ≡ Some step = c.in-Ok.ensures ∙ ap Some (sym c.character.view_is) in
    c.loop.invariant ∙ rest_on c.args.mark (length c.args.text.now) c.loop.counter c.loop.rest.now step _ c.loop-test.true is c.in-Some.is

pub returns : goal.returns
returns c = sym (c.loop.invariant ∙ no_rest c.args.mark (length c.args.text.now) c.loop.counter c.loop.rest.now c.loop-test.false)
