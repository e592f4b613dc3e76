use Rattle.std.proofs.Common.{◌≡◌, ◌∙◌, sym, ap, ◌+◌, ◌-◌, List, ℕ, length, Some, string_bytes}
use Rattle.yaml_lines.specs.Quoted.{QuotedStep, step_of, quoted_within}
use Rattle.yaml_lines.proofs.QuotedSteps.{prefixed, step_on, step_end, step_fault, no_steps}
use Rattle.yaml_lines.proofs.quoted_text.quoted_within.Goals as goal

pub returns-in-Err-clause-meant : goal.returns-in-Err-clause-meant
returns-in-Err-clause-meant c = λ _. c.loop.invariant ∙ step_fault c.args.mark (length c.args.text.now) c.loop.counter c.loop.rest.now (string_bytes c.loop.read) c.loop-test.true c.in-Err.ensures

pub returns-in-None-clause-meant : goal.returns-in-None-clause-meant
returns-in-None-clause-meant c =
    let step : QuotedStep = record { character = c.character.inside.character; rest = c.character.inside.rest.now } in
    let is : step_of c.args.mark c.loop.rest.now ≡ Some step = c.in-Ok.ensures ∙ ap Some (sym c.character.view_is) in
    c.loop.invariant ∙ step_end c.args.mark (length c.args.text.now) c.loop.counter c.loop.rest.now (string_bytes c.loop.read) step c.loop-test.true is c.in-None.is

pub loop-preserved : goal.loop-preserved
loop-preserved c =
    let step : QuotedStep = record { character = c.character.inside.character; rest = c.character.inside.rest.now } in
    let is : step_of c.args.mark c.loop.rest.now ≡ Some step = c.in-Ok.ensures ∙ ap Some (sym c.character.view_is) in
    c.loop.invariant
    ∙ (step_on c.args.mark (length c.args.text.now) c.loop.counter c.loop.rest.now (string_bytes c.loop.read) step c.in-Some.c c.loop-test.true is c.in-Some.is
    ∙ ap (λ (bs : List ℕ). prefixed bs (quoted_within c.args.mark (length c.args.text.now - (c.loop.counter + 1)) c.character.inside.rest.now)) (sym c.in_ok-push-in-Some.ensures.bytes))

pub returns-clause-meant : goal.returns-clause-meant
returns-clause-meant c = λ _. c.loop.invariant ∙ no_steps c.args.mark (length c.args.text.now) c.loop.counter c.loop.rest.now (string_bytes c.loop.read) c.loop-test.false
