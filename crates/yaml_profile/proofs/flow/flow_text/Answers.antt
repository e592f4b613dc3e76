use Rattle.std.proofs.Common.{◌≡◌, ◌∙◌, ◌++◌, ◌∷◌, [], ◌+◌, List, ℕ, drop, sym, ap}
use Rattle.yaml_profile.specs.Blocks.{further}
use Rattle.yaml_profile.proofs.Flows.{further-more, further-end}
use Rattle.yaml_profile.proofs.flow.flow_text.Goals as goal

pub loop-line-preserved : goal.loop-line-preserved
loop-line-preserved c =
    let old = c.loop-line.text.items in
    let fed : c.push.new.self.items ≡ old ++ 10 ∷ [] = c.in_ok-push.ensures.items in
    let new : c.extend_from_slice.new.self.items ≡ (old ++ 10 ∷ []) ++ c.line-item.result.content =
    c.in_ok-extend_from_slice.ensures.items ∙ (ap (λ (xs : List ℕ). xs ++ c.content.result.now) fed ∙ ap (λ (xs : List ℕ). (old ++ 10 ∷ []) ++ xs) c.content.ensures.characters) in
    c.loop-line.invariant
    ∙ (further-more old c.args.later.now c.loop-line.line-index c.line-item.result c.loop-line-test.true c.line-item.is
    ∙ ap (λ (xs : List ℕ). xs ++ further (drop (c.loop-line.line-index + 1) c.args.later.now)) (sym new))

pub returns : goal.returns
returns c = sym (c.loop-line.invariant ∙ further-end c.loop-line.text.items c.args.later.now c.loop-line.line-index c.loop-line-test.false)
