use Rattle.std.proofs.Common.{◌≡◌, ◌∙◌, ◌<◌, ◌≤◌, sym, ap, Option, true, false, ℕ, length, arith}
use Rattle.std.specs.List.{list_all}
use Rattle.yaml_lines.specs.Characters.{is_space}
use Rattle.yaml_lines.specs.BlockTexts.{is_ragged}
use Rattle.yaml_lines.proofs.BlockSteps.{is_ragged-none, is_ragged-text, is_ragged-long, is_ragged-short, is_ragged-end}
use Rattle.yaml_lines.proofs.block_lines.ragged_at.Goals as goal

pub returns-in_err-margin-clause-found : goal.returns-in_err-margin-clause-found
returns-in_err-margin-clause-found c = rw (c.from_residual.ensures, c.in_err-margin.was) (sym (is_ragged-none c.args.later.now))

pub returns-then-not-all_spaces-clause-found : goal.returns-then-not-all_spaces-clause-found
returns-then-not-all_spaces-clause-found c =
    let other : list_all is_space c.index-later-i.result.text ≡ false = ap (list_all is_space) (sym c.text.ensures.characters) ∙ (sym c.all_spaces.ensures ∙ c.if-not-all_spaces.true) in
    sym (ap (λ (o : Option ℕ). is_ragged o c.args.later.now) c.in_ok-margin.was
    ∙ (c.loop-i.invariant ∙ is_ragged-text c.in_ok-margin.margin c.args.later.now c.loop-i.i c.index-later-i.result c.loop-i-test.true c.index-later-i.is other))

pub returns-then-margin-text-clause-found : goal.returns-then-margin-text-clause-found
returns-then-margin-text-clause-found c =
    let all : list_all is_space c.index-later-i.result.text ≡ true = ap (list_all is_space) (sym c.text.ensures.characters) ∙ (sym c.all_spaces.ensures ∙ c.if-not-all_spaces.false) in
    let long : c.in_ok-margin.margin < length c.index-later-i.result.text = omega (arith, ap length c.text-in-loop-i.ensures.characters, c.if-margin-text.true) in
    sym (ap (λ (o : Option ℕ). is_ragged o c.args.later.now) c.in_ok-margin.was
    ∙ (c.loop-i.invariant ∙ is_ragged-long c.in_ok-margin.margin c.args.later.now c.loop-i.i c.index-later-i.result c.loop-i-test.true c.index-later-i.is all long))

pub loop-i-preserved : goal.loop-i-preserved
loop-i-preserved c =
    let all : list_all is_space c.index-later-i.result.text ≡ true = ap (list_all is_space) (sym c.text.ensures.characters) ∙ (sym c.all_spaces.ensures ∙ c.if-not-all_spaces.false) in
    let short : length c.index-later-i.result.text ≤ c.in_ok-margin.margin = omega (arith, ap length c.text-in-loop-i.ensures.characters, c.if-margin-text.false) in
    c.loop-i.invariant ∙ is_ragged-short c.in_ok-margin.margin c.args.later.now c.loop-i.i c.index-later-i.result c.loop-i-test.true c.index-later-i.is all short

pub returns-clause-found : goal.returns-clause-found
returns-clause-found c =
    sym (ap (λ (o : Option ℕ). is_ragged o c.args.later.now) c.in_ok-margin.was
    ∙ (c.loop-i.invariant ∙ is_ragged-end c.in_ok-margin.margin c.args.later.now c.loop-i.i c.loop-i-test.false))
