use Rattle.std.proofs.Common.{◌≡◌, ◌∙◌, ◌<◌, ◌≤◌, sym, ap, Some, true, false, ℕ, arith}
use Rattle.std.specs.List.{list_all, prefix_len}
use Rattle.yaml_lines.specs.Characters.{is_space}
use Rattle.yaml_lines.proofs.BlockSteps.{margin_of-spaces, margin_of-deep, margin_of-flat, margin_of-end}
use Rattle.yaml_lines.proofs.block_lines.margin_of.Goals as goal

pub returns-then-column-margin : goal.returns-then-column-margin
returns-then-column-margin c =
    let spaces : c.spaces-margin.result ≡ prefix_len is_space c.line-item.result.text = c.spaces-margin.ensures.counted ∙ ap (prefix_len is_space) c.text-then-not-all_spaces.ensures.characters in
    let other : list_all is_space c.line-item.result.text ≡ false = ap (list_all is_space) (sym c.text.ensures.characters) ∙ (sym c.all_spaces.ensures ∙ c.if-not-all_spaces.true) in
    let deep : c.args.column < prefix_len is_space c.line-item.result.text = omega (arith, spaces, c.if-column-margin.true) in
    ap (λ (n : ℕ). Some n) spaces
    ∙ sym (c.loop-line.invariant ∙ margin_of-deep c.args.column c.args.later.now c.loop-line.line-index c.line-item.result c.loop-line-test.true c.line-item.is other deep)

pub returns-else-column-margin : goal.returns-else-column-margin
returns-else-column-margin c =
    let spaces : c.spaces-margin.result ≡ prefix_len is_space c.line-item.result.text = c.spaces-margin.ensures.counted ∙ ap (prefix_len is_space) c.text-then-not-all_spaces.ensures.characters in
    let other : list_all is_space c.line-item.result.text ≡ false = ap (list_all is_space) (sym c.text.ensures.characters) ∙ (sym c.all_spaces.ensures ∙ c.if-not-all_spaces.true) in
    let flat : prefix_len is_space c.line-item.result.text ≤ c.args.column = omega (arith, spaces, c.if-column-margin.false) in
    sym (c.loop-line.invariant ∙ margin_of-flat c.args.column c.args.later.now c.loop-line.line-index c.line-item.result c.loop-line-test.true c.line-item.is other flat)

pub loop-line-preserved : goal.loop-line-preserved
loop-line-preserved c =
    let all : list_all is_space c.line-item.result.text ≡ true = ap (list_all is_space) (sym c.text.ensures.characters) ∙ (sym c.all_spaces.ensures ∙ c.if-not-all_spaces.false) in
    c.loop-line.invariant ∙ margin_of-spaces c.args.column c.args.later.now c.loop-line.line-index c.line-item.result c.loop-line-test.true c.line-item.is all

pub returns : goal.returns
returns c = sym (c.loop-line.invariant ∙ margin_of-end c.args.column c.args.later.now c.loop-line.line-index c.loop-line-test.false)
