use Rattle.std.proofs.Common.{◌≡◌, ◌∙◌, sym, ap, arith, ◌+◌, length, take, ℕ, List, cond, Bool, Some, None, [], ◌∷◌, true, false, Option, refl}
use Rattle.std.specs.List.{list_all}
use Rattle.yaml_lines.specs.Characters.{is_space, comment_or_end}
use Rattle.yaml_lines.specs.Entries.{ContentLine}
use Rattle.yaml_lines.proofs.Contents.{is_item-length, Behind, item_of-behind}
use Rattle.yaml_lines.proofs.item.after_dash.Goals as goal

pub skip-rest-requires : goal.skip-rest-requires
skip-rest-requires c = omega (arith, is_item-length c.args.line.now.content c.requires, ap length c.content.ensures.characters)

pub returns-then-comment_or_end : goal.returns-then-comment_or_end
returns-then-comment_or_end c =
    let p = c.args.line.now in
    let n = c.blanks-blanks.result in
    let rest = c.skip-rest.result.now in
    let b : Behind p c.content.result.now rest (take n rest) c.skip-content.result.now n =
    record { same = c.content.ensures.characters; behind = c.skip-rest.ensures; counted = c.blanks-blanks.ensures.counted; follow = c.skip-content.ensures } in
    let over : comment_or_end c.skip-content.result.now ≡ true = cc in
    item_of-behind p c.content.result.now rest (take n rest) c.skip-content.result.now n b refl
    ∙ ap (λ (o : Bool). cond o (Some []) (cond (list_all is_space (take n rest)) (Some (record { indent = p.indent + 1 + n; content = c.skip-content.result.now; block = p.block } ∷ [])) None)) over

pub returns-then-not-all_spaces : goal.returns-then-not-all_spaces
returns-then-not-all_spaces c =
    let p = c.args.line.now in
    let n = c.blanks-blanks.result in
    let rest = c.skip-rest.result.now in
    let b : Behind p c.content.result.now rest c.front.result.now c.skip-content.result.now n =
    record { same = c.content.ensures.characters; behind = c.skip-rest.ensures; counted = c.blanks-blanks.ensures.counted; follow = c.skip-content.ensures } in
    let over : comment_or_end c.skip-content.result.now ≡ false = cc in
    let tab : list_all is_space c.front.result.now ≡ false = cc in
    let place : Option (List ContentLine) = Some (record { indent = p.indent + 1 + n; content = c.skip-content.result.now; block = p.block } ∷ []) in
    item_of-behind p c.content.result.now rest c.front.result.now c.skip-content.result.now n b c.front.ensures
    ∙ (ap (λ (o : Bool). cond o (Some []) (cond (list_all is_space c.front.result.now) place None)) over ∙ ap (λ (o : Bool). cond o place None) tab)

pub returns : goal.returns
returns c =
    let p = c.args.line.now in
    let n = c.blanks-blanks.result in
    let rest = c.skip-rest.result.now in
    let b : Behind p c.content.result.now rest c.front.result.now c.skip-content.result.now n =
    record { same = c.content.ensures.characters; behind = c.skip-rest.ensures; counted = c.blanks-blanks.ensures.counted; follow = c.skip-content.ensures } in
    let over : comment_or_end c.skip-content.result.now ≡ false = cc in
    let spaces : list_all is_space c.front.result.now ≡ true = cc in
    let place : ℕ → Option (List ℕ) → Option (List ContentLine) = λ at block. Some (record { indent = at; content = c.skip-content.result.now; block = block } ∷ []) in
    item_of-behind p c.content.result.now rest c.front.result.now c.skip-content.result.now n b c.front.ensures
    ∙ (ap (λ (o : Bool). cond o (Some []) (cond (list_all is_space c.front.result.now) (place (p.indent + 1 + n) p.block) None)) over
    ∙ (ap (λ (o : Bool). cond o (place (p.indent + 1 + n) p.block) None) spaces
    ∙ (ap (λ (k : ℕ). place (k + 1 + n) p.block) (sym c.indent.ensures)
    ∙ (ap (place (c.indent.result + 1 + n)) (sym c.same_block.ensures) ∙ ap (λ (q : ContentLine). Some (q ∷ [])) (sym c.new.ensures)))))
