use Rattle.std.proofs.Common.{◌≡◌, ◌∙◌, sym, ap, true, false}
use Rattle.std.specs.List.{list_all}
use Rattle.yaml_lines.specs.Characters.{is_allowed, begins_with, comment_or_end, trim_start}
use Rattle.yaml_lines.proofs.Left.{left_of-bad, left_of-nothing, left_of-some, Indented}
use Rattle.yaml_lines.proofs.content_lines.left_of.Goals as goal

pub returns-then-not-all_allowed-clause-meant : goal.returns-then-not-all_allowed-clause-meant
returns-then-not-all_allowed-clause-meant c = λ _. left_of-bad c.args.flow c.args.text.now c.args.later.now (let h : list_all is_allowed c.args.text.now ≡ false = cc in h)

pub returns-then-comment_or_end-clause-meant : goal.returns-then-comment_or_end-clause-meant
returns-then-comment_or_end-clause-meant c =
    let good : list_all is_allowed c.args.text.now ≡ true = cc in
    let nothing : comment_or_end (trim_start c.args.text.now) ≡ true = ap comment_or_end (sym c.after_blanks.ensures) ∙ (sym c.comment_or_end.ensures ∙ c.if-comment_or_end.true) in
    left_of-nothing c.args.flow c.args.text.now c.args.later.now good nothing

pub returns-then-begins_with_tab-clause-meant : goal.returns-then-begins_with_tab-clause-meant
returns-then-begins_with_tab-clause-meant c =
    let good : list_all is_allowed c.args.text.now ≡ true = cc in
    let some : comment_or_end (trim_start c.args.text.now) ≡ false = ap comment_or_end (sym c.after_blanks.ensures) ∙ (sym c.comment_or_end.ensures ∙ c.if-comment_or_end.false) in
    let i : Indented c.args.text.now c.skip-content.result.now c.spaces-indent.result =
    record { good = good; some = some; counted = c.spaces-indent.ensures.counted; behind = c.skip-content.ensures } in
    let tab : begins_with 9 c.skip-content.result.now ≡ true = cc in
    λ _. left_of-some c.args.flow c.args.text.now c.skip-content.result.now c.args.later.now c.spaces-indent.result true i tab

pub returns-clause-meant : goal.returns-clause-meant
returns-clause-meant c =
    let good : list_all is_allowed c.args.text.now ≡ true = cc in
    let some : comment_or_end (trim_start c.args.text.now) ≡ false = ap comment_or_end (sym c.after_blanks.ensures) ∙ (sym c.comment_or_end.ensures ∙ c.if-comment_or_end.false) in
    let i : Indented c.args.text.now c.skip-content.result.now c.spaces-indent.result =
    record { good = good; some = some; counted = c.spaces-indent.ensures.counted; behind = c.skip-content.ensures } in
    let other : begins_with 9 c.skip-content.result.now ≡ false = cc in
    rw (left_of-some c.args.flow c.args.text.now c.skip-content.result.now c.args.later.now c.spaces-indent.result false i other) c.with_flow.ensures.meant
