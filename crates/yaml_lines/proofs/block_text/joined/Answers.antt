use Rattle.std.proofs.Common.{◌≡◌, ◌∙◌, ◌++◌, ◌+◌, sym, ap, Some, None, Bool, true, false, ℕ, List, drop, string_bytes, arith}
use Rattle.std.specs.Str.{encode_utf8_all}
use Rattle.yaml_lines.specs.Characters.{is_nil}
use Rattle.yaml_lines.specs.BlockTexts.{begins_blank, between}
use Rattle.yaml_lines.proofs.BlockSteps.{nil_or_not, At, passed-empty, passed-text, passed-end, pushed}
use Rattle.yaml_lines.proofs.Passes.{passed, passed_gives, without_margins}
use Rattle.yaml_lines.proofs.block_text.joined.Goals as goal
use Rattle.yaml_lines.proofs.block_text.joined.Goals.{then-is_empty, else-is_empty+in_ok-push_between+in_ok-push_characters}

pub loop-line-preserved : goal.loop-line-preserved
loop-line-preserved c =
    let h = c.args.header in
    let m = c.args.margin in
    let ls = c.args.lines.now in
    let i = c.loop-line.line-index in
    let part = c.behind_margin-part.result.now in
    let at : At ls i c.line-item.result m part c.count_end-ended.result =
    record { within = c.loop-line-test.true; is = c.line-item.is; behind = c.behind_margin-part.ensures; end = c.count_end-ended.ensures.value } in
    elim c.if-is_empty.branch [
      | then-is_empty w ↦
          (let none : is_nil part ≡ true = nil_or_not part true (sym c.is_empty.ensures ∙ w.if-is_empty.true) in
          record {
            together =
                c.loop-line.invariant.together
                ∙ (ap (λ (xs : List ℕ). string_bytes c.loop-line.text ++ xs) (passed-empty h m c.loop-line.before c.loop-line.empties c.loop-line.ends ls i c.line-item.result part
                c.count_end-ended.result at none)
                ∙ cc);
            empty = omega (arith, w.empties-is);
            ended = omega (arith, w.ends-is, c.count_end-ended.ensures.small);
          })
      | else-is_empty+in_ok-push_between+in_ok-push_characters w ↦
          (let other : is_nil part ≡ false = nil_or_not part false (sym c.is_empty.ensures ∙ w.if-is_empty.false) in
          let old = string_bytes c.loop-line.text in
          let first = between h.folded c.loop-line.before c.loop-line.empties (begins_blank part) in
          let put : string_bytes w.push_between.new.text ≡ old ++ first =
          w.in_ok-push_between.ensures ∙ ap (λ (b : Bool). old ++ between h.folded c.loop-line.before c.loop-line.empties b) w.begins_blank-blank.ensures in
          record {
            together =
                pushed (passed h None 0 0 (without_margins m ls)) old (string_bytes w.push_between.new.text) (string_bytes w.push_characters.new.text) first (encode_utf8_all part)
                (passed h (Some (begins_blank part)) 0 c.count_end-ended.result (without_margins m (drop (i + 1) ls)))
                (c.loop-line.invariant.together ∙ ap (λ (xs : List ℕ). old ++ xs)
                (passed-text h m c.loop-line.before c.loop-line.empties c.loop-line.ends ls i c.line-item.result part c.count_end-ended.result at other))
                put w.in_ok-push_characters.ensures
                ∙ cc;
            empty = omega (arith, w.empties-is);
            ended = omega (arith, w.ends-is, c.count_end-ended.ensures.small);
          })
    ]

pub returns : goal.returns
returns c =
    c.in_ok-push_end.ensures
    ∙ sym (sym (passed_gives c.args.header (without_margins c.args.margin c.args.lines.now)) ∙ c.loop-line.invariant.together
    ∙ ap (λ (xs : List ℕ). string_bytes c.loop-line.text ++ xs) (passed-end c.args.header c.args.margin c.loop-line.before c.loop-line.empties c.loop-line.ends c.args.lines.now
    c.loop-line.line-index c.loop-line-test.false))
