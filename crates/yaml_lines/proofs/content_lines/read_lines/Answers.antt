use Rattle.std.proofs.Common.{◌≡◌, ◌∙◌, arith, length-drop, ◌&&◌, ◌++◌, ◌∷◌, [], ◌+◌, ◌-◌, ◌<◌, get_or, sym, ap, ℕ, Bool, List, Option, Some, None, true, false, drop, length, take, true≢false}
use Rattle.std.proofs.lemmas.List.{take_rest}
use Rattle.yaml_lines.specs.BlockTexts.{LineText}
use Rattle.yaml_lines.specs.declared.line_state.LineState.{LineState}
use Rattle.yaml_lines.specs.Entries.{ContentLine}
use Rattle.yaml_lines.specs.Lines.{Left, standing, is_mark, is_start, left_at_line}
use Rattle.yaml_lines.specs.declared.flow_state.FlowState.{FlowState}
use Rattle.yaml_lines.proofs.Walks.{Stands, walked, walked_start, walked_end, walked_fault, walked_nothing, walked_place, walked_mark, walked_begin}
use Rattle.yaml_lines.proofs.content_lines.read_lines.Goals as goal
use Rattle.yaml_lines.proofs.content_lines.read_lines.Goals.{in-OutOfMemory, in_default, then-not-is_mark+in_ok-push, else-not-is_mark+else-not-is_start, then-fresh, else-fresh}

pub loop-i-init : goal.loop-i-init
loop-i-init c =
    walked_start c.args.raws.now c.new-lines.result.items c.new-lines.ensures.items
    ∙ ap (λ (f : FlowState). walked c.new-lines.result.items true (standing 0 f) c.args.raws.now 0) (sym c.outside.ensures)

-- what the line at i leaves, by the code's slices
stands : (at : LineState) (ls : List LineText) (i : ℕ) (l : LineText) (text : List ℕ) (o : Option Left) → i < length ls → l ≡ get_or ls i l → text ≡ l.text
    → left_at_line at text (take (length ls - (i + 1)) (drop (i + 1) ls)) ≡ o → Stands at ls i l o
stands at ls i l text o within is t e = record {
  within = within;
  is = is;
  left = ap (λ (cs : List ℕ). left_at_line at cs (drop (i + 1) ls)) (sym t) ∙ (ap (left_at_line at text) (sym (take_rest ls (i + 1))) ∙ e);
}

pub returns-in-Err-clause-meant : goal.returns-in-Err-clause-meant
returns-in-Err-clause-meant c =
    elim c.match-fault.branch [
      | in-OutOfMemory w ↦ rw w.result-is tt
      | in_default w ↦
          rw w.result-is
          (c.loop-i.invariant
          ∙ walked_fault c.loop-i.lines.items c.loop-i.fresh c.loop-i.at c.args.raws.now c.loop-i.i c.index-raws-i.result
          (stands c.loop-i.at c.args.raws.now c.loop-i.i c.index-raws-i.result c.text.result.now None c.loop-i-test.true c.index-raws-i.is c.text.ensures.characters
          (c.in-Err.ensures.meant w.in_default.not-OutOfMemory)))
    ]

-- how many lines are left after line i
left_behind : (ls : List LineText) (i : ℕ) → i < length ls → i + 1 + length (take (length ls - (i + 1)) (drop (i + 1) ls)) ≡ length ls
left_behind ls i within = let rest = ap length (take_rest ls (i + 1)) in omega (arith, rest, length-drop (i + 1) ls)

pub returns-in-Err-clause-place : goal.returns-in-Err-clause-place
returns-in-Err-clause-place c =
    elim c.match-fault.branch [
      | in-OutOfMemory w ↦ rw w.result-is tt
      | in_default w ↦
          (let place = c.in-Err.ensures.place w.in_default.not-OutOfMemory in
          let last = left_behind c.args.raws.now c.loop-i.i c.loop-i-test.true in
          rw w.result-is (record { of_the_text = w.in_default.not-OutOfMemory; from_the_first = omega arith; to_the_last = omega arith }))
    ]

pub returns-then-not-is_start-clause-place : goal.returns-then-not-is_start-clause-place
returns-then-not-is_start-clause-place c = record { of_the_text = λ same. cc; from_the_first = omega arith; to_the_last = omega arith }

pub loop-i-preserved-in_default-line : goal.loop-i-preserved-in_default-line
loop-i-preserved-in_default-line c =
    let leaves : Option ContentLine → Option Left = λ o. Some (record { content_line = o; next = c.line.inside.next }) in
    c.loop-i.invariant
    ∙ walked_nothing c.loop-i.lines.items c.loop-i.fresh c.loop-i.at c.args.raws.now c.loop-i.i c.index-raws-i.result c.line.inside.next
    (stands c.loop-i.at c.args.raws.now c.loop-i.i c.index-raws-i.result c.text.result.now (leaves None) c.loop-i-test.true c.index-raws-i.is c.text.ensures.characters
    (c.in-Ok.ensures.meant ∙ (ap Some (sym c.line.view_is) ∙ ap leaves c.in_default-line.is)))

pub returns-then-not-is_start-clause-meant : goal.returns-then-not-is_start-clause-meant
returns-then-not-is_start-clause-meant c =
    let p = c.in-Some.line in
    let leaves : Option ContentLine → Option Left = λ o. Some (record { content_line = o; next = c.line.inside.next }) in
    let mark : is_mark p ≡ true = sym c.is_mark.ensures ∙ c.if-not-is_mark.false in
    let other : (c.loop-i.fresh && is_start p) ≡ false =
    elim c.if-fresh.branch [
      | then-fresh w ↦ ap (λ (b : Bool). b && is_start p) w.if-fresh.true ∙ (sym w.is_start.ensures ∙ (sym w.value-is ∙ c.if-not-is_start.true))
      | else-fresh w ↦ ap (λ (b : Bool). b && is_start p) w.if-fresh.false
    ] in
    c.loop-i.invariant
    ∙ walked_mark c.loop-i.lines.items c.loop-i.fresh c.loop-i.at c.args.raws.now c.loop-i.i c.index-raws-i.result p c.line.inside.next
    (stands c.loop-i.at c.args.raws.now c.loop-i.i c.index-raws-i.result c.text.result.now (leaves (Some p)) c.loop-i-test.true c.index-raws-i.is c.text.ensures.characters
    (c.in-Ok.ensures.meant ∙ (ap Some (sym c.line.view_is) ∙ ap leaves c.in-Some.is)))
    mark other

pub loop-i-preserved : goal.loop-i-preserved
loop-i-preserved c =
    let p = c.in-Some.line in
    let more = c.line.inside.next in
    let leaves : Option ContentLine → Option Left = λ o. Some (record { content_line = o; next = more }) in
    let stands_at : Stands c.loop-i.at c.args.raws.now c.loop-i.i c.index-raws-i.result (leaves (Some p)) =
    stands c.loop-i.at c.args.raws.now c.loop-i.i c.index-raws-i.result c.text.result.now (leaves (Some p)) c.loop-i-test.true c.index-raws-i.is c.text.ensures.characters
    (c.in-Ok.ensures.meant ∙ (ap Some (sym c.line.view_is) ∙ ap leaves c.in-Some.is)) in
    let next : List ContentLine → Bool → Option (List ContentLine) = λ ps b. walked ps b more c.args.raws.now (c.loop-i.i + 1) in
    elim c.if-not-is_mark.branch [
      | then-not-is_mark+in_ok-push w ↦
          (let other : is_mark p ≡ false = sym c.is_mark.ensures ∙ w.if-not-is_mark.true in
          let items : c.if-not-is_mark.lines.items ≡ c.loop-i.lines.items ++ p ∷ [] = ap (λ v. v.items) w.lines-is ∙ w.in_ok-push.ensures.items in
          c.loop-i.invariant
          ∙ (walked_place c.loop-i.lines.items c.loop-i.fresh c.loop-i.at c.args.raws.now c.loop-i.i c.index-raws-i.result p more stands_at other
          ∙ (ap (λ (ps : List ContentLine). next ps false) (sym items) ∙ ap (next c.if-not-is_mark.lines.items) (sym w.fresh-is))))
      | else-not-is_mark+else-not-is_start w ↦
          (let mark : is_mark p ≡ true = sym c.is_mark.ensures ∙ w.if-not-is_mark.false in
          let first : (c.loop-i.fresh && is_start p) ≡ true =
          elim w.if-fresh.branch [
            | then-fresh v ↦ ap (λ (b : Bool). b && is_start p) v.if-fresh.true ∙ (sym v.is_start.ensures ∙ (sym v.value-is ∙ w.if-not-is_start.false))
            | else-fresh v ↦ absurd (true≢false (sym w.if-not-is_start.false ∙ (v.value-is ∙ v.if-fresh.false)))
          ] in
          let items : c.if-not-is_mark.lines.items ≡ c.loop-i.lines.items = ap (λ v. v.items) w.lines-is in
          c.loop-i.invariant
          ∙ (walked_begin c.loop-i.lines.items c.loop-i.fresh c.loop-i.at c.args.raws.now c.loop-i.i c.index-raws-i.result p more stands_at mark first
          ∙ (ap (λ (ps : List ContentLine). next ps false) (sym items) ∙ ap (next c.if-not-is_mark.lines.items) (sym w.fresh-is))))
    ]

pub returns-clause-meant : goal.returns-clause-meant
returns-clause-meant c = c.loop-i.invariant ∙ walked_end c.loop-i.lines.items c.loop-i.fresh c.loop-i.at c.args.raws.now c.loop-i.i c.loop-i-test.false
