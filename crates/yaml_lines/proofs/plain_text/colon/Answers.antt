use Rattle.std.proofs.Common.{◌≡◌, ◌∙◌, sym, ap, Bool, true, false, drop, ◌+◌, ◌&&◌, eqb}
use Rattle.yaml_lines.specs.Characters.{blank_or_end}
use Rattle.yaml_lines.proofs.Scans.{sides_from, sides_from_hash, sides_from_colon, sides_from_other, sides_from_end, is_hash, no_hash, not_free, is_colon, no_colon, no_blank_after}
use Rattle.yaml_lines.proofs.plain_text.colon.Goals as goal
use Rattle.yaml_lines.proofs.plain_text.colon.Goals.{else-free-via-then-free+else-c-eq35, else-free-via-else-free, else-c-eq58-via-then-c-eq58+else-blank_or_end, else-c-eq58-via-else-c-eq58}

pub returns-then-c-eq35 : goal.returns-then-c-eq35
returns-then-c-eq35 c =
    c.loop-i.invariant ∙ sides_from_hash c.args.content.now c.loop-i.free c.loop-i.i c.index-content-i.result c.loop-i-test.true c.index-content-i.is
    (is_hash c.loop-i.free c.index-content-i.result c.if-free.true c.if-c-eq35.true)

pub returns-then-blank_or_end : goal.returns-then-blank_or_end
returns-then-blank_or_end c =
    let x = c.index-content-i.result in
    let free = c.loop-i.free in
    let hash : (free && eqb x 35) ≡ false =
    elim c.else-free.branch [
      | else-free-via-then-free+else-c-eq35 w ↦ no_hash free x w.if-c-eq35.false
      | else-free-via-else-free w ↦ not_free free x w.if-free.false
    ] in
    let rest = drop (c.loop-i.i + 1) c.args.content.now in
    let blank : blank_or_end rest ≡ true = ap blank_or_end (sym c.skip.ensures) ∙ (sym c.blank_or_end.ensures ∙ c.if-blank_or_end.true) in (
      c.loop-i-test.true,
      c.loop-i.invariant ∙ sides_from_colon c.args.content.now free c.loop-i.i x c.loop-i-test.true c.index-content-i.is hash (is_colon x (blank_or_end rest) c.if-c-eq58.true blank),
    )

pub loop-i-preserved : goal.loop-i-preserved
loop-i-preserved c =
    let x = c.index-content-i.result in
    let free = c.loop-i.free in
    let hash : (free && eqb x 35) ≡ false =
    elim c.else-free.branch [
      | else-free-via-then-free+else-c-eq35 w ↦ no_hash free x w.if-c-eq35.false
      | else-free-via-else-free w ↦ not_free free x w.if-free.false
    ] in
    let rest = drop (c.loop-i.i + 1) c.args.content.now in
    let other : (eqb x 58 && blank_or_end rest) ≡ false =
    elim c.else-c-eq58.branch [
      | else-c-eq58-via-then-c-eq58+else-blank_or_end w ↦
          (let blank : blank_or_end rest ≡ false = ap blank_or_end (sym w.skip.ensures) ∙ (sym w.blank_or_end.ensures ∙ w.if-blank_or_end.false) in
          no_blank_after x (blank_or_end rest) blank)
      | else-c-eq58-via-else-c-eq58 w ↦ no_colon x (blank_or_end rest) w.if-c-eq58.false
    ] in
    c.loop-i.invariant
    ∙ (sides_from_other c.args.content.now free c.loop-i.i x c.loop-i-test.true c.index-content-i.is hash other
    ∙ ap (λ (b : Bool). sides_from c.args.content.now b (c.loop-i.i + 1)) (sym c.is_blank-free.ensures))

pub returns : goal.returns
returns c = c.loop-i.invariant ∙ sides_from_end c.args.content.now c.loop-i.free c.loop-i.i c.loop-i-test.false
