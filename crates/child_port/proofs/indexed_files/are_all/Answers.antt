use Rattle.std.proofs.Common.{◌≡◌, ◌∙◌, ◌+◌, ◌<◌, ℕ, arith, sym, subst, length, take, get_or}
use Rattle.std.proofs.lemmas.Bool.{eqb-true}
use Rattle.std.proofs.lemmas.List.{take_all}
use Rattle.child_port.proofs.IndexLemmas.{HasFirst, all_first, first_kept, first_more}
use Rattle.child_port.proofs.indexed_files.are_all.Goals.{then-index-next, else-index-next}
use Rattle.child_port.proofs.indexed_files.are_all.Goals as goal

pub overflow_add-next : goal.overflow_add-next
overflow_add-next c =
    let here : get_or c.args.indexes.now c.indexes.index-index 0 ≡ c.indexes.next = c.if-index-next.true in
    let within : get_or c.args.indexes.now c.indexes.index-index 0 < length c.args.tree.now = c.requires c.indexes.index-index 0 c.indexes-test.true in
    omega arith

pub indexes-preserved : goal.indexes-preserved
indexes-preserved c = elim c.if-index-next.branch [
  | then-index-next w ↦
      let here : get_or c.args.indexes.now c.indexes.index-index 0 ≡ c.indexes.next = w.if-index-next.true in
      let within : get_or c.args.indexes.now c.indexes.index-index 0 < length c.args.tree.now = c.requires c.indexes.index-index 0 c.indexes-test.true in
      let more : c.if-index-next.next ≡ c.indexes.next + 1 = w.next-is in (
        omega arith,
        subst (λ (n : ℕ). HasFirst n c.args.tree.now (take (c.indexes.index-index + 1) c.args.indexes.now)) (sym more)
            (first_more c.args.tree.now c.args.indexes.now c.indexes.index-index 0 c.indexes.next c.indexes-test.true here c.indexes.invariant.1),
      )
  | else-index-next w ↦
      let same : c.if-index-next.next ≡ c.indexes.next = w.next-is in (
        omega arith,
        subst (λ (n : ℕ). HasFirst n c.args.tree.now (take (c.indexes.index-index + 1) c.args.indexes.now)) (sym same)
            (first_kept c.args.tree.now c.args.indexes.now c.indexes.index-index c.indexes.next c.indexes-test.true c.indexes.invariant.1),
      )
]

pub returns : goal.returns
returns c = λ all.
    let count : c.indexes.next ≡ length c.args.tree.now = eqb-true c.indexes.next c.len-count.result all ∙ c.len-count.ensures.count in
    let whole : take c.indexes.index-index c.args.indexes.now ≡ c.args.indexes.now = take_all c.indexes.index-index c.args.indexes.now (omega arith) in
    let has = subst (λ (n : ℕ). HasFirst n c.args.tree.now (take c.indexes.index-index c.args.indexes.now)) count c.indexes.invariant.1 in
    all_first c.args.tree.now c.args.indexes.now (subst (HasFirst (length c.args.tree.now) c.args.tree.now) whole has)
