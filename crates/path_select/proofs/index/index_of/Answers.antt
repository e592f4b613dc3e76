use Rattle.std.proofs.Common.{◌≡◌, ◌+◌, ◌-◌, ◌/◌, ◌∙◌, ℕ, arith, sym, subst}
use Rattle.hook_base.specs.TreeLemmas.{entry_of-gap}
use Rattle.hook_base.specs.Overlays.{From}
use Rattle.hook_base.proofs.PlaceLemmas.{From-length, gap}
use Rattle.path_select.proofs.IndexLemmas.{after_index, at_index, before_index}
use Rattle.path_select.proofs.index.index_of.Goals as goal

pub halves-init : goal.halves-init
halves-init c = (omega arith, omega arith, tt, subst (λ (n : ℕ). From c.args.path.now c.args.tree.now n) (sym c.len-high.ensures.count) (From-length c.args.path.now c.args.tree.now))

pub halves-preserved-in-Less : goal.halves-preserved-in-Less
halves-preserved-in-Less c =
    let middle = c.halves.low + (c.halves.high - c.halves.low) / 2 in (
      omega arith,
      c.halves.invariant.1,
      before_index c.args.path.now c.args.tree.now middle c.entry.result.now c.entry.ensures.rising c.entry.ensures.row (sym c.cmp.ensures ∙ c.in-Less.is),
      c.halves.invariant.3,
    )

pub returns-in-Equal : goal.returns-in-Equal
returns-in-Equal c =
    at_index c.args.path.now c.args.tree.now (c.halves.low + (c.halves.high - c.halves.low) / 2) c.entry.result.now c.entry.ensures.rising c.entry.ensures.row (sym c.cmp.ensures ∙ c.in-Equal.is)

pub halves-preserved : goal.halves-preserved
halves-preserved c =
    let middle = c.halves.low + (c.halves.high - c.halves.low) / 2 in (
      omega arith,
      omega arith,
      c.halves.invariant.2,
      after_index c.args.path.now c.args.tree.now middle c.entry.result.now c.entry.ensures.rising c.entry.ensures.row
          (sym c.cmp.ensures ∙ c.in-Greater.is),
    )

pub returns : goal.returns
returns c =
    let met : c.halves.high ≡ c.halves.low = omega arith in
    entry_of-gap c.args.path.now c.args.tree.now c.halves.low (gap c.args.path.now c.args.tree.now c.halves.low c.halves.invariant.2
    (subst (λ (n : ℕ). From c.args.path.now c.args.tree.now n) met c.halves.invariant.3))
