use Rattle.std.proofs.Common.{◌≡◌, ◌+◌, ◌-◌, ◌/◌, arith, sym, subst, ap, ◌∙◌, ℕ, List, Some, map, slice_get}
use Rattle.std.proofs.lemmas.Option.{slice_get_past}
use Rattle.std.specs.declared.cmp.Ordering.TheVariants.{Less, Equal, Greater}
use Rattle.hook_base.specs.Rising.{path_cmp}
use Rattle.hook_base.specs.RisingLemmas.{below_from_greater, path_tied}
use Rattle.hook_base.specs.Trees.{path_of}
use Rattle.child_port.proofs.SearchLemmas.{LaterAbove, none_earlier, none_later, more_earlier, more_later, missing, path_at}
use Rattle.child_port.proofs.path_index.halves_index.Goals as goal

pub halves-init : goal.halves-init
halves-init c =
    (omega arith, omega arith, none_earlier c.args.path.now c.args.tree.now, none_later c.args.path.now c.args.tree.now c.len-high.result (λ k over. slice_get_past c.args.tree.now k (omega arith)))

pub halves-preserved-in-Less : goal.halves-preserved-in-Less
halves-preserved-in-Less c =
    let middle = c.halves.low + (c.halves.high - c.halves.low) / 2 in
    let row = c.entry.result.now in
    let order : path_cmp row.path c.args.path.now ≡ Less = ap (λ (p : List ℕ). path_cmp p c.args.path.now) (sym c.as_str.ensures.same) ∙ sym c.in-Less.ensures in
    (omega arith, omega arith, more_earlier c.args.path.now c.args.tree.now middle row c.entry.ensures.row c.entry.ensures.rising (record { is_less = order }), c.halves.invariant.3)

pub returns-in-Equal-clause-place : goal.returns-in-Equal-clause-place
returns-in-Equal-clause-place c =
    let middle = c.halves.low + (c.halves.high - c.halves.low) / 2 in
    let row = c.entry.result.now in
    let order : path_cmp row.path c.args.path.now ≡ Equal = ap (λ (p : List ℕ). path_cmp p c.args.path.now) (sym c.as_str.ensures.same) ∙ sym c.in-Equal.ensures in
    (omega arith, subst (λ (p : List ℕ). slice_get (map path_of c.args.tree.now) middle ≡ Some p) (path_tied row.path c.args.path.now order) (path_at c.args.tree.now middle row c.entry.ensures.row))

pub halves-preserved : goal.halves-preserved
halves-preserved c =
    let middle = c.halves.low + (c.halves.high - c.halves.low) / 2 in
    let row = c.entry.result.now in
    let order : path_cmp row.path c.args.path.now ≡ Greater = ap (λ (p : List ℕ). path_cmp p c.args.path.now) (sym c.as_str.ensures.same) ∙ sym c.in-Greater.ensures in (
      omega arith,
      omega arith,
      c.halves.invariant.2,
      more_later c.args.path.now c.args.tree.now middle row c.entry.ensures.row c.entry.ensures.rising
          (below_from_greater c.args.path.now row.path order),
    )

pub returns-clause-place : goal.returns-clause-place
returns-clause-place c =
    let met : c.halves.high ≡ c.halves.low = omega arith in
    missing c.args.path.now c.args.tree.now c.halves.low c.halves.invariant.2 (subst (λ (n : ℕ). LaterAbove c.args.path.now c.args.tree.now n) met c.halves.invariant.3)
