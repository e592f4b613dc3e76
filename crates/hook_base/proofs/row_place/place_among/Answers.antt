use Rattle.std.proofs.Common.{◌≡◌, ◌∙◌, ◌+◌, ◌-◌, ◌/◌, ◌<◌, length, get_or, arith, ap, sym, subst, ℕ, suc}
use Rattle.std.proofs.lemmas.Option.{get_or_from_slice_get}
use Rattle.hook_base.specs.declared.file.File.{File}
use Rattle.hook_base.specs.Overlays.{From, UpTo}
use Rattle.hook_base.specs.Rising.{IsBelow, path_cmp}
use Rattle.hook_base.specs.RisingLemmas.{below_from_greater, path_tied}
use Rattle.hook_base.proofs.PlaceLemmas.{From-length, up_to, from_on, found, gap}
use Rattle.hook_base.proofs.row_place.place_among.Goals as goal

pub halves-init : goal.halves-init
halves-init c =
    let count = c.len-high.ensures.count in
    (omega arith, omega arith, tt, subst (λ (n : ℕ). From c.args.path.now c.args.rows.now n) (sym count) (From-length c.args.path.now c.args.rows.now))

pub halves-preserved-in-Less : goal.halves-preserved-in-Less
halves-preserved-in-Less c =
    let middle = c.halves.low + (c.halves.high - c.halves.low) / 2 in
    let row = c.row.result.now in
    let within : middle < length c.args.rows.now = omega arith in
    let next : suc middle ≡ middle + 1 = omega arith in
    let is = sym (get_or_from_slice_get c.args.rows.now middle row row c.row.ensures.row) in
    let compared = ap (λ (row : File). path_cmp row.path c.args.path.now) (sym (c.as_file.ensures ∙ is)) ∙ sym c.in-Less.ensures in
    let below : IsBelow (get_or c.args.rows.now middle row).path c.args.path.now = record { is_less = compared } in (
      omega arith,
      omega arith,
      subst (λ (n : ℕ). UpTo c.args.path.now c.args.rows.now n) next (up_to c.args.path.now c.args.rows.now middle row within c.row.ensures.rising below),
      c.halves.invariant.3,
    )

pub returns-in-Equal-clause-place : goal.returns-in-Equal-clause-place
returns-in-Equal-clause-place c =
    let middle = c.halves.low + (c.halves.high - c.halves.low) / 2 in
    let row = c.row.result.now in
    let within : middle < length c.args.rows.now = omega arith in
    let is = sym (get_or_from_slice_get c.args.rows.now middle row row c.row.ensures.row) in
    let compared = ap (λ (row : File). path_cmp row.path c.args.path.now) (sym (c.as_file.ensures ∙ is)) ∙ sym c.in-Equal.ensures in
    found c.args.path.now c.args.rows.now middle row within c.row.ensures.rising (sym (path_tied (get_or c.args.rows.now middle row).path c.args.path.now compared))

pub halves-preserved : goal.halves-preserved
halves-preserved c =
    let middle = c.halves.low + (c.halves.high - c.halves.low) / 2 in
    let row = c.row.result.now in
    let within : middle < length c.args.rows.now = omega arith in
    let is = sym (get_or_from_slice_get c.args.rows.now middle row row c.row.ensures.row) in
    let compared = ap (λ (row : File). path_cmp row.path c.args.path.now) (sym (c.as_file.ensures ∙ is)) ∙ sym c.in-Greater.ensures in (
      omega arith,
      omega arith,
      c.halves.invariant.2,
      from_on c.args.path.now c.args.rows.now middle row within c.row.ensures.rising
          (below_from_greater c.args.path.now (get_or c.args.rows.now middle row).path compared),
    )

pub returns-clause-place : goal.returns-clause-place
returns-clause-place c =
    let met : c.halves.high ≡ c.halves.low = omega arith in
    gap c.args.path.now c.args.rows.now c.halves.low c.halves.invariant.2 (subst (λ (n : ℕ). From c.args.path.now c.args.rows.now n) met c.halves.invariant.3)
