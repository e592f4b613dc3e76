use Rattle.std.proofs.Common.{◌≡◌, ◌∙◌, ◌+◌, ◌-◌, ◌/◌, ◌<◌, length, get_or, arith, ap, sym, subst, ℕ, suc}
use Rattle.std.specs.declared.cmp.Ordering.TheVariants.{Less}
use Rattle.std.proofs.lemmas.Option.{get_or_from_slice_get}
use Rattle.hook_base.specs.declared.file.File.{File}
use Rattle.hook_base.specs.Overlays.{UpTo}
use Rattle.hook_base.specs.Rising.{IsBelow}
use Rattle.hook_base.proofs.PlaceLemmas.{up_to}
use Rattle.hook_base.proofs.SplitLemmas.{any_default, behind, compared}
use Rattle.hook_base.proofs.row_order.added_before.Goals as goal

pub halves-preserved-in-Less : goal.halves-preserved-in-Less
halves-preserved-in-Less c =
    let middle = c.halves.low + (c.halves.high - c.halves.low) / 2 in
    let row = c.index-added-middle.result in
    let last = c.row-last.result.now in
    let within : middle < length c.args.added.now = omega arith in
    let next : suc middle ≡ middle + 1 = omega arith in
    let place : c.args.index - middle - 1 ≡ c.args.index - (middle + 1) = omega arith in
    let less =
    compared c.as_file.result.now c.as_file-in-halves.result.now (get_or c.args.added.now middle row) last Less (c.as_file.ensures ∙ c.index-added-middle.is) c.as_file-in-halves.ensures
    (sym c.in-Less.ensures) in
    let below : IsBelow (get_or c.args.added.now middle row).path last.path = record { is_less = less } in
    let first = subst (λ (n : ℕ). UpTo last.path c.args.added.now n) next (up_to last.path c.args.added.now middle row within c.requires.rising below) in (
      omega arith,
      c.halves.invariant.1,
      c.halves.invariant.2,
      omega arith,
      λ d more.
          let stood = sym (get_or_from_slice_get c.args.base.now (c.args.index - middle - 1) last d c.row-last.ensures.row) ∙ ap (λ (n : ℕ). get_or c.args.base.now n d) place in
          subst (λ (row : File). UpTo row.path c.args.added.now (middle + 1)) stood first,
      c.halves.invariant.5,
    )

pub halves-preserved : goal.halves-preserved
halves-preserved c =
    let middle = c.halves.low + (c.halves.high - c.halves.low) / 2 in
    let q = c.args.index - middle - 1 in
    let row = c.index-added-middle.result in
    let last = c.row-last.result.now in
    let within : middle < length c.args.added.now = omega arith in
    let of_rows : q < length c.args.base.now = omega arith in
    let next : suc q ≡ c.args.index - middle = omega arith in
    let at = get_or_from_slice_get c.args.base.now q last last c.row-last.ensures.row in
    let above = behind c.args.added.now c.args.base.now middle q row last c.requires.rising c.row-last.ensures.rising c.requires.apart within of_rows (sym c.index-added-middle.is) at (λ less.
    c.in_default.not-Less (c.cmp.ensures ∙ compared row last c.as_file.result.now c.as_file-in-halves.result.now Less (sym c.as_file.ensures) (sym c.as_file-in-halves.ensures) less)) in
    let below = subst (λ (l : File). IsBelow l.path row.path) (sym at) above in
    let first = subst (λ (n : ℕ). UpTo row.path c.args.base.now n) next (up_to row.path c.args.base.now q last of_rows c.row-last.ensures.rising below) in (
      omega arith,
      omega arith,
      omega arith,
      c.halves.invariant.3,
      c.halves.invariant.4,
      λ d more.
          subst (λ (r : File). UpTo r.path c.args.base.now (c.args.index - middle)) (c.index-added-middle.is ∙ any_default c.args.added.now middle row d within) first,
    )
