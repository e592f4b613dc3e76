use Rattle.std.proofs.Common.{◌≡◌, ◌∙◌, ◌<◌, length, sym, ap, arith}
use Rattle.path_select.proofs.KeptLemmas.{kept_more, kept_same}
use Rattle.path_select.specs.Chosen.{fits_at, fits_entry}
use Rattle.path_select.specs.Selection.{texts_of_rules}
use Rattle.path_select.proofs.selection.chosen_of.Goals as goal
use Rattle.path_select.proofs.selection.chosen_of.Goals.{then-branch+in_ok-clone+in_ok-push, else-branch}

pub paths-preserved : goal.paths-preserved
paths-preserved c =
    let rules = texts_of_rules c.args.rules.now in
    let test = fits_at rules c.args.tree.now in
    let paths = c.args.paths.now in
    let path = c.path-item.result in
    let within : c.paths.path-index < length paths = omega arith in
    let answer : c.in_ok-fits.field-0 ≡ test path.now = c.in_ok-fits.ensures.fits ∙ ap (fits_entry rules path.now) c.entry_near-entry.ensures in (
      rw c.fits.ensures.same c.paths.invariant.0,
      rw c.fits.ensures.same c.paths.invariant.1,
      elim c.if-branch.branch [
        | then-branch+in_ok-clone+in_ok-push w ↦
            rw (w.chosen-is, w.in_ok-push.ensures.items, w.in_ok-clone.ensures.cases, c.paths.invariant.2)
            (sym (kept_more test paths c.paths.path-index path within c.path-item.is (sym answer ∙ w.if-branch.true)))
        | else-branch w ↦
            rw (w.chosen-is, c.paths.invariant.2) (sym (kept_same test paths c.paths.path-index path within c.path-item.is (sym answer ∙ w.if-branch.false)))
      ],
    )
