use Rattle.std.proofs.Common.{◌≡◌, ◌∙◌, ◌<◌, length, sym, ap, arith}
use Rattle.hook_base.specs.Trees.{entry_of}
use Rattle.path_select.proofs.IndexLemmas.{fits_tags_of}
use Rattle.path_select.proofs.KeptLemmas.{kept_more, kept_same}
use Rattle.path_select.specs.Chosen.{fits_at}
use Rattle.path_select.specs.KeptTags.{fits_tags}
use Rattle.path_select.specs.Selection.{texts_of_rules}
use Rattle.path_select.proofs.kept_selection.chosen_by_tags.Goals as goal
use Rattle.path_select.proofs.kept_selection.chosen_by_tags.Goals.{then-fits_tags+in_ok-clone+in_ok-push, else-fits_tags}

pub paths-preserved : goal.paths-preserved
paths-preserved c =
    let rules = texts_of_rules c.args.rules.now in
    let tree = c.args.tree.now in
    let test = fits_at rules tree in
    let paths = c.args.paths.now in
    let path = c.path-item.result in
    let within : c.paths.path-index < length paths = omega arith in
    let answer : c.fits_tags.result ≡ test path.now = c.fits_tags.ensures.fits ∙ ap (fits_tags rules path.now) c.tags_near-found.ensures ∙ fits_tags_of rules path.now (entry_of path.now tree) in (
      rw c.fits_tags.ensures.same c.paths.invariant.0,
      rw c.fits_tags.ensures.same c.paths.invariant.1,
      elim c.if-fits_tags.branch [
        | then-fits_tags+in_ok-clone+in_ok-push w ↦
            rw (w.chosen-is, w.in_ok-push.ensures.items, w.in_ok-clone.ensures.cases, c.paths.invariant.2)
            (sym (kept_more test paths c.paths.path-index path within c.path-item.is (sym answer ∙ w.if-fits_tags.true)))
        | else-fits_tags w ↦
            rw (w.chosen-is, c.paths.invariant.2) (sym (kept_same test paths c.paths.path-index path within c.path-item.is (sym answer ∙ w.if-fits_tags.false)))
      ],
    )
