use Rattle.std.proofs.Common.{◌≡◌, ◌∙◌, ◌<◌, ◌∷◌, [], length, sym, arith}
use Rattle.path_select.proofs.KeptLemmas.{kept_more, kept_same, paths_of_append}
use Rattle.path_select.specs.Candidates.{passes}
use Rattle.path_select.proofs.candidates.filtered.Goals as goal
use Rattle.path_select.proofs.candidates.filtered.Goals.{then-passes+in_ok-push, else-passes}

pub paths-preserved : goal.paths-preserved
paths-preserved c =
    let test = passes c.in_ok-test.test.files c.in_ok-test.test.exclude in
    let paths = c.deref-path-items.result.now in
    let path = c.path-item.result in
    let within : c.paths.path-index < length paths = omega arith in
    let answer : c.passes.result ≡ test path.now = rw (← c.paths.invariant.0, ← c.paths.invariant.1, ← c.as_str.ensures.same) c.passes.ensures.passes in (
      rw c.passes.ensures.same c.paths.invariant.0,
      rw c.passes.ensures.same c.paths.invariant.1,
      elim c.if-passes.branch [
        | then-passes+in_ok-push w ↦
            rw (w.kept-is, w.in_ok-push.ensures.items, paths_of_append c.paths.kept.items (path ∷ []), c.paths.invariant.2)
            (sym (kept_more test paths c.paths.path-index path within c.path-item.is (sym answer ∙ w.if-passes.true)))
        | else-passes w ↦
            rw (w.kept-is, c.paths.invariant.2) (sym (kept_same test paths c.paths.path-index path within c.path-item.is (sym answer ∙ w.if-passes.false)))
      ],
    )
