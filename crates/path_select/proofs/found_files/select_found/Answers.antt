use Rattle.std.proofs.Common.{◌≡◌, ◌∙◌, ◌≤◌, sym, refl, length, arith}
use Rattle.path_select.specs.Patterns.{is_found}
use Rattle.path_select.proofs.FoundLemmas.{all_found, found_more, found_same}
use Rattle.path_select.proofs.found_files.select_found.Goals as goal
use Rattle.path_select.proofs.found_files.select_found.Goals.{then-finds+in_ok-clone+in_ok-push, else-finds}

pub files-init : goal.files-init
files-init c = (c.in_ok-search.ensures, rw c.new-found.ensures.items refl)

pub files-preserved : goal.files-preserved
files-preserved c =
    let pattern = c.args.pattern.now in
    let tree = c.args.tree.now in
    let row = c.entry.result.now in
    let answer : c.finds.result ≡ is_found pattern row.path = rw (← c.files.invariant.0, ← c.as_str.ensures.same) c.finds.ensures.found in (
      c.finds.ensures.same ∙ c.files.invariant.0,
      elim c.if-finds.branch [
        | then-finds+in_ok-clone+in_ok-push w ↦
            rw (w.found-is, w.in_ok-push.ensures.items, w.in_ok-clone.ensures.cases)
            (found_more pattern c.files.found.items tree c.files.index row c.entry.ensures.row (sym answer ∙ w.if-finds.true) c.files.invariant.1)
        | else-finds w ↦
            rw w.found-is
            (found_same pattern c.files.found.items tree c.files.index row c.entry.ensures.row (sym answer ∙ w.if-finds.false) c.files.invariant.1)
      ],
    )

pub returns : goal.returns
returns c =
    let past : length c.args.tree.now ≤ c.files.index = omega arith in
    c.from.ensures ∙ all_found c.args.pattern.now c.files.found.items c.args.tree.now c.files.index past c.files.invariant.1
