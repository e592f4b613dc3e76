use Rattle.path_select.proofs.SelectionLemmas.{looked_up}
use Rattle.path_select.specs.Candidates.{paths_of}
use Rattle.path_select.specs.Selection.{texts_of_rules}
use Rattle.path_select.proofs.kept_selection.select_kept_among.Goals as goal

pub returns : goal.returns
returns c =
    let rules = texts_of_rules c.args.rules.now in
    let paths = paths_of c.among.inside.paths.items in
    rw (c.from.ensures, c.in_ok-chosen.ensures, c.as_slice.ensures.value, ← c.among.view_is) (looked_up rules paths c.args.tree.now c.among.invariant c.len.ensures.rising)
