use Rattle.std.proofs.Common.{◌≡◌, ℕ, List, IfOk, subst}
use Rattle.path_select.specs.Selection.{texts_of_rules}
use Rattle.path_select.specs.SelectionLaws.{selected_among_passing}
use Rattle.path_select.proofs.kept_selection.select_kept.Goals as goal

pub returns : goal.returns
returns c =
    subst (λ (paths : List (List ℕ)). IfOk c.select_kept_among.result (λ chosen. chosen ≡ paths))
    (selected_among_passing (texts_of_rules c.args.rules.now) c.args.candidates.now c.in_ok-among.among c.args.tree.now c.in_ok-among.ensures)
    c.select_kept_among.ensures
