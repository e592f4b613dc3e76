use Rattle.std.proofs.Common.{◌∙◌, List, ap, subst, sym}
use Rattle.hook_base.specs.declared.file.File.{File}
use Rattle.hook_base.specs.declared.row_state.RowState.{RowState}
use Rattle.hook_base.specs.Overlays.{AreStatesOf, live_rows}
use Rattle.hook_base.specs.Trees.{IsRising}
use Rattle.hook_base.proofs.OverlayLemmas.{live_rows-kept, states-kept}
use Rattle.hook_base.proofs.live_rows.LiveRows.of.Goals as goal

pub invariant_of-result : goal.invariant_of-result
invariant_of-result c =
    let rows = c.args.rows.items in
    let kept = subst (λ (states : List RowState). AreStatesOf rows states) (sym c.in_ok-states.ensures) (states-kept rows) in
    (subst IsRising (sym c.in_ok-base.ensures) c.requires, subst (λ (base : List File). AreStatesOf base c.in_ok-states.states.items) (sym c.in_ok-base.ensures) kept, c.in_ok-live.ensures)

pub returns : goal.returns
returns c =
    ap (λ (base : List File). live_rows base c.in_ok-states.states.items) c.in_ok-base.ensures
    ∙ (ap (λ (states : List RowState). live_rows c.args.rows.items states) c.in_ok-states.ensures ∙ live_rows-kept c.args.rows.items)
