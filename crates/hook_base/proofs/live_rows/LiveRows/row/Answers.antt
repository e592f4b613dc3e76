use Rattle.std.proofs.Common.{◌≡◌, ◌∙◌, List, Some, ap, arith, length, subst, sym}
use Rattle.std.specs.Prelude.{slice_get}
use Rattle.hook_base.specs.declared.file.File.{File}
use Rattle.hook_base.specs.declared.row_state.RowState.{RowState}
use Rattle.hook_base.specs.Overlays.{standing_at}
use Rattle.hook_base.specs.Trees.{IsRising}
use Rattle.hook_base.proofs.OverlayLemmas.{IsRising-live_rows, chosen, live_count, nth-within, standing-nth, states-length}
use Rattle.hook_base.proofs.live_rows.LiveRows.row.Goals as goal

pub index-requires : goal.index-requires
index-requires c =
    let count = live_count c.self.inside.base c.self.inside.states.items c.self.inside.live.items c.args.self.now c.self.invariant.1 c.self.invariant.2 c.self.view_is in
    omega (arith, c.requires)

pub standing_row-requires-clause-row : goal.standing_row-requires-clause-row
standing_row-requires-clause-row c =
    let is =
    chosen c.self.inside.base c.self.inside.states.items c.self.inside.live.items c.args.self.now c.args.index c.index.result.now c.self.invariant.1 c.self.invariant.2 c.self.view_is c.requires
    c.index.ensures in
    let within = nth-within c.self.inside.states.items c.args.index c.index.result.now is in
    let same = states-length c.self.inside.base c.self.inside.states.items c.self.invariant.1 in
    let shown = ap length c.as_slice.ensures in
    omega arith

pub standing_row-requires-clause-state : goal.standing_row-requires-clause-state
standing_row-requires-clause-state c =
    let is =
    chosen c.self.inside.base c.self.inside.states.items c.self.inside.live.items c.args.self.now c.args.index c.index.result.now c.self.invariant.1 c.self.invariant.2 c.self.view_is c.requires
    c.index.ensures in
    let within = nth-within c.self.inside.states.items c.args.index c.index.result.now is in
    let shown = ap length c.as_slice-2.ensures.value in
    omega arith

pub returns-clause-row : goal.returns-clause-row
returns-clause-row c =
    let base = c.self.inside.base in
    let states = c.self.inside.states.items in
    let k = c.index.result.now in
    let row = c.standing_row.result.now in
    let is = chosen base states c.self.inside.live.items c.args.self.now c.args.index k c.self.invariant.1 c.self.invariant.2 c.self.view_is c.requires c.index.ensures in
    let stood = subst (λ (shown : List File). standing_at shown c.as_slice-2.result.now k ≡ Some row) c.as_slice.ensures c.standing_row.ensures in
    let there = subst (λ (shown : List RowState). standing_at base shown k ≡ Some row) c.as_slice-2.ensures.value stood in
    ap (λ (rows : List File). slice_get rows c.args.index) (sym c.self.view_is) ∙ (sym (standing-nth base states c.args.index k c.self.invariant.1 is) ∙ there)

pub returns-clause-rising : goal.returns-clause-rising
returns-clause-rising c =
    subst IsRising c.self.view_is (IsRising-live_rows c.self.inside.base c.self.inside.states.items c.self.invariant.1 c.self.invariant.0)
