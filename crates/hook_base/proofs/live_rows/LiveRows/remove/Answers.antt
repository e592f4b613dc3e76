use Rattle.std.proofs.Common.{◌∙◌, List, ℕ, ap, arith, remove, subst, sym}
use Rattle.hook_base.specs.declared.file.File.{File}
use Rattle.hook_base.specs.declared.row_state.RowState.{RowState}
use Rattle.hook_base.specs.declared.row_state.RowState.TheVariants.{Gone}
use Rattle.hook_base.specs.Overlays.{AreStatesOf, live_indices, live_rows}
use Rattle.hook_base.proofs.OverlayLemmas.{chosen, live_count, live_indices-removed, live_rows-removed, nth-within, states-set}
use Rattle.hook_base.proofs.live_rows.LiveRows.remove.Goals as goal

pub remove-gone-requires : goal.remove-gone-requires
remove-gone-requires c =
    let count = live_count c.self.inside.base c.self.inside.states.items c.self.inside.live.items c.args.self.now c.self.invariant.1 c.self.invariant.2 c.self.view_is in
    omega (arith, c.requires)

pub set_state-requires : goal.set_state-requires
set_state-requires c =
    let is =
    chosen c.self.inside.base c.self.inside.states.items c.self.inside.live.items c.args.self.now c.args.index c.remove-gone.result c.self.invariant.1 c.self.invariant.2 c.self.view_is c.requires
    c.remove-gone.ensures.value in
    nth-within c.self.inside.states.items c.args.index c.remove-gone.result is

pub invariant_of-self : goal.invariant_of-self
invariant_of-self c =
    let base = c.self.inside.base in
    let states = c.self.inside.states.items in
    let k = c.remove-gone.result in
    let is = chosen base states c.self.inside.live.items c.args.self.now c.args.index k c.self.invariant.1 c.self.invariant.2 c.self.view_is c.requires c.remove-gone.ensures.value in
    let live = ap (λ (indices : List ℕ). remove indices c.args.index) c.self.invariant.2 ∙ sym (live_indices-removed 0 states c.args.index k is) in (
      c.self.invariant.0,
      subst (λ (states : List RowState). AreStatesOf base states) (sym c.set_state.ensures) (states-set base states k Gone c.self.invariant.1 (λ d. tt)),
      c.remove-gone.ensures.items
          ∙ (live ∙ ap (λ (states : List RowState). live_indices 0 states) (sym c.set_state.ensures)),
    )

pub returns : goal.returns
returns c =
    let base = c.self.inside.base in
    let states = c.self.inside.states.items in
    let k = c.remove-gone.result in
    let is = chosen base states c.self.inside.live.items c.args.self.now c.args.index k c.self.invariant.1 c.self.invariant.2 c.self.view_is c.requires c.remove-gone.ensures.value in
    ap (λ (states : List RowState). live_rows base states) c.set_state.ensures
    ∙ (live_rows-removed base states c.args.index k c.self.invariant.1 is ∙ ap (λ (rows : List File). remove rows c.args.index) c.self.view_is)
