use Rattle.std.proofs.Common.{◌∙◌, List, ap, arith, get_or, set, subst, sym}
use Rattle.hook_base.specs.declared.file.File.{File}
use Rattle.hook_base.specs.declared.row_state.RowState.{RowState}
use Rattle.hook_base.specs.declared.row_state.RowState.TheVariants.{Replaced}
use Rattle.hook_base.specs.Overlays.{AreStatesOf, live_indices, live_rows}
use Rattle.hook_base.proofs.OverlayLemmas.{chosen, live_count, live_indices-replaced, live_rows-replaced, nth-within, path-nth, states-set}
use Rattle.hook_base.proofs.live_rows.LiveRows.replace.Goals as goal

pub index-requires : goal.index-requires
index-requires c =
    let count = live_count c.self.inside.base c.self.inside.states.items c.self.inside.live.items c.args.self.now c.self.invariant.1 c.self.invariant.2 c.self.view_is in
    omega (arith, c.requires.within)

pub set_state-requires : goal.set_state-requires
set_state-requires c =
    let is =
    chosen c.self.inside.base c.self.inside.states.items c.self.inside.live.items c.args.self.now c.args.index c.index.result.now c.self.invariant.1 c.self.invariant.2 c.self.view_is
    c.requires.within c.index.ensures in
    nth-within c.self.inside.states.items c.args.index c.index.result.now is

pub invariant_of-self : goal.invariant_of-self
invariant_of-self c =
    let base = c.self.inside.base in
    let states = c.self.inside.states.items in
    let k = c.index.result.now in
    let row = c.args.row in
    let is = chosen base states c.self.inside.live.items c.args.self.now c.args.index k c.self.invariant.1 c.self.invariant.2 c.self.view_is c.requires.within c.index.ensures in
    let stood = c.requires.path ∙ ap (λ (rows : List File). (get_or rows c.args.index row).path) (sym c.self.view_is) in (
      c.self.invariant.0,
      subst (λ (states : List RowState). AreStatesOf base states) (sym c.set_state.ensures)
          (states-set base states k (Replaced row) c.self.invariant.1 (λ d. stood ∙ path-nth base states c.args.index k row d c.self.invariant.1 is)),
      c.self.invariant.2
          ∙ (sym (live_indices-replaced 0 states c.args.index k row is) ∙ ap (λ (states : List RowState). live_indices 0 states) (sym c.set_state.ensures)),
    )

pub returns : goal.returns
returns c =
    let base = c.self.inside.base in
    let states = c.self.inside.states.items in
    let k = c.index.result.now in
    let is = chosen base states c.self.inside.live.items c.args.self.now c.args.index k c.self.invariant.1 c.self.invariant.2 c.self.view_is c.requires.within c.index.ensures in
    ap (λ (states : List RowState). live_rows base states) c.set_state.ensures
    ∙ (live_rows-replaced base states c.args.index k c.args.row c.self.invariant.1 is ∙ ap (λ (rows : List File). set rows c.args.index c.args.row) c.self.view_is)
