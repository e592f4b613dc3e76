use Rattle.std.proofs.Common.{◌∙◌, List, Option, ℕ, ap, arith, subst, sym}
use Rattle.hook_base.specs.declared.row_state.RowState.{RowState}
use Rattle.hook_base.specs.declared.row_state.RowState.TheVariants.{Gone}
use Rattle.hook_base.specs.Overlays.{AreStatesOf, live_rows}
use Rattle.hook_base.specs.TreeLemmas.{at_within}
use Rattle.hook_base.specs.Trees.{apply_at}
use Rattle.hook_base.proofs.OverlayLemmas.{apply_at-absent, entry_of-live_rows-gap, live_rows-gone, states-length, states-set}
use Rattle.hook_base.proofs.row_states.apply_to_state.Goals as goal

pub returns-in-Before-clause-applied : goal.returns-in-Before-clause-applied
returns-in-Before-clause-applied c =
    sym (apply_at-absent c.args.change.path c.args.change.now (live_rows c.args.base.now c.args.states.now.items)
    (entry_of-live_rows-gap c.args.change.path c.args.base.now c.args.states.now.items c.in-Before.index c.requires.states c.in-Before.ensures))

pub set_state-requires : goal.set_state-requires
set_state-requires c =
    let within = at_within c.args.change.path c.args.base.now c.in-At.index c.in-At.ensures in
    let same = states-length c.args.base.now c.args.states.now.items c.requires.states in
    omega arith

pub returns-in-None-clause-applied : goal.returns-in-None-clause-applied
returns-in-None-clause-applied c =
    ap (λ (states : List RowState). live_rows c.args.base.now states) c.set_state.ensures
    ∙ live_rows-gone c.args.change.path c.args.base.now c.args.states.now.items c.in-At.index c.requires.rising c.requires.states c.in-At.ensures
    ∙ ap (λ (now : Option (List ℕ)). apply_at c.args.change.path now (live_rows c.args.base.now c.args.states.now.items)) (sym c.in-None.is)

pub returns-in-None-clause-states : goal.returns-in-None-clause-states
returns-in-None-clause-states c =
    subst (λ (states : List RowState). AreStatesOf c.args.base.now states) (sym c.set_state.ensures) (states-set c.args.base.now c.args.states.now.items c.in-At.index Gone c.requires.states (λ d. tt))
