use Rattle.std.proofs.Common.{◌≡◌, ◌∙◌, List, ℕ, Some, ap, arith, length, set, subst, sym}
use Rattle.hook_base.specs.declared.file.File.{File}
use Rattle.hook_base.specs.declared.file.Mode.{Mode}
use Rattle.hook_base.specs.declared.row_state.RowState.{RowState}
use Rattle.hook_base.specs.declared.row_state.RowState.TheVariants.{Replaced}
use Rattle.hook_base.specs.Overlays.{AreStatesOf, live_rows, standing_at}
use Rattle.hook_base.specs.TreeLemmas.{at_within, path-at}
use Rattle.hook_base.specs.Trees.{with_bytes}
use Rattle.hook_base.proofs.OverlayLemmas.{live_rows-rewritten, rewrite_file-gone, standing-path, states-length, states-set}
use Rattle.hook_base.proofs.row_states.rewrite_state.Goals as goal

abbrev row_of : List ℕ → Mode → List ℕ → File
row_of path mode bytes = record { path = path; entry = record { mode = mode; bytes = bytes } }

pub index-requires : goal.index-requires
index-requires c =
    let within = at_within c.args.path c.args.base.now c.args.index c.requires.place in
    let same = states-length c.args.base.now c.args.states.now.items c.requires.states in
    omega arith

pub returns-in-Gone-clause-rewritten : goal.returns-in-Gone-clause-rewritten
returns-in-Gone-clause-rewritten c =
    sym (rewrite_file-gone c.args.path c.args.bytes c.args.base.now c.args.states.now.items c.args.index c.index.result.now c.requires.rising c.requires.states c.requires.place
    (sym c.index.ensures ∙ c.in-Gone.is))

pub standing_row-requires : goal.standing_row-requires
standing_row-requires c =
    let within = at_within c.args.path c.args.base.now c.args.index c.requires.place in
    let same = states-length c.args.base.now c.args.states.now.items c.requires.states in
    let shown = ap length c.as_slice.ensures.value in
    record { row = within; state = omega arith }

pub set_state-requires : goal.set_state-requires
set_state-requires c =
    let within = at_within c.args.path c.args.base.now c.args.index c.requires.place in
    let same = states-length c.args.base.now c.args.states.now.items c.requires.states in
    omega arith

pub returns : goal.returns
returns c =
    let base = c.args.base.now in
    let states = c.args.states.now.items in
    let k = c.args.index in
    let old = c.standing_row.result.now in
    let stood = subst (λ (shown : List RowState). standing_at base shown k ≡ Some old) c.as_slice.ensures.value c.standing_row.ensures in
    let path = standing-path c.args.path base states k old c.requires.states c.requires.place stood in
    let mode = ap (λ (file : File). file.entry.mode) c.as_file.ensures in
    let row : c.in_ok-row.row ≡ with_bytes c.args.bytes old =
    c.in_ok-row.ensures ∙ (ap (λ (p : List ℕ). row_of p c.as_file.result.now.entry.mode c.args.bytes) path ∙ ap (λ (m : Mode). row_of old.path m c.args.bytes) mode) in
    let new = c.set_state.ensures ∙ ap (λ (row : File). set states k (Replaced row)) row in
    let live =
    live_rows-rewritten c.args.path c.args.bytes base states k old c.index.result.now c.requires.rising c.requires.states c.requires.place stood
    (λ gone. c.in_default.not-Gone (c.index.ensures ∙ gone)) in
    record {
      rewritten = ap (λ (states : List RowState). live_rows base states) new ∙ live;
      states =
          subst (λ (states : List RowState). AreStatesOf base states) (sym new)
          (states-set base states k (Replaced (with_bytes c.args.bytes old)) c.requires.states (λ d. sym path ∙ path-at c.args.path base k d c.requires.place));
    }
