use Rattle.std.proofs.Common.{◌≡◌, ◌⊎◌, ◌∙◌, Some, ap, inl, inr, sym, get_or}
use Rattle.hook_base.specs.declared.file.File.{File}
use Rattle.hook_base.specs.declared.row_state.RowState.{RowState}
use Rattle.hook_base.specs.declared.row_state.RowState.TheVariants.{Kept, Gone}
use Rattle.hook_base.specs.Overlays.{row_by}
use Rattle.hook_base.proofs.OverlayLemmas.{standing-read}
use Rattle.hook_base.proofs.row_states.standing_row.Goals as goal

pub returns-in-Replaced : goal.returns-in-Replaced
returns-in-Replaced c =
    let base = c.args.base.now in
    let read = standing-read base c.args.states.now c.args.index c.in-Replaced.row c.index-states-index.result c.requires.row c.requires.state in
    let state = sym c.index-states-index.is ∙ c.in-Replaced.is in
    read ∙ ap (λ (state : RowState). Some (row_by (get_or base c.args.index c.in-Replaced.row) state)) state

stays : (row : File) (state : RowState) → (state ≡ Kept) ⊎ (state ≡ Gone) → row_by row state ≡ row
stays row state (inl kept) = ap (λ (s : RowState). row_by row s) kept
stays row state (inr gone) = ap (λ (s : RowState). row_by row s) gone

pub returns-in-Kept : goal.returns-in-Kept
returns-in-Kept c =
    let base = c.args.base.now in
    let row = c.index-base-index.result in
    let read = standing-read base c.args.states.now c.args.index row c.index-states-index.result c.requires.row c.requires.state in
    let state = ap (λ (s : RowState). row_by (get_or base c.args.index row) s) (sym c.index-states-index.is) in
    read ∙ ap (λ (stood : File). Some stood) (state ∙ (stays (get_or base c.args.index row) c.index-states-index.result c.in-Kept.is ∙ sym c.index-base-index.is))
