use Rattle.std.proofs.Common.{◌∙◌, sym}
use Rattle.hook_run.specs.PartsEnding.{is_modified_row}
use Rattle.hook_run.proofs.RowLemmas.{any-found, any-passed}
use Rattle.hook_run.proofs.modified.is_modified.Goals as goal

pub returns-then-is_modified_row : goal.returns-then-is_modified_row
returns-then-is_modified_row c =
    sym (c.rows.invariant
    ∙ any-found (is_modified_row c.args.after.now) c.args.before.now c.rows.index c.entry-row.result.now c.entry-row.ensures.row
    (sym c.is_modified_row.ensures ∙ c.if-is_modified_row.true))

pub rows-preserved : goal.rows-preserved
rows-preserved c =
    c.rows.invariant
    ∙ any-passed (is_modified_row c.args.after.now) c.args.before.now c.rows.index c.entry-row.result.now c.entry-row.ensures.row
    (sym c.is_modified_row.ensures ∙ c.if-is_modified_row.false)
