use Rattle.std.proofs.Common.{◌∙◌, sym}
use Rattle.hook_run.proofs.RowLemmas.{entry-here, entry-behind}
use Rattle.hook_run.proofs.command.entry_at.Goals as goal

pub returns-then-is_at : goal.returns-then-is_at
returns-then-is_at c =
    sym (c.rows.invariant
    ∙ entry-here c.args.path.now c.args.tree.now c.rows.index c.entry-row.result.now c.entry-row.ensures.row (sym c.is_at.ensures ∙ c.if-is_at.true))

pub rows-preserved : goal.rows-preserved
rows-preserved c =
    c.rows.invariant
    ∙ entry-behind c.args.path.now c.args.tree.now c.rows.index c.entry-row.result.now c.entry-row.ensures.row (sym c.is_at.ensures ∙ c.if-is_at.false)
