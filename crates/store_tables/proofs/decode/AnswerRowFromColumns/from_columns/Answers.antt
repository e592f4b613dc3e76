use Rattle.std.proofs.Common.{SFits, w64, rules, to_z-of_z}
use Rattle.store_tables.proofs.ColumnLemmas.{columns_5}
use Rattle.store_tables.proofs.decode.AnswerRowFromColumns.from_columns.Goals as goal

pub returns : goal.returns
returns c = let fits-status : SFits w64 c.in_ok-status.status =
    search rules in rw (to_z-of_z fits-status) (columns_5 c.args.first c.args.row.now _ _ _ _ _ c.in_ok-has_columns.ensures c.in_ok-words.ensures c.in_ok-seen.ensures c.in_ok-output.ensures
    c.in_ok-changes.ensures c.in_ok-status.ensures)
