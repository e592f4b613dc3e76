use Rattle.std.proofs.Common.{SFits, w64, rules, to_z-of_z}
use Rattle.store_tables.proofs.ColumnLemmas.{columns_2}
use Rattle.store_tables.proofs.decode.CommitRowFromColumns.from_columns.Goals as goal

pub returns : goal.returns
returns c = let fits-n : SFits w64 c.in_ok-n.n = search rules in rw (to_z-of_z fits-n) (columns_2 c.args.first c.args.row.now _ _ c.in_ok-has_columns.ensures c.in_ok-n.ensures c.in_ok-message.ensures)
