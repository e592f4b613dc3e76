use Rattle.std.proofs.Common.{SFits, w64, rules, to_z-of_z}
use Rattle.store_tables.proofs.ColumnLemmas.{columns_2}
use Rattle.store_tables.proofs.decode.MetaRowFromColumns.from_columns.Goals as goal

pub returns : goal.returns
returns c = let fits-value : SFits w64 c.in_ok-value.value =
    search rules in rw (to_z-of_z fits-value) (columns_2 c.args.first c.args.row.now _ _ c.in_ok-has_columns.ensures c.in_ok-name.ensures c.in_ok-value.ensures)
