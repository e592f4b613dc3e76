use Rattle.std.proofs.Common.{SFits, w64, rules, to_z-of_z}
use Rattle.store_tables.proofs.ColumnLemmas.{columns_3}
use Rattle.store_tables.proofs.decode.UseRowFromColumns.from_columns.Goals as goal

pub returns : goal.returns
returns c = let fits-tick : SFits w64 c.in_ok-tick.tick =
    search rules in rw (to_z-of_z fits-tick) (columns_3 c.args.first c.args.row.now _ _ _ c.in_ok-has_columns.ensures c.in_ok-words.ensures c.in_ok-seen.ensures c.in_ok-tick.ensures)
