use Rattle.std.proofs.Common.{SFits, w64, rules, to_z-of_z}
use Rattle.store_tables.proofs.ColumnLemmas.{columns_3}
use Rattle.store_tables.proofs.decode.FixRowFromColumns.from_columns.Goals as goal

pub returns : goal.returns
returns c = let fits-gone : SFits w64 c.in_ok-gone.gone =
    search rules in rw (to_z-of_z fits-gone) (columns_3 c.args.first c.args.row.now _ _ _ c.in_ok-has_columns.ensures c.in_ok-path.ensures c.in_ok-gone.ensures c.in_ok-digest.ensures)
