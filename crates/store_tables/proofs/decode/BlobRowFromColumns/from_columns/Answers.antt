use Rattle.store_tables.proofs.ColumnLemmas.{columns_2}
use Rattle.store_tables.proofs.decode.BlobRowFromColumns.from_columns.Goals as goal

pub returns : goal.returns
returns c = columns_2 c.args.first c.args.row.now _ _ c.in_ok-has_columns.ensures c.in_ok-digest.ensures c.in_ok-bytes.ensures
