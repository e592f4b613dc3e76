use Rattle.std.proofs.Common.{SFits, w64, rules, to_z-of_z}
use Rattle.store_tables.proofs.ColumnLemmas.{columns_4}
use Rattle.store_tables.proofs.decode.EntryRowFromColumns.from_columns.Goals as goal

pub returns : goal.returns
returns c = let fits-n : SFits w64 c.in_ok-n.n = search rules in let fits-mode : SFits w64 c.in_ok-mode.mode =
    search rules in rw (to_z-of_z fits-n, to_z-of_z fits-mode) (columns_4 c.args.first c.args.row.now _ _ _ _ c.in_ok-has_columns.ensures c.in_ok-n.ensures c.in_ok-path.ensures c.in_ok-mode.ensures
    c.in_ok-digest.ensures)
