use Rattle.std.proofs.Common.{◌≡◌, ◌++◌, map}
use Rattle.std.specs.List.{AllByRecursion}
use Rattle.std.specs.Vec.Iter.{into_iter_items}
use Rattle.repo_store.specs.Rows.{blob_row}
use Rattle.repo_store.specs.RowRules.{IsBlobRow}
use Rattle.repo_store.proofs.from_rows.blobs.contents_of.Given as goal

abbrev pub invariant-rows : goal.invariant-rows
invariant-rows l = record { left : l.yielded ++ into_iter_items l.row-iterator ≡ l.fn.rows.items; contents : map blob_row l.contents ≡ l.yielded; obeys : AllByRecursion IsBlobRow l.yielded }
