use Rattle.std.proofs.Common.{◌≡◌, ◌++◌, map}
use Rattle.std.specs.List.{AllByRecursion}
use Rattle.std.specs.Vec.Iter.{into_iter_items}
use Rattle.hook_base.specs.Trees.{IsRising}
use Rattle.repo_store.specs.Complete.{HaveContents}
use Rattle.repo_store.specs.Lists.{file_of}
use Rattle.repo_store.specs.Rows.{blob_row, staged_row}
use Rattle.repo_store.specs.RowRules.{IsStagedRow}
use Rattle.repo_store.proofs.from_rows.staged.files_of.Given as goal

abbrev pub invariant-rows : goal.invariant-rows
invariant-rows l =
    record {
      left : l.yielded ++ into_iter_items l.row-iterator ≡ l.fn.rows.items;
      files : map staged_row (map file_of l.files.items)
          ≡ l.yielded;
      rising : IsRising (map file_of l.files.items);
      among : HaveContents l.contents (map file_of l.files.items);
      obeys : AllByRecursion (IsStagedRow (map blob_row l.contents)) l.yielded;
    }
