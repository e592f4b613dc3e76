use Rattle.std.proofs.Common.{◌≡◌, ◌++◌, map}
use Rattle.std.specs.List.{AllByRecursion}
use Rattle.std.specs.Vec.Iter.{into_iter_items}
use Rattle.hook_base.specs.Trees.{IsRisingChanges}
use Rattle.repo_store.specs.Complete.{HaveNewContents}
use Rattle.repo_store.specs.Lists.{file_of, fix_of}
use Rattle.repo_store.specs.Rows.{blob_row, fix_row, staged_row}
use Rattle.repo_store.specs.RowRules.{IsFixRow}
use Rattle.repo_store.proofs.from_rows.fixes.fixes_of.Given as goal

abbrev pub invariant-rows : goal.invariant-rows
invariant-rows l =
    record {
      left : l.yielded ++ into_iter_items l.row-iterator ≡ l.fn.rows.items;
      fixes : map fix_row (map fix_of l.fixes.items)
          ≡ l.yielded;
      rising : IsRisingChanges (map fix_of l.fixes.items);
      among : HaveNewContents l.contents (map fix_of l.fixes.items);
      obeys : AllByRecursion
          (IsFixRow (map blob_row l.contents) (map staged_row (map file_of l.staged))) l.yielded;
    }
