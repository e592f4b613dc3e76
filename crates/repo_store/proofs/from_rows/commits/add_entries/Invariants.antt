use Rattle.std.proofs.Common.{◌≡◌, ◌++◌, map, length}
use Rattle.std.specs.List.{AllByRecursion}
use Rattle.std.specs.Vec.Iter.{into_iter_items}
use Rattle.repo_store.specs.Complete.{HaveContents}
use Rattle.repo_store.specs.Lists.{commit_of}
use Rattle.repo_store.specs.FromRows.{AreEntered}
use Rattle.repo_store.specs.Repository.{Commit}
use Rattle.repo_store.specs.Rows.{blob_row}
use Rattle.repo_store.specs.RowRules.{IsEntryRow}
use Rattle.repo_store.proofs.from_rows.commits.add_entries.Given as goal

abbrev pub invariant-rows : goal.invariant-rows
invariant-rows l =
    record {
      left : l.yielded ++ into_iter_items l.row-iterator ≡ l.fn.rows.items;
      entered : AreEntered (map commit_of l.initial.history.items) (map commit_of l.history.items) l.yielded;
      among : AllByRecursion (λ (commit : Commit). HaveContents l.contents commit.tree) (map commit_of l.history.items);
      count : length l.history.items
          ≡ length l.initial.history.items;
      obeys : AllByRecursion (IsEntryRow (map blob_row l.contents) (length l.initial.history.items)) l.yielded;
    }
