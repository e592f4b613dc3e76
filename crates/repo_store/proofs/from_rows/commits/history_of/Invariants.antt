use Rattle.std.proofs.Common.{◌≡◌, ◌++◌, map, length}
use Rattle.std.specs.Vec.Iter.{into_iter_items}
use Rattle.repo_store.specs.Lists.{commit_of}
use Rattle.repo_store.specs.FromRows.{AreBare}
use Rattle.repo_store.specs.Rows.{commit_rows}
use Rattle.repo_store.proofs.FromRowsLemmas.{AreNumbered}
use Rattle.repo_store.proofs.from_rows.commits.history_of.Given as goal

abbrev pub invariant-rows : goal.invariant-rows
invariant-rows l =
    record {
      left : l.yielded ++ into_iter_items l.row-iterator ≡ l.fn.rows.items;
      commits : commit_rows 1 (map commit_of l.history.items)
          ≡ l.yielded;
      bare : AreBare (map commit_of l.history.items);
      count : length l.history.items ≡ length l.yielded;
      obeys : AreNumbered 1 l.yielded;
    }
