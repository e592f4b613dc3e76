use Rattle.std.proofs.Common.{◌≡◌, ◌++◌, map}
use Rattle.std.specs.Vec.Iter.{into_iter_items}
use Rattle.answer_records.specs.Records.{changed_of_changes}
use Rattle.repo_store.specs.Complete.{HaveNewContents}
use Rattle.repo_store.specs.Lists.{fix_of}
use Rattle.repo_store.proofs.from_rows.changed_files.changes_of.Given as goal

abbrev pub invariant-files : goal.invariant-files
invariant-files l = record {
  left : l.yielded ++ into_iter_items l.file-iterator ≡ l.fn.named.items;
  changes : changed_of_changes (map fix_of l.changes.items) ≡ l.yielded;
  among : HaveNewContents l.contents (map fix_of l.changes.items);
}
