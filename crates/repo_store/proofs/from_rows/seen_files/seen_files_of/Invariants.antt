use Rattle.std.proofs.Common.{◌≡◌, ◌++◌, map}
use Rattle.std.specs.Vec.Iter.{into_iter_items}
use Rattle.answer_records.specs.Records.{seen_of_files}
use Rattle.repo_store.specs.Complete.{HaveContents}
use Rattle.repo_store.specs.Lists.{file_of}
use Rattle.repo_store.proofs.from_rows.seen_files.seen_files_of.Given as goal

abbrev pub invariant-files : goal.invariant-files
invariant-files l = record {
  left : l.yielded ++ into_iter_items l.file-iterator ≡ l.fn.named.items;
  files : seen_of_files (map file_of l.files.items) ≡ l.yielded;
  among : HaveContents l.contents (map file_of l.files.items);
}
