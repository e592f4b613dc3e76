use Rattle.std.proofs.Common.{◌≡◌, map, take}
use Rattle.answer_records.specs.Records.{seen_of_files}
use Rattle.repo_store.specs.Lists.{file_of}
use Rattle.repo_store.proofs.answer_contents.named_files.Given as goal

abbrev pub invariant-files : goal.invariant-files
invariant-files l = l.named.items ≡ seen_of_files (map file_of (take l.file-index l.files))
