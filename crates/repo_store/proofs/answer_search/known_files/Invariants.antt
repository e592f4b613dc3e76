use Rattle.std.proofs.Common.{◌≡◌, take}
use Rattle.answer_records.specs.Records.{seen_of_files}
use Rattle.repo_store.specs.Complete.{HaveContents}
use Rattle.repo_store.proofs.answer_search.known_files.Given as goal

abbrev pub invariant-files : goal.invariant-files
invariant-files l = record { named : l.named.items ≡ seen_of_files (take l.index l.seen); known : HaveContents l.contents (take l.index l.seen) }
