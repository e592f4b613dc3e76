use Rattle.std.proofs.Common.{◌≡◌, map, take}
use Rattle.answer_records.specs.Records.{changed_of_changes}
use Rattle.repo_store.specs.Lists.{fix_of}
use Rattle.repo_store.proofs.answer_contents.named_changes.Given as goal

abbrev pub invariant-changes : goal.invariant-changes
invariant-changes l = l.named.items ≡ changed_of_changes (map fix_of (take l.change-index l.changes))
