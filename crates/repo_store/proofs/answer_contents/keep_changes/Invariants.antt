use Rattle.std.proofs.Common.{◌≡◌, map, take}
use Rattle.repo_store.specs.KeptContents.{AreAllKept}
use Rattle.repo_store.specs.Lists.{fix_of}
use Rattle.repo_store.specs.WrittenAnswers.{contents_in_changes}
use Rattle.repo_store.proofs.answer_contents.keep_changes.Given as goal

abbrev pub invariant-changes : goal.invariant-changes
invariant-changes l = record { made : map fix_of l.made.items ≡ take l.change-index l.changes; kept : AreAllKept (contents_in_changes (take l.change-index l.changes)) l.initial.contents l.contents }
