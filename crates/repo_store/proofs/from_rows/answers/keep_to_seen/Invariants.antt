use Rattle.std.proofs.Common.{map, take}
use Rattle.repo_store.specs.Lists.{file_of, fix_of}
use Rattle.repo_store.specs.SoundAnswers.{KeepToSeen}
use Rattle.repo_store.proofs.from_rows.answers.keep_to_seen.Given as goal

abbrev pub invariant-changes : goal.invariant-changes
invariant-changes l = KeepToSeen (map fix_of (take l.change-index l.changes)) (map file_of l.seen)
