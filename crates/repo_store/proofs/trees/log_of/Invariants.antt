use Rattle.std.proofs.Common.{◌≡◌, ◌+◌, map, take}
use Rattle.repo_store.specs.Lists.{commit_of}
use Rattle.repo_store.specs.Log.{log_from}
use Rattle.repo_store.proofs.trees.log_of.Given as goal

abbrev pub invariant-loop-commit : goal.invariant-loop-commit
invariant-loop-commit l = record { number : l.number ≡ l.commit-index + 1; log : l.log.items ≡ log_from 1 (map commit_of (take l.commit-index l.history)) }
