use Rattle.std.proofs.Common.{◌≡◌, ◌+◌, ◌≤◌, ◌++◌, drop, length}
use Rattle.repository_text.specs.LogText.{log_text_from}
use Rattle.repository_text.proofs.log.push_log_lines.Given as goal

abbrev pub invariant-commits : goal.invariant-commits
invariant-commits g l = record {
  within : l.number ≤ length l.store.kept.repo.history;
  written : l.text.items ≡ l.initial.text.items ++ log_text_from (l.number + 1) (drop l.number l.store.kept.repo.history);
}

abbrev pub decreases-commits : goal.decreases-commits
decreases-commits g l = l.number
