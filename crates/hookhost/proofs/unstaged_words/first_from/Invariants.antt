use Rattle.std.proofs.Common.{◌≤◌, ◌<◌, ◌-◌, take, drop}
use Rattle.hookhost.specs.UnstagedWords.{AreBefore, AreFrom}
use Rattle.hookhost.proofs.unstaged_words.first_from.Given as goal

abbrev pub invariant-halves : goal.invariant-halves
invariant-halves g l = record {
  order : l.low ≤ l.high;
  before : AreBefore l.text (take l.low l.store.kept.repo.staged);
  others : l.high < 18446744073709551615 → AreFrom l.text (drop l.high l.store.kept.repo.staged);
}

abbrev pub decreases-halves : goal.decreases-halves
decreases-halves g l = l.high - l.low
