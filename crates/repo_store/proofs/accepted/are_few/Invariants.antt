use Rattle.std.proofs.Common.{◌≤◌}
use Rattle.repo_store.proofs.accepted.are_few.Given as goal

abbrev pub invariant-fixes : goal.invariant-fixes
invariant-fixes l = l.gone ≤ l.fix-index
