use Rattle.std.proofs.Common.{◌≡◌, ◌++◌, drop}
use Rattle.hook_base.proofs.tree.Tree.rows.Given as goal

abbrev pub invariant-rows : goal.invariant-rows
invariant-rows l = l.rows.items ++ drop l.index l.self ≡ l.self
