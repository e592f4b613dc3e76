use Rattle.std.proofs.Common.{◌≡◌, drop}
use Rattle.hook_base.specs.Trees.{entry_of}
use Rattle.hook_run.proofs.command.entry_at.Given as goal

abbrev pub invariant-rows : goal.invariant-rows
invariant-rows l = entry_of l.path l.tree ≡ entry_of l.path (drop l.index l.tree)
