use Rattle.std.proofs.Common.{◌≡◌, map, take}
use Rattle.repo_store.specs.Lists.{fix_of}
use Rattle.repo_store.proofs.trees.changes_of.Given as goal

abbrev pub invariant-loop-fix : goal.invariant-loop-fix
invariant-loop-fix l = l.changes.items ≡ map fix_of (take l.fix-index l.fixes)
