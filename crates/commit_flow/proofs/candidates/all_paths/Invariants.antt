use Rattle.std.proofs.Common.{◌≡◌, ◌++◌, drop, map}
use Rattle.hook_base.specs.Trees.{path_of}
use Rattle.commit_flow.proofs.candidates.all_paths.Given as goal

abbrev pub invariant-rows : goal.invariant-rows
invariant-rows l = l.paths.items ++ map path_of (drop l.index l.staged) ≡ map path_of l.staged
