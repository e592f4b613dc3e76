use Rattle.std.proofs.Common.{◌≡◌, ◌++◌, drop, map}
use Rattle.std.specs.Prelude.{filter}
use Rattle.hook_base.specs.Trees.{path_of}
use Rattle.commit_flow.specs.Runs.{changed_paths}
use Rattle.commit_flow.proofs.CandidateLemmas.{is_changed_in}
use Rattle.commit_flow.proofs.candidates.changed_paths.Given as goal

abbrev pub invariant-rows : goal.invariant-rows
invariant-rows g l =
    l.paths.items ++ map path_of (filter (is_changed_in l.store.kept.repo) (drop l.index l.staged)) ≡ changed_paths l.store.kept.repo
