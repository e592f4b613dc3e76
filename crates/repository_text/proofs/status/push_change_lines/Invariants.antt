use Rattle.std.proofs.Common.{◌≡◌, ◌≤◌, ◌++◌, drop}
use Rattle.std.specs.List.{flat_map}
use Rattle.repo_store.specs.Repository.{last_tree}
use Rattle.repository_text.specs.StatusText.{change_line_at, paths_of_both, status_text}
use Rattle.repository_text.proofs.status.push_change_lines.Given as goal

abbrev pub invariant-paths : goal.invariant-paths
invariant-paths g l = record {
  near : l.staged ≤ l._turn;
  close : l.last ≤ l._turn;
  written : l.initial.text.items ++ status_text l.store.kept.repo.staged (last_tree l.store.kept.repo.history)
      ≡ l.text.items
      ++ flat_map (change_line_at l.store.kept.repo.staged (last_tree l.store.kept.repo.history))
      (paths_of_both (drop l.staged l.store.kept.repo.staged) (drop l.last (last_tree l.store.kept.repo.history)));
}
