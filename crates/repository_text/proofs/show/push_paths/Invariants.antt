use Rattle.std.proofs.Common.{◌≡◌, ◌++◌, drop}
use Rattle.std.specs.List.{flat_map}
use Rattle.repo_store.specs.Repository.{tree_at}
use Rattle.repository_text.specs.ShowText.{path_line}
use Rattle.repository_text.proofs.show.push_paths.Given as goal

abbrev pub invariant-files : goal.invariant-files
invariant-files g l =
    l.initial.text.items ++ flat_map path_line (tree_at l.number l.store.kept.repo.history)
    ≡ l.text.items ++ flat_map path_line (drop l.index (tree_at l.number l.store.kept.repo.history))
