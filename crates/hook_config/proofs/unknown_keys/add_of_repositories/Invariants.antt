use Rattle.std.proofs.Common.{◌≡◌, ◌++◌, drop}
use Rattle.std.specs.List.{flat_map}
use Rattle.hook_config.specs.Rows.{meanings_of_nodes}
use Rattle.hook_config.specs.UnknownKeys.{unknown_of_repository}
use Rattle.hook_config.proofs.unknown_keys.add_of_repositories.Given as goal

abbrev pub invariant-loop-repository : goal.invariant-loop-repository
invariant-loop-repository l =
    l.initial.unknown.items ++ flat_map unknown_of_repository (meanings_of_nodes l.repositories)
    ≡ l.unknown.items ++ flat_map unknown_of_repository (meanings_of_nodes (drop l.repository-index l.repositories))
