use Rattle.std.proofs.Common.{◌≡◌, ◌++◌, drop}
use Rattle.std.specs.List.{flat_map}
use Rattle.hook_config.specs.Rows.{meanings_of_nodes}
use Rattle.hook_config.specs.UnknownKeys.{unknown_of_hook}
use Rattle.hook_config.proofs.unknown_keys.add_of_hooks.Given as goal

abbrev pub invariant-loop-hook : goal.invariant-loop-hook
invariant-loop-hook l =
    l.initial.unknown.items ++ flat_map unknown_of_hook (meanings_of_nodes l.hooks)
    ≡ l.unknown.items ++ flat_map unknown_of_hook (meanings_of_nodes (drop l.hook-index l.hooks))
