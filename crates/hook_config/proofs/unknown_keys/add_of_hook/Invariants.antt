use Rattle.std.proofs.Common.{◌≡◌, ◌++◌, drop}
use Rattle.std.specs.List.{flat_map}
use Rattle.hook_config.specs.Rows.{rows_of}
use Rattle.hook_config.specs.UnknownKeys.{unknown_key}
use Rattle.hook_config.specs.KnownKeys.{hook_keys}
use Rattle.hook_config.proofs.unknown_keys.add_of_hook.Given as goal

abbrev pub invariant-loop-key : goal.invariant-loop-key
invariant-loop-key l =
    l.initial.unknown.items ++ flat_map (unknown_key hook_keys) (rows_of l.rows)
    ≡ l.unknown.items ++ flat_map (unknown_key hook_keys) (rows_of (drop l.key-index l.rows))
