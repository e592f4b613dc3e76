use Rattle.std.proofs.Common.{◌≡◌, ◌++◌, drop}
use Rattle.std.specs.List.{flat_map}
use Rattle.hook_config.specs.Rows.{rows_of}
use Rattle.hook_config.specs.UnknownKeys.{unknown_of_top_row}
use Rattle.hook_config.proofs.unknown_keys.unknown_of_top.Given as goal

abbrev pub invariant-loop-key : goal.invariant-loop-key
invariant-loop-key l =
    l.initial.unknown.items ++ flat_map unknown_of_top_row (rows_of l.rows)
    ≡ l.unknown.items ++ flat_map unknown_of_top_row (rows_of (drop l.key-index l.rows))
