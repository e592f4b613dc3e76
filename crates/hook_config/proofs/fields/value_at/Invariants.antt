use Rattle.std.proofs.Common.{◌≡◌, drop}
use Rattle.hook_config.specs.Rows.{value_of_key, rows_of}
use Rattle.hook_config.proofs.fields.value_at.Given as goal

abbrev pub invariant-loop-name : goal.invariant-loop-name
invariant-loop-name l = value_of_key l.key (rows_of (drop l.name-index l.rows)) ≡ value_of_key l.key (rows_of l.rows)
