use Rattle.std.proofs.Common.{◌≡◌, drop}
use Rattle.hook_config.specs.KnownKeys.{is_key, rows_of_known_keys}
use Rattle.hook_config.proofs.known_keys.is_key.Given as goal

abbrev pub invariant-loop-key : goal.invariant-loop-key
invariant-loop-key l = is_key (rows_of_known_keys (drop l.key-index l.keys)) l.word ≡ is_key (rows_of_known_keys l.keys) l.word
