use Rattle.std.proofs.Common.{arith}
use Rattle.hook_config.specs.UnknownKeys.{unknown_key}
use Rattle.hook_config.specs.KnownKeys.{hook_keys}
use Rattle.hook_config.proofs.KeyLists.{looked_at}
use Rattle.hook_config.proofs.unknown_keys.add_of_hook.Goals as goal

pub loop-key-preserved : goal.loop-key-preserved
loop-key-preserved c =
    looked_at (unknown_key hook_keys) _ _ _ c.args.rows.now c.loop-key.key-index c.loop-key-item.result
    (omega arith) c.loop-key-item.is c.loop-key.invariant
    (rw (c.as_str.ensures.value, c.hook_keys.ensures) at c.in_ok-add_unless_known.ensures)
