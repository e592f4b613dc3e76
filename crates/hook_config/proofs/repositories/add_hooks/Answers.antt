use Rattle.std.proofs.Common.{◌∙◌, arith}
use Rattle.hook_config.specs.Hooks.{hook_alone}
use Rattle.hook_config.proofs.HookLists.{found_at}
use Rattle.hook_config.proofs.repositories.add_hooks.Goals as goal

pub loop-table-preserved : goal.loop-table-preserved
loop-table-preserved c =
    let found = found_at (hook_alone c.args.defaults.now) c.loop-table.hooks.items c.add_hook.new.hooks.items c.args.tables.now c.loop-table.table-index c.table-item.result
    (omega arith) c.table-item.is c.in_default.ensures in
    record { within = found.0; same = c.loop-table.invariant.same ∙ found.1 }
