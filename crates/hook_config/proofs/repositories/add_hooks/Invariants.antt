use Rattle.std.proofs.Common.{◌≡◌, ◌≤◌, length, drop}
use Rattle.hook_config.specs.Limits.{most_hooks}
use Rattle.hook_config.specs.Hooks.{after, hooks_of_list}
use Rattle.hook_config.specs.Rows.{meanings_of_nodes}
use Rattle.hook_config.proofs.repositories.add_hooks.Given as goal

abbrev pub invariant-loop-table : goal.invariant-loop-table
invariant-loop-table l = record {
  within : length l.hooks.items ≤ most_hooks;
  same : after l.fn.hooks.items (hooks_of_list l.defaults (meanings_of_nodes l.tables))
      ≡ after l.hooks.items (hooks_of_list l.defaults (meanings_of_nodes (drop l.table-index l.tables)));
}
