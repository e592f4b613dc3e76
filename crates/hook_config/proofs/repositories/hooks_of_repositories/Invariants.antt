use Rattle.std.proofs.Common.{◌≡◌, ◌≤◌, length, drop}
use Rattle.hook_config.specs.Limits.{most_hooks}
use Rattle.hook_config.specs.Hooks.{after, joined_lists, hooks_of_repository, hooks_of_repositories}
use Rattle.hook_config.specs.Rows.{meanings_of_nodes}
use Rattle.hook_config.proofs.repositories.hooks_of_repositories.Given as goal

abbrev pub invariant-loop-repository : goal.invariant-loop-repository
invariant-loop-repository l = record {
  within : length l.hooks.items ≤ most_hooks;
  same : hooks_of_repositories l.defaults (meanings_of_nodes l.repositories)
      ≡ after l.hooks.items (joined_lists (hooks_of_repository l.defaults) (meanings_of_nodes (drop l.repository-index l.repositories)));
}
