use Rattle.std.proofs.Common.{◌≡◌, ◌++◌, drop}
use Rattle.std.specs.Prelude.{filter}
use Rattle.hook_run.specs.Asks.{is_in_run}
use Rattle.hook_run.proofs.HookRefs.{hooks_behind}
use Rattle.hook_run.proofs.hook_choice.hooks_of_run.Given as goal

abbrev pub invariant-hooks : goal.invariant-hooks
invariant-hooks l =
    filter (is_in_run l.ask) l.hooks ≡ hooks_behind l.chosen.items ++ filter (is_in_run l.ask) (drop l.hook-index l.hooks)
