use Rattle.std.proofs.Common.{◌≡◌, ◌++◌, take}
use Rattle.hook_run.proofs.running_hook.command_with.Given as goal

abbrev pub invariant-names : goal.invariant-names
invariant-names l = l.command.items ≡ l.words ++ take l.name-index l.names
