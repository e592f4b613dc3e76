use Rattle.std.proofs.Common.{◌≡◌, map}
use Rattle.run_options.specs.Options.{hook_with_options}
use Rattle.run_options.proofs.options.hooks_with.Given as goal

abbrev pub invariant-hooks : goal.invariant-hooks
invariant-hooks l = l.made.items ≡ map (hook_with_options l.options) l.yielded
