use Rattle.std.proofs.Common.{◌≡◌}
use Rattle.configuration_run.proofs.SkipLemmas.{names_of}
use Rattle.configuration_run.proofs.skip_list.skip_list_of.Given as goal

abbrev pub invariant-pieces : goal.invariant-pieces
invariant-pieces l = l.names.items ≡ names_of l.yielded
