use Rattle.std.proofs.Common.{◌≡◌, take}
use Rattle.configuration_run.proofs.AskLemmas.{paths_in}
use Rattle.configuration_run.proofs.run_ask.paths_of.Given as goal

abbrev pub invariant-places : goal.invariant-places
invariant-places l = l.paths.items ≡ paths_in (take l.place l.tree)
