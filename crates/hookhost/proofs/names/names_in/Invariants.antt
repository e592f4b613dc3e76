use Rattle.std.proofs.Common.{◌≡◌, map}
use Rattle.hookhost.proofs.names.names_in.Given as goal

abbrev pub invariant-names : goal.invariant-names
invariant-names l = l.names.items ≡ map (λ x. x.now) l.yielded
