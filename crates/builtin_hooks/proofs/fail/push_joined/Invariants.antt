use Rattle.std.proofs.Common.{◌≡◌, ◌++◌, take}
use Rattle.std.specs.List.{flat_map}
use Rattle.builtin_hooks.proofs.JoinLemmas.{next_path}
use Rattle.builtin_hooks.proofs.fail.push_joined.Given as goal

abbrev pub invariant-others : goal.invariant-others
invariant-others l =
    l.output.items ≡ l.initial.output.items ++ flat_map next_path (take l.path-index l.others)
