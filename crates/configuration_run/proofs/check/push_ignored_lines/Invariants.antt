use Rattle.std.proofs.Common.{◌≡◌, ◌++◌, drop}
use Rattle.std.specs.List.{flat_map}
use Rattle.configuration_run.specs.CheckText.{ignored_line}
use Rattle.configuration_run.proofs.check.push_ignored_lines.Given as goal

abbrev pub invariant-loop-key : goal.invariant-loop-key
invariant-loop-key l =
    l.initial.text.items ++ flat_map ignored_line l.keys ≡ l.text.items ++ flat_map ignored_line (drop l.key-index l.keys)
