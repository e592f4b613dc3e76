use Rattle.std.proofs.Common.{◌≡◌, ◌++◌, drop}
use Rattle.std.specs.List.{flat_map}
use Rattle.repository_text.specs.FixesText.{fix_line}
use Rattle.repository_text.proofs.fixes.push_fix_lines.Given as goal

abbrev pub invariant-fixes : goal.invariant-fixes
invariant-fixes l =
    l.initial.text.items ++ flat_map fix_line l.fixes ≡ l.text.items ++ flat_map fix_line (drop l.fix-index l.fixes)
