use Rattle.std.proofs.Common.{◌≡◌}
use Rattle.path_select.proofs.FoundLemmas.{AreFound}
use Rattle.path_select.proofs.found_files.select_found.Given as goal

abbrev pub invariant-files : goal.invariant-files
invariant-files l = (l.search ≡ l.pattern) × AreFound l.pattern l.found.items l.tree l.index
