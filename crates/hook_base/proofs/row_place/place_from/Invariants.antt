use Rattle.std.proofs.Common.{◌≤◌, length}
use Rattle.hook_base.specs.Overlays.{UpTo}
use Rattle.hook_base.proofs.row_place.place_from.Given as goal

abbrev pub invariant-files : goal.invariant-files
invariant-files l = (l.index ≤ length l.tree) × UpTo l.path l.tree l.index
