use Rattle.std.proofs.Common.{◌≡◌, drop}
use Rattle.std.specs.List.{list_any}
use Rattle.hook_run.specs.PartsEnding.{is_modified_row}
use Rattle.hook_run.proofs.modified.is_modified.Given as goal

abbrev pub invariant-rows : goal.invariant-rows
invariant-rows l = list_any (is_modified_row l.after) l.before ≡ list_any (is_modified_row l.after) (drop l.index l.before)
