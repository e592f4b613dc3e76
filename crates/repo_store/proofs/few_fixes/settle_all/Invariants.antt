use Rattle.std.proofs.Common.{◌≡◌, ◌+◌, map, drop}
use Rattle.hook_base.specs.Trees.{IsRising, IsRisingChanges, apply_changes}
use Rattle.repo_store.specs.Accepted.{HaveSameFixed}
use Rattle.store_faults.specs.Limits.{path_bytes}
use Rattle.repo_store.specs.Lists.{file_of, fix_of}
use Rattle.repo_store.proofs.few_fixes.settle_all.Given as goal

abbrev pub invariant-fixes : goal.invariant-fixes
invariant-fixes l = record {
  files_rise : IsRising (map file_of l.files.items);
  left_rise : IsRising (map file_of l.left.items);
  fixes_rise : IsRisingChanges (map fix_of (drop l.fix-index l.fixes));
  same : HaveSameFixed (map fix_of (drop l.fix-index l.fixes)) (map file_of l.left.items) (apply_changes (map fix_of (drop l.fix-index l.fixes)) (map file_of l.files.items));
  applied : apply_changes (map fix_of (drop l.fix-index l.fixes)) (map file_of l.files.items) ≡ apply_changes (map fix_of l.fixes) (map file_of l.fn.files.items);
  bytes : path_bytes (map file_of l.fn.files.items) ≡ path_bytes (map file_of l.files.items) + l.freed;
}
