use Rattle.std.proofs.Common.{◌≡◌, ◌++◌, map, drop}
use Rattle.hook_base.specs.Trees.{IsRisingChanges, apply_changes}
use Rattle.repo_store.specs.Lists.{file_of, fix_of}
use Rattle.repo_store.proofs.fixed_files.with_fixes.Given as goal

abbrev pub invariant-files : goal.invariant-files
invariant-files l = record {
  rising : IsRisingChanges (map fix_of l.left);
  walked : map file_of l.made.items ++ apply_changes (map fix_of l.left) (map file_of (drop l.file-index l.files)) ≡ apply_changes (map fix_of l.fixes) (map file_of l.files);
}
