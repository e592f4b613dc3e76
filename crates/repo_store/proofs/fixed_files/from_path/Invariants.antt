use Rattle.std.proofs.Common.{◌≡◌, ℕ, List, length, map}
use Rattle.hook_base.specs.declared.file.File.{File}
use Rattle.hook_base.specs.Rising.{IsBelow, IsBelowAll}
use Rattle.hook_base.specs.Trees.{IsRisingChanges, apply_changes, path_of}
use Rattle.repo_store.specs.Lists.{fix_of}
use Rattle.repo_store.proofs.fixed_files.from_path.Given as goal

abbrev pub invariant-earlier : goal.invariant-earlier
invariant-earlier l = record {
  rising : IsRisingChanges (map fix_of l.left);
  same : (files : List File) → ((earlier : List ℕ) → IsBelow earlier l.path → IsBelowAll path_of earlier files) → apply_changes (map fix_of l.fixes) files ≡ apply_changes (map fix_of l.left) files;
}

abbrev pub decreases-earlier : goal.decreases-earlier
decreases-earlier l = length l.left
