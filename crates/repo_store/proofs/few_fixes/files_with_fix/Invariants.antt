use Rattle.std.proofs.Common.{◌≡◌, ◌++◌, map, drop}
use Rattle.repo_store.specs.Accepted.{files_with_fix}
use Rattle.repo_store.specs.Lists.{file_of, fix_of}
use Rattle.repo_store.proofs.few_fixes.files_with_fix.Given as goal

abbrev pub invariant-fixes : goal.invariant-fixes
invariant-fixes l = map file_of l.found.items ++ files_with_fix (map fix_of (drop l.fix-index l.fixes)) (map file_of l.files) ≡ files_with_fix (map fix_of l.fixes) (map file_of l.files)
