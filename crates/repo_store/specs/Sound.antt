-- What holds of each repository in a store.
use Rattle.std.specs.Prelude.{◌≤◌, length}
use Rattle.std.specs.List.{AllByRecursion}
use Rattle.hook_base.specs.Trees.{IsRising, IsRisingChanges}
use Rattle.store_faults.specs.Limits.{Fits, most_commits, most_files}
use Rattle.repo_store.specs.Repository.{Commit, Repository}

-- the trees and the fixes are in the order of their paths; the staged files, the fixes and the commits are
-- within their limits
pub record IsSound (repo : Repository) : Type 0 where
  pub staged_rise : IsRising repo.staged
  pub staged_fit : Fits repo.staged
  pub fixes_rise : IsRisingChanges repo.fixes
  pub fixes_fit : length repo.fixes ≤ most_files
  pub trees_rise : AllByRecursion (λ (commit : Commit). IsRising commit.tree) repo.history
  pub numbered : length repo.history ≤ most_commits
