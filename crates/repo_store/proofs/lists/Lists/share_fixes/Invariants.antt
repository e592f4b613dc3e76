use Rattle.std.proofs.Common.{◌≡◌, map, take}
use Rattle.repo_store.specs.Contents.{with_changes}
use Rattle.repo_store.specs.Kept.{FixCollides, HasLarge}
use Rattle.repo_store.specs.Lists.{fix_of}
use Rattle.repo_store.specs.Repository.{staged_changes}
use Rattle.repo_store.proofs.lists.Lists.share_fixes.Given as goal

abbrev pub invariant-changes : goal.invariant-changes
invariant-changes l = record {
  repo : l.self.kept.repo ≡ l.fn.self.kept.repo;
  answers : l.self.kept.answers ≡ l.fn.self.kept.answers;
  limit : l.self.kept.limit ≡ l.fn.self.kept.limit;
  fixes : map fix_of l.fixes.items ≡ staged_changes (take l.change-index l.changes) l.fn.self.kept.repo.staged;
  contents : l.self.kept.contents ≡ with_changes (staged_changes (take l.change-index l.changes) l.fn.self.kept.repo.staged) l.fn.self.kept.contents;
  within : ¬ HasLarge (staged_changes (take l.change-index l.changes) l.fn.self.kept.repo.staged);
  apart : ¬ FixCollides (staged_changes (take l.change-index l.changes) l.fn.self.kept.repo.staged) l.fn.self.kept.contents;
}
