use Rattle.std.proofs.Common.{◌≡◌, drop}
use Rattle.named_files.specs.NamedPaths.{with_paths}
use Rattle.hookhost.specs.UnstagedWords.{AreFrom, staged_beginning}
use Rattle.hookhost.proofs.unstaged_words.with_below.Given as goal

abbrev pub invariant-files : goal.invariant-files
invariant-files g l = record {
  others : AreFrom l.beginning (drop l.index l.store.kept.repo.staged);
  left : with_paths l.named (staged_beginning (drop l.index l.store.kept.repo.staged) l.beginning)
      ≡ with_paths l.initial.named (staged_beginning (drop l.first l.store.kept.repo.staged) l.beginning);
}
