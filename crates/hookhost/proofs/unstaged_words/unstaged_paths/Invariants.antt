use Rattle.std.proofs.Common.{◌≡◌, [], take}
use Rattle.std.specs.List.{flat_map}
use Rattle.named_files.specs.NamedPaths.{with_paths}
use Rattle.hookhost.specs.UnstagedWords.{unstaged_by_word}
use Rattle.hookhost.proofs.unstaged_words.unstaged_paths.Given as goal

abbrev pub invariant-words : goal.invariant-words
invariant-words g l =
    l.named ≡ with_paths [] (flat_map (unstaged_by_word l.store.kept.repo.staged) (take l.word-index l.words))
