use Rattle.std.proofs.Common.{◌≡◌, map, string_bytes}
use Rattle.hookhost.specs.UnstagedWords.{removed_path}
use Rattle.hookhost.proofs.unstaged_words.removals.Given as goal

abbrev pub invariant-paths : goal.invariant-paths
invariant-paths l = l.edits.items ≡ map removed_path (map string_bytes l.yielded)
