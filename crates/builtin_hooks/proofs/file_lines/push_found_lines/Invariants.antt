use Rattle.std.proofs.Common.{◌≡◌, ◌+◌, ◌++◌, ◌≤◌, length}
use Rattle.std.specs.List.{flat_map}
use Rattle.builtin_hooks.specs.GrepAnswer.{line_text}
use Rattle.builtin_hooks.specs.Searchers.{found_from}
use Rattle.builtin_hooks.proofs.file_lines.push_found_lines.Given as goal

abbrev pub invariant-found : goal.invariant-found
invariant-found l = record {
  same : l.searcher ≡ l.fn.searcher;
  written : l.fn.output.items ++ flat_map line_text (found_from l.fn.searcher l.path 1 l.bytes)
      ≡ l.output.items ++ flat_map line_text (found_from l.fn.searcher l.path l.next_number l.rest);
  within : l.next_number + length l.rest ≤ 1 + length l.bytes;
}

abbrev pub decreases-found : goal.decreases-found
decreases-found l = length l.rest
