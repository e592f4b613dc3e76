use Rattle.std.proofs.Common.{◌≡◌, ◌+◌, ◌≤◌, ℕ, List, length}
use Rattle.builtin_hooks.specs.Searchers.{found_from}
use Rattle.builtin_hooks.proofs.file_lines.first_found_line.Given as goal

-- in what was passed over the pattern isn't found
abbrev pub invariant-lines : goal.invariant-lines
invariant-lines l = record {
  same : l.searcher ≡ l.fn.searcher;
  found : (path : List ℕ) → found_from l.fn.searcher path l.first_number l.bytes ≡ found_from l.fn.searcher path l.number l.rest;
  within : l.number + length l.rest ≤ l.first_number + length l.bytes;
  shorter : length l.rest ≤ length l.bytes;
}

abbrev pub decreases-lines : goal.decreases-lines
decreases-lines l = length l.rest
