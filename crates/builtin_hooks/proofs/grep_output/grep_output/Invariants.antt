use Rattle.std.proofs.Common.{◌≡◌, take}
use Rattle.builtin_hooks.specs.GrepAnswer.{grep_output}
use Rattle.builtin_hooks.proofs.grep_output.grep_output.Given as goal

abbrev pub invariant-files : goal.invariant-files
invariant-files l = record {
  same : l.searcher ≡ l.fn.searcher;
  printed : l.output.items ≡ grep_output l.fn.searcher (take l.path-index l.files) l.tree;
}
