use Rattle.std.proofs.Common.{◌≡◌, ◌++◌}
use Rattle.std.specs.Vec.Iter.{into_iter_items}
use Rattle.hookhost.specs.FileTrees.{AreFilesOf}
use Rattle.hookhost.proofs.files.read_files.Given as goal

-- the files of the words so far
abbrev pub invariant-words : goal.invariant-words
invariant-words g l = record {
  left : l.yielded ++ into_iter_items l.word-iterator ≡ l.fn.words;
  files : AreFilesOf l.yielded l.files.items;
}
