use Rattle.std.proofs.Common.{map}
use Rattle.repo_store.specs.Lists.{file_of}
use Rattle.repo_store.proofs.ClashLemmas.{NoneBefore}
use Rattle.repo_store.proofs.clashes.lies_below_file.Given as goal

abbrev pub invariant-bytes : goal.invariant-bytes
invariant-bytes l = NoneBefore l.path (map file_of l.files) l.index
