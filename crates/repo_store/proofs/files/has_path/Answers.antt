use Rattle.std.proofs.Common.{map, ◌∙◌}
use Rattle.repo_store.specs.Lists.{file_of}
use Rattle.repo_store.proofs.PlaceLemmas.{has_placed}
use Rattle.repo_store.proofs.files.has_path.Goals as goal

pub returns : goal.returns
returns c = c.is_ok.ensures.value ∙ has_placed c.args.path.now (map file_of c.args.files.now) c.place_of.result c.place_of.ensures
