use Rattle.path_select.proofs.IndexLemmas.{tags_at_index, tags_within}
use Rattle.path_select.proofs.kept_selection.tags_near.Goals as goal

pub get-requires : goal.get-requires
get-requires c = tags_within c.args.path.now c.args.tree.now c.args.tags.now c.in-Some.index c.requires c.in-Some.ensures

pub returns-in-Some : goal.returns-in-Some
returns-in-Some c =
    tags_at_index c.args.path.now c.args.tree.now c.args.tags.now c.in-Some.index c.requires c.in-Some.ensures c.get.result.now c.get.ensures
