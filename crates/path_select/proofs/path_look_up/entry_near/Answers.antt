use Rattle.hook_base.specs.TreeLemmas.{at_within}
use Rattle.path_select.proofs.IndexLemmas.{entry_at_index}
use Rattle.path_select.proofs.path_look_up.entry_near.Goals as goal

pub entry-requires : goal.entry-requires
entry-requires c = at_within c.args.path.now c.args.tree.now c.in-Some.index c.in-Some.ensures

pub returns-in-Some : goal.returns-in-Some
returns-in-Some c = entry_at_index c.args.path.now c.args.tree.now c.in-Some.index c.entry.result.now c.in-Some.ensures c.entry.ensures.row
