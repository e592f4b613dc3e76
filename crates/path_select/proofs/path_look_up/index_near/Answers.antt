use Rattle.std.proofs.Common.{◌∙◌, sym}
use Rattle.path_select.proofs.IndexLemmas.{at_index}
use Rattle.path_select.proofs.path_look_up.index_near.Goals as goal

pub returns-in-Equal : goal.returns-in-Equal
returns-in-Equal c =
    at_index c.args.path.now c.args.tree.now c.near.next c.entry.result.now c.entry.ensures.rising c.entry.ensures.row (sym c.cmp.ensures ∙ c.in-Equal.is)
