use Rattle.std.proofs.Common.{◌+◌, ◌∷◌, [], drop}
use Rattle.file_tags.specs.TreeTags.{tags_of_tree}
use Rattle.file_tags.proofs.FollowLemmas.{at_row, tags_more}
use Rattle.file_tags.proofs.tree_tags.tags_of_tree.Goals as goal

pub rows-preserved : goal.rows-preserved
rows-preserved c =
    let tree = c.args.tree.now in
    let row = c.entry.result.now in
    rw (c.in_ok-push.ensures.items, c.in_ok-tags_of_row.ensures)
    (tags_more c.rows.tags.items (row ∷ []) (drop c.rows.index tree) (drop (c.rows.index + 1) tree) (tags_of_tree tree) (at_row tree c.rows.index row c.entry.ensures.row) c.rows.invariant)
