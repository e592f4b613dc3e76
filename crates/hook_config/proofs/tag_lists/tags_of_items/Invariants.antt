use Rattle.std.proofs.Common.{◌≡◌, drop}
use Rattle.hook_config.specs.Kinds.{each, text_of}
use Rattle.hook_config.specs.Rows.{meanings_of_nodes}
use Rattle.hook_config.proofs.TextLists.{put_behind}
use Rattle.hook_config.proofs.tag_lists.tags_of_items.Given as goal

abbrev pub invariant-loop-item : goal.invariant-loop-item
invariant-loop-item l =
    each text_of (meanings_of_nodes l.items) ≡ put_behind l.tags (each text_of (meanings_of_nodes (drop l.item-index l.items)))
