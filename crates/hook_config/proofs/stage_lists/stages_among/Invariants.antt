use Rattle.std.proofs.Common.{◌≡◌, drop, option_map}
use Rattle.hook_config.specs.Kinds.{each, stage_of}
use Rattle.hook_config.specs.Rows.{meanings_of_nodes}
use Rattle.hook_config.specs.Stages.{stages_among}
use Rattle.hook_config.proofs.StageLists.{put_found}
use Rattle.hook_config.proofs.stage_lists.stages_among.Given as goal

abbrev pub invariant-loop-item : goal.invariant-loop-item
invariant-loop-item l =
    option_map stages_among (each stage_of (meanings_of_nodes l.items))
    ≡ put_found l.stages (each stage_of (meanings_of_nodes (drop l.item-index l.items)))
