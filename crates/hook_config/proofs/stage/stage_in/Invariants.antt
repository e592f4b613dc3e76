use Rattle.std.proofs.Common.{◌≡◌, drop}
use Rattle.hook_config.specs.Stages.{stage_rows, stage_in}
use Rattle.hook_config.proofs.stage.stage_in.Given as goal

abbrev pub invariant-loop-name : goal.invariant-loop-name
invariant-loop-name l = stage_in (stage_rows (drop l.name-index l.rows)) l.word ≡ stage_in (stage_rows l.rows) l.word
