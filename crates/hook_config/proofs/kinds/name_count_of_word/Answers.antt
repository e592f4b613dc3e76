use Rattle.hook_config.proofs.NameCounts.{counted, uncounted}
use Rattle.hook_config.proofs.kinds.name_count_of_word.Goals as goal

pub returns-in-Ok : goal.returns-in-Ok
returns-in-Ok c =
    counted c.args.word.now c.parse.result c.in-Ok.number c.name_count.result c.parse.ensures.value.0 c.in-Ok.is c.name_count.ensures

pub returns-in-Err : goal.returns-in-Err
returns-in-Err c = uncounted c.args.word.now c.parse.result c.in-Err.field-0 c.parse.ensures.value.0 c.in-Err.is
