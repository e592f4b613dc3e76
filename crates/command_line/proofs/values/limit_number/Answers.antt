use Rattle.std.proofs.Common.{arith}
use Rattle.store_faults.specs.Limits.{most_answers}
use Rattle.command_line.proofs.ValueLemmas.{limit-read, up-to-unread}
use Rattle.command_line.proofs.values.limit_number.Goals as goal

pub returns-in-Ok : goal.returns-in-Ok
returns-in-Ok c =
    limit-read c.args.text.now c.parse.result c.in-Ok.number c.read.result c.parse.ensures.value.0 c.in-Ok.is c.read.ensures.taken c.read.ensures.refused

pub returns-in-Err : goal.returns-in-Err
returns-in-Err c =
    up-to-unread most_answers c.args.text.now c.parse.result c.in-Err.field-0 (omega arith) c.parse.ensures.value.0 c.in-Err.is
