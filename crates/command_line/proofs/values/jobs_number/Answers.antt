use Rattle.std.proofs.Common.{arith}
use Rattle.command_line.specs.CommandLine.{most_jobs}
use Rattle.command_line.proofs.ValueLemmas.{up-to-read, up-to-unread}
use Rattle.command_line.proofs.values.jobs_number.Goals as goal

pub returns-in-Ok : goal.returns-in-Ok
returns-in-Ok c =
    up-to-read most_jobs c.args.text.now c.parse.result c.in-Ok.number c.parse.ensures.value.0 c.in-Ok.is c.if-number-ge1.true c.if-number-le-MOST_JOBS.true

pub returns-in_default-3 : goal.returns-in_default-3
returns-in_default-3 c =
    up-to-unread most_jobs c.args.text.now c.parse.result c.in_default.field-0 (omega arith) c.parse.ensures.value.0 c.in_default.is
