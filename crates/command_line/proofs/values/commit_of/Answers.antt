use Rattle.command_line.proofs.ValueLemmas.{commit-read, commit-refused}
use Rattle.command_line.proofs.values.commit_of.Goals as goal

pub returns-in-Ok : goal.returns-in-Ok
returns-in-Ok c = commit-read c.args.text.now c.parse.result c.in-Ok.number c.parse.ensures.value.0 c.in-Ok.is

pub returns-in-Err : goal.returns-in-Err
returns-in-Err c = commit-refused c.args.text.now c.parse.result c.in-Err.field-0 c.commit_error.result c.parse.ensures.value.0 c.in-Err.is c.commit_error.ensures
