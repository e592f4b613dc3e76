use Rattle.store_faults.specs.Limits.{most_answers}
use Rattle.command_line.proofs.ValueLemmas.{up-to-told, up-to-untold}
use Rattle.command_line.proofs.values.limit_from.Goals as goal

pub returns-in-Some : goal.returns-in-Some
returns-in-Some c = up-to-told most_answers c.args.text.now c.limit_number.result c.in-Some.limit c.limit_number.ensures c.in-Some.is

pub returns-in-None : goal.returns-in-None
returns-in-None c =
    up-to-untold most_answers c.args.text.now c.limit_number.result c.limit_error.result c.limit_number.ensures c.in-None.is c.limit_error.ensures
