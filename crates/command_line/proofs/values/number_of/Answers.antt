use Rattle.std.proofs.Common.{subst}
use Rattle.command_line.proofs.ValueLemmas.{number-read, number-refused}
use Rattle.command_line.proofs.values.number_of.Goals as goal
use Rattle.command_line.specs.CommandLine.{number_in, value_fault}
use Rattle.clap.specs.Words.{HasKind}
use Rattle.std.proofs.Common.{Some, ◌≡◌}

pub returns-in-Ok : goal.returns-in-Ok
returns-in-Ok c = subst (λ text. number_in text ≡ Some c.in-Ok.number) c.word_of-text.ensures
    (number-read c.word_of-text.result.now c.parse.result c.in-Ok.number c.parse.ensures.value.0 c.in-Ok.is)

pub returns-in-Err : goal.returns-in-Err
returns-in-Err c = subst (λ text. HasKind (value_fault (number_in text)) c.number_error.result) c.word_of-text.ensures
    (number-refused c.word_of-text.result.now c.parse.result c.in-Err.field-0 c.number_error.result c.parse.ensures.value.0 c.in-Err.is c.number_error.ensures)
