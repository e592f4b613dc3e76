use Rattle.std.proofs.Common.{◌∙◌, ap}
use Rattle.file_tags.specs.Shebangs.{without_carriage_return}
use Rattle.file_tags.proofs.WordLemmas.{line_taken, no_line_taken}
use Rattle.file_tags.proofs.first_line.line_of.Goals as goal

pub returns-in-Ok : goal.returns-in-Ok
returns-in-Ok c =
    line_taken c.args.rest.now _ c.if-rest-gt-MOST_SHEBANG_BYTES.false c.in-Ok.ensures.cases.1
    (c.without_carriage_return.ensures ∙ ap without_carriage_return c.in-Ok.ensures.cases.0)

pub returns-in-Err : goal.returns-in-Err
returns-in-Err c = no_line_taken c.args.rest.now c.in-Err.ensures.cases.0
