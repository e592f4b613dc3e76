use Rattle.std.proofs.Common.{codes}
use Rattle.clap.specs.Words.{found_of}
use Rattle.command_line.proofs.Kit.{first_value-rows}
use Rattle.command_line.proofs.ValueLemmas.{mode-executable, mode-none, mode-refused}
use Rattle.command_line.proofs.values.mode_of.Goals as goal

pub returns-in-None : goal.returns-in-None
returns-in-None c =
    mode-none _ _ c.get_str.result c.get_str.ensures (first_value-rows (found_of c.args.values.now) (codes "chmod")) c.in-None.is

pub returns-in-Some-text : goal.returns-in-Some-text
returns-in-Some-text c =
    mode-executable _ _ c.get_str.result c.in-Some-text.field-0 c.get_str.ensures (first_value-rows (found_of c.args.values.now) (codes "chmod"))
    c.in-Some-text.is c.in-Some-text.is-text

pub returns-in-Some : goal.returns-in-Some
returns-in-Some c =
    mode-refused _ _ c.get_str.result c.in-Some.text c.chmod_error.result c.get_str.ensures (first_value-rows (found_of c.args.values.now) (codes "chmod")) c.in-Some.is
    c.in-Some.not-text c.chmod_error.ensures
