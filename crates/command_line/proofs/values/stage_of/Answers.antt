use Rattle.std.proofs.Common.{codes}
use Rattle.clap.specs.Words.{found_of}
use Rattle.command_line.proofs.Kit.{first_value-rows}
use Rattle.command_line.proofs.ValueLemmas.{stage-manual, stage-none, stage-pre-commit, stage-refused}
use Rattle.command_line.proofs.values.stage_of.Goals as goal

pub returns-in-None : goal.returns-in-None
returns-in-None c =
    stage-none _ _ c.get_str.result c.get_str.ensures (first_value-rows (found_of c.args.values.now) (codes "hook-stage")) c.in-None.is

pub returns-in-Some-text : goal.returns-in-Some-text
returns-in-Some-text c =
    stage-pre-commit _ _ c.get_str.result c.in-Some-text.field-0 c.get_str.ensures (first_value-rows (found_of c.args.values.now) (codes "hook-stage"))
    c.in-Some-text.is c.in-Some-text.is-text

pub returns-in-Some-manual : goal.returns-in-Some-manual
returns-in-Some-manual c =
    stage-manual _ _ c.get_str.result c.in-Some-manual.field-0 c.get_str.ensures (first_value-rows (found_of c.args.values.now) (codes "hook-stage"))
    c.in-Some-manual.is c.in-Some-manual.is-manual

pub returns-in-Some : goal.returns-in-Some
returns-in-Some c =
    stage-refused _ _ c.get_str.result c.in-Some.text c.stage_error.result c.get_str.ensures (first_value-rows (found_of c.args.values.now) (codes "hook-stage"))
    c.in-Some.is c.in-Some.not-text c.in-Some.not-manual c.stage_error.ensures
