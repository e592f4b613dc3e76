use Rattle.std.proofs.Common.{codes}
use Rattle.clap.specs.Words.{found_of}
use Rattle.command_line.proofs.Kit.{first_value-rows}
use Rattle.command_line.proofs.ValueLemmas.{version-committed, version-fixed, version-staged, versions-refused}
use Rattle.command_line.proofs.values.version_of.Goals as goal

pub returns-in-None : goal.returns-in-None
returns-in-None c =
    version-fixed _ c.flag_of-is_fixed.result _ _ c.get_str.result c.flag_of-is_fixed.ensures c.get_str.ensures (first_value-rows (found_of c.args.values.now) (codes "commit"))
    c.if-is_fixed.true c.in-None.is

pub returns-in-None-2 : goal.returns-in-None-2
returns-in-None-2 c =
    version-staged _ c.flag_of-is_fixed.result _ _ c.get_str.result c.flag_of-is_fixed.ensures c.get_str.ensures (first_value-rows (found_of c.args.values.now) (codes "commit"))
    c.if-is_fixed.false c.in-None-2.is

pub returns-in-Some : goal.returns-in-Some
returns-in-Some c =
    versions-refused _ c.flag_of-is_fixed.result _ _ c.get_str.result c.flag_of-is_fixed.ensures c.get_str.ensures (first_value-rows (found_of c.args.values.now) (codes "commit"))
    c.in-Some.text c.versions_error.result c.if-is_fixed-2.true c.in-Some.is c.versions_error.ensures

pub returns-in-Some-2 : goal.returns-in-Some-2
returns-in-Some-2 c =
    version-committed _ c.flag_of-is_fixed.result _ _ c.get_str.result c.flag_of-is_fixed.ensures c.get_str.ensures (first_value-rows (found_of c.args.values.now) (codes "commit"))
    c.in-Some.text c.commit_of.result c.if-is_fixed-2.false c.in-Some.is c.commit_of.ensures
