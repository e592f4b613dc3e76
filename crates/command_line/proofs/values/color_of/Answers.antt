use Rattle.std.proofs.Common.{codes, refl}
use Rattle.clap.specs.Words.{found_of}
use Rattle.command_line.proofs.Kit.{first_value-rows}
use Rattle.command_line.specs.declared.line.ColorChoice.TheVariants.{Auto, Always, Never}
use Rattle.command_line.proofs.ValueLemmas.{color-none, color-refused, color-told}
use Rattle.command_line.proofs.values.color_of.Goals as goal

pub returns-in-None : goal.returns-in-None
returns-in-None c =
    color-none _ _ c.get_str.result c.get_str.ensures (first_value-rows (found_of c.args.values.now) (codes "color")) c.in-None.is

pub returns-in-Some-auto : goal.returns-in-Some-auto
returns-in-Some-auto c =
    color-told (codes "auto") Auto _ _ c.get_str.result c.in-Some-auto.field-0 refl c.get_str.ensures
    (first_value-rows (found_of c.args.values.now) (codes "color")) c.in-Some-auto.is c.in-Some-auto.is-auto

pub returns-in-Some-always : goal.returns-in-Some-always
returns-in-Some-always c =
    color-told (codes "always") Always _ _ c.get_str.result c.in-Some-always.field-0 refl c.get_str.ensures
    (first_value-rows (found_of c.args.values.now) (codes "color")) c.in-Some-always.is c.in-Some-always.is-always

pub returns-in-Some-never : goal.returns-in-Some-never
returns-in-Some-never c =
    color-told (codes "never") Never _ _ c.get_str.result c.in-Some-never.field-0 refl c.get_str.ensures
    (first_value-rows (found_of c.args.values.now) (codes "color")) c.in-Some-never.is c.in-Some-never.is-never

pub returns-in-Some : goal.returns-in-Some
returns-in-Some c =
    color-refused _ _ c.get_str.result c.in-Some.text c.color_error.result c.get_str.ensures (first_value-rows (found_of c.args.values.now) (codes "color"))
    c.in-Some.is c.in-Some.not-auto c.in-Some.not-always c.in-Some.not-never c.color_error.ensures
