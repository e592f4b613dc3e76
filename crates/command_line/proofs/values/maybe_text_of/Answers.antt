use Rattle.std.proofs.Common.{◌∙◌}
use Rattle.clap.specs.Words.{found_of}
use Rattle.command_line.proofs.Kit.{first_value-rows}
use Rattle.command_line.proofs.ValueLemmas.{text-given, text-left-out}
use Rattle.command_line.proofs.values.maybe_text_of.Goals as goal

pub returns-in_ok-from_str-in-Some : goal.returns-in_ok-from_str-in-Some
returns-in_ok-from_str-in-Some c =
    text-given _ _ c.get_str.result c.in-Some.text _ c.get_str.ensures (first_value-rows (found_of c.args.values.now) c.args.id.now) c.in-Some.is
    (c.from.ensures ∙ c.in_ok-from_str-in-Some.ensures.ok)

pub returns-in-None : goal.returns-in-None
returns-in-None c =
    text-left-out _ _ c.get_str.result c.get_str.ensures (first_value-rows (found_of c.args.values.now) c.args.id.now) c.in-None.is
