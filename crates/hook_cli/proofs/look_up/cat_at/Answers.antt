use Rattle.std.proofs.Common.{inr, sym}
use Rattle.command_line.specs.declared.line.LookUp.TheVariants.{Cat}
use Rattle.hook_cli.proofs.OverHostLemmas.{look-up-refused, looked-up, silent-itself}
use Rattle.hook_cli.proofs.look_up.cat_at.Goals as goal

pub returns-in-Some : goal.returns-in-Some
returns-in-Some g c =
    looked-up c.args.store.now.kept (Cat c.args.path.now c.args.version)
    (record { held = g.O.Write.contents c.args.out.now; holds = g.O.Write.contents c.say.new.out })
    (record { held = g.E.Write.contents c.args.err.now; holds = g.E.Write.contents c.say.new.err })
    c.say.result c.in-Some.bytes.now (c.requires, sym c.in-Some.ensures) c.say.ensures

pub returns-in-None : goal.returns-in-None
returns-in-None g c =
    let told = c.tell_missing.ensures in
    look-up-refused c.args.store.now.kept (Cat c.args.path.now c.args.version)
    (record { held = g.O.Write.contents c.args.out.now; holds = g.O.Write.contents c.args.out.now })
    (record { held = g.E.Write.contents c.args.err.now; holds = g.E.Write.contents c.tell_missing.new.err })
    c.tell_missing.result told.0 (inr (c.requires, sym c.in-None.ensures, told.1)) told.2 (silent-itself (g.O.Write.contents c.args.out.now))
