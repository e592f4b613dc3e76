use Rattle.hook_cli.proofs.OverHostLemmas.{accept-refused, accepted-said, silent-itself}
use Rattle.hook_cli.proofs.over_host.accept.Goals as goal

pub returns-in-Ok : goal.returns-in-Ok
returns-in-Ok g c =
    accepted-said g.S.Store c.args.host.now c.accept.new.self
    (record { held = g.O.Write.contents c.args.out.now; holds = g.O.Write.contents c.say_accepted.new.out })
    (record { held = g.E.Write.contents c.args.err.now; holds = g.E.Write.contents c.say_accepted.new.err })
    c.say_accepted.result c.in-Ok.number c.in-Ok.ensures.step c.in-Ok.ensures.change c.in-Ok.ensures.command c.say_accepted.ensures

pub returns-in-Err : goal.returns-in-Err
returns-in-Err g c =
    accept-refused g.S.Store c.args.host.now c.accept.new.self
    (record { held = g.O.Write.contents c.args.out.now; holds = g.O.Write.contents c.args.out.now })
    (record { held = g.E.Write.contents c.args.err.now; holds = g.E.Write.contents c.tell.new.err })
    c.tell.result c.in-Err.refusal c.in-Err.ensures.step c.in-Err.ensures.change c.in-Err.ensures.command c.tell.ensures
    (silent-itself (g.O.Write.contents c.args.out.now))
