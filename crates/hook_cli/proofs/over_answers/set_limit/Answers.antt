use Rattle.hook_cli.proofs.OverHostLemmas.{limit-fits, limit-refused, limit-said, silent-itself}
use Rattle.hook_cli.proofs.over_answers.set_limit.Goals as goal

pub set_limit-requires : goal.set_limit-requires
set_limit-requires g c = limit-fits c.args.limit.now c.number.result c.number.ensures.same c.number.ensures.within

pub returns-in-Ok : goal.returns-in-Ok
returns-in-Ok g c =
    limit-said g.S.Store c.args.host.now c.set_limit.new.self
    (record { held = g.O.Write.contents c.args.out.now; holds = g.O.Write.contents c.say_remembered.new.out })
    (record { held = g.E.Write.contents c.args.err.now; holds = g.E.Write.contents c.say_remembered.new.err })
    c.say_remembered.result c.args.limit.now c.number.result c.number.ensures.same
    c.in-Ok.number c.in-Ok.ensures.step c.in-Ok.ensures.command c.in-Ok.ensures.change c.in-Ok.ensures.transaction c.in-Ok.ensures.number c.say_remembered.ensures

pub returns-in-Err : goal.returns-in-Err
returns-in-Err g c =
    limit-refused g.S.Store c.args.host.now c.set_limit.new.self
    (record { held = g.O.Write.contents c.args.out.now; holds = g.O.Write.contents c.args.out.now })
    (record { held = g.E.Write.contents c.args.err.now; holds = g.E.Write.contents c.tell.new.err })
    c.tell.result c.args.limit.now c.number.result c.number.ensures.same
    c.in-Err.refusal c.in-Err.ensures.step c.in-Err.ensures.command c.in-Err.ensures.change c.in-Err.ensures.transaction c.in-Err.ensures.why c.tell.ensures
    (silent-itself (g.O.Write.contents c.args.out.now))
