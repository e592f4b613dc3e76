use Rattle.hook_cli.proofs.OverHostLemmas.{silent-itself}
use Rattle.hook_cli.proofs.over_host.end_of.Goals as goal

pub returns-in-Stage-clause-over : goal.returns-in-Stage-clause-over
returns-in-Stage-clause-over g c =
    rw (c.in-Stage.is)
    (c.stage.ensures (record { held = g.O.Write.contents c.args.out.now; holds = g.O.Write.contents c.args.out.now }) (silent-itself (g.O.Write.contents c.args.out.now)))
