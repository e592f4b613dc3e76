use Rattle.std.proofs.Common.{ap}
use Rattle.command_line.specs.declared.line.LookUp.TheVariants.{Memory}
use Rattle.hook_cli.specs.MemoryText.{remembered_text}
use Rattle.hook_cli.proofs.OverHostLemmas.{looked-up}
use Rattle.hook_cli.proofs.look_up.memory.Goals as goal

pub returns : goal.returns
returns g c =
    looked-up c.args.host.now.store.kept Memory
    (record { held = g.O.Write.contents c.args.out.now; holds = g.O.Write.contents c.say_remembered.new.out })
    (record { held = g.E.Write.contents c.args.err.now; holds = g.E.Write.contents c.say_remembered.new.err })
    c.say_remembered.result (remembered_text c.remembered.result) (ap remembered_text c.remembered.ensures) c.say_remembered.ensures
