use Rattle.std.proofs.Common.{inl, refl}
use Rattle.command_line.specs.declared.line.LookUp.TheVariants.{Cat}
use Rattle.hook_cli.specs.RefusalText.{refusal_text}
use Rattle.hook_cli.proofs.OverHostLemmas.{look-up-refused, silent-itself}
use Rattle.hook_cli.proofs.look_up.cat.Goals as goal

pub returns-in-Err : goal.returns-in-Err
returns-in-Err g c =
    look-up-refused c.args.store.now.kept (Cat c.args.path.now c.args.version)
    (record { held = g.O.Write.contents c.args.out.now; holds = g.O.Write.contents c.args.out.now })
    (record { held = g.E.Write.contents c.args.err.now; holds = g.E.Write.contents c.tell.new.err })
    c.tell.result (refusal_text c.in-Err.refusal) (inl (c.in-Err.refusal, c.in-Err.ensures.refused, refl)) c.tell.ensures
    (silent-itself (g.O.Write.contents c.args.out.now))
