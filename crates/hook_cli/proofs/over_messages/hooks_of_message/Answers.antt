use Rattle.std.proofs.Common.{Err, List, Ok, refl, subst, ℕ}
use Rattle.text_output.specs.Outputs.{Output}
use Rattle.hook_cli.specs.Printing.{IsSaid, ending_of, untaken_line}
use Rattle.hook_cli.proofs.OverHostLemmas.{silent-itself}
use Rattle.hook_cli.proofs.OverRunLemmas.{message-answered}
use Rattle.hook_cli.proofs.over_messages.hooks_of_message.Goals as goal

pub returns-in-Ok-clause-over : goal.returns-in-Ok-clause-over
returns-in-Ok-clause-over g c =
    let out : Output = record { held = g.O.Write.contents c.args.out.now; holds = g.O.Write.contents c.say_message-ending.new.out } in
    let err : Output = record { held = g.E.Write.contents c.args.err.now; holds = g.E.Write.contents c.say_message-ending.new.err } in
    message-answered g.S.Store (g.C.Children.tells c.args.children.now)
    (record {
      calls = g.C.Children.call_count c.args.children.now;
      calls_after = g.C.Children.call_count c.message.new.children;
      faults = g.C.Children.fault_count c.args.children.now;
      faults_after =
          g.C.Children.fault_count c.message.new.children;
    })
    c.args.host.now c.message.new.self c.args.ask.now c.args.message.now out err c.message_at.result c.say_message-ending.result (Ok c.in-Ok.ran)
    c.in-Ok.ensures.step c.in-Ok.ensures.rest c.in-Ok.ensures.command
    (subst (λ (text : List ℕ). IsSaid (ending_of c.in-Ok.ran.passed) out text err untaken_line c.say_message-ending.result) c.as_slice.ensures c.say_message-ending.ensures)
    c.message_at.ensures

pub returns-in-Err-clause-over : goal.returns-in-Err-clause-over
returns-in-Err-clause-over g c =
    message-answered g.S.Store (g.C.Children.tells c.args.children.now)
    (record {
      calls = g.C.Children.call_count c.args.children.now;
      calls_after = g.C.Children.call_count c.message.new.children;
      faults = g.C.Children.fault_count c.args.children.now;
      faults_after =
          g.C.Children.fault_count c.message.new.children;
    })
    c.args.host.now c.message.new.self c.args.ask.now c.args.message.now
    (record { held = g.O.Write.contents c.args.out.now; holds = g.O.Write.contents c.args.out.now })
    (record { held = g.E.Write.contents c.args.err.now; holds = g.E.Write.contents c.tell.new.err })
    _ c.tell.result (Err c.in-Err.refusal)
    c.in-Err.ensures.step c.in-Err.ensures.rest c.in-Err.ensures.command
    (silent-itself (g.O.Write.contents c.args.out.now), c.tell.ensures) refl
