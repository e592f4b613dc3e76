use Rattle.hook_cli.proofs.OverHostLemmas.{silent-itself}
use Rattle.hook_cli.proofs.OverRunLemmas.{run-refused, run-said}
use Rattle.hook_cli.proofs.over_runs.run.Goals as goal

pub returns-in-Ok-clause-run : goal.returns-in-Ok-clause-run
returns-in-Ok-clause-run g c =
    run-said g.S.Store (g.C.Children.tells c.args.children.now)
    (record {
      calls = g.C.Children.call_count c.args.children.now;
      calls_after = g.C.Children.call_count c.run.new.children;
      faults = g.C.Children.fault_count c.args.children.now;
      faults_after =
          g.C.Children.fault_count c.run.new.children;
    })
    c.args.host.now c.run.new.self c.args.ask.now
    (record { held = g.O.Write.contents c.args.out.now; holds = g.O.Write.contents c.say_run.new.out })
    (record { held = g.E.Write.contents c.args.err.now; holds = g.E.Write.contents c.say_run.new.err })
    c.say_run.result c.in-Ok.ran
    c.in-Ok.ensures.step c.in-Ok.ensures.kept c.in-Ok.ensures.command c.say_run.ensures

pub returns-in-Err-clause-run : goal.returns-in-Err-clause-run
returns-in-Err-clause-run g c =
    run-refused g.S.Store (g.C.Children.tells c.args.children.now)
    (record {
      calls = g.C.Children.call_count c.args.children.now;
      calls_after = g.C.Children.call_count c.run.new.children;
      faults = g.C.Children.fault_count c.args.children.now;
      faults_after =
          g.C.Children.fault_count c.run.new.children;
    })
    c.args.host.now c.run.new.self c.args.ask.now
    (record { held = g.O.Write.contents c.args.out.now; holds = g.O.Write.contents c.args.out.now })
    (record { held = g.E.Write.contents c.args.err.now; holds = g.E.Write.contents c.tell.new.err })
    c.tell.result c.in-Err.refusal c.in-Err.ensures.stopped c.in-Err.ensures.kept c.in-Err.ensures.command c.tell.ensures
    (silent-itself (g.O.Write.contents c.args.out.now))
