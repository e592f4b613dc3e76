use Rattle.std.proofs.Common.{Err, Ok}
use Rattle.hook_cli.proofs.OverHostLemmas.{silent-itself}
use Rattle.hook_cli.proofs.OverRunLemmas.{commit-answered}
use Rattle.hook_cli.proofs.over_runs.commit.Goals as goal

pub returns-in-Ok-clause-commit : goal.returns-in-Ok-clause-commit
returns-in-Ok-clause-commit g c =
    commit-answered g.S.Store (g.C.Children.tells c.args.children.now)
    (record {
      calls = g.C.Children.call_count c.args.children.now;
      calls_after = g.C.Children.call_count c.commit.new.children;
      faults = g.C.Children.fault_count c.args.children.now;
      faults_after =
          g.C.Children.fault_count c.commit.new.children;
    })
    c.args.host.now c.commit.new.self c.args.message.now c.args.no_verify c.args.skip.now
    (record { held = g.O.Write.contents c.args.out.now; holds = g.O.Write.contents c.say_ending.new.out })
    (record { held = g.E.Write.contents c.args.err.now; holds = g.E.Write.contents c.say_ending.new.err })
    c.say_ending.result (Ok c.in-Ok.ending) c.in-Ok.ensures.step c.in-Ok.ensures.kept c.in-Ok.ensures.command c.say_ending.ensures

pub returns-in-Err-clause-commit : goal.returns-in-Err-clause-commit
returns-in-Err-clause-commit g c =
    commit-answered g.S.Store (g.C.Children.tells c.args.children.now)
    (record {
      calls = g.C.Children.call_count c.args.children.now;
      calls_after = g.C.Children.call_count c.commit.new.children;
      faults = g.C.Children.fault_count c.args.children.now;
      faults_after =
          g.C.Children.fault_count c.commit.new.children;
    })
    c.args.host.now c.commit.new.self c.args.message.now c.args.no_verify c.args.skip.now
    (record { held = g.O.Write.contents c.args.out.now; holds = g.O.Write.contents c.args.out.now })
    (record { held = g.E.Write.contents c.args.err.now; holds = g.E.Write.contents c.tell.new.err })
    c.tell.result (Err c.in-Err.refusal) c.in-Err.ensures.step c.in-Err.ensures.kept c.in-Err.ensures.command
    (silent-itself (g.O.Write.contents c.args.out.now), c.tell.ensures)
