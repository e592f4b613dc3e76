use Rattle.std.proofs.Common.{sym, subst, ℕ, List}
use Rattle.hook_run.specs.PlanStates.{AreFurther}
use Rattle.hook_run.proofs.BeginLemmas.{command-begun_if, cuts-given}
use Rattle.hook_run.proofs.FurtherLemmas.{further-first}
use Rattle.hook_run.proofs.begin.begin_command.Goals as goal

pub go_on-requires : goal.go_on-requires
go_on-requires c =
    record {
      further = subst (λ (paths : List (List ℕ)). AreFurther c.args.hook.now paths c.args.tree.now) (sym c.in_ok-further.ensures)
          (further-first c.args.hook.now c.args.tree.now);
    }

pub returns : goal.returns
returns c =
    let given = cuts-given c.args.hook.now c.args.words c.args.names c.in_ok-cuts.field-0 c.in-Some.cuts c.in-Some.is c.in_ok-cuts.ensures in
    command-begun_if c.args.hook.now c.args.words c.args.names c.args.tree.now c.in_ok-before.before c.in-Some.cuts c.nothing_gathered-gathered.result c.go_on.result
    given.0 given.1 c.in_ok-before.ensures c.nothing_gathered-gathered.ensures c.go_on.ensures
