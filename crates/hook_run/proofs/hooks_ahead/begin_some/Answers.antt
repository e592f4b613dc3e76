use Rattle.hook_run.specs.PlanStates.{hooks_from}
use Rattle.hook_run.proofs.AheadLemmas.{begun_all}
use Rattle.hook_run.proofs.hooks_ahead.begin_some.Goals as goal

pub returns : goal.returns
returns c =
    begun_all c.args.course.now.config.now c.args.course.now.ask.now c.args.tree.now (hooks_from c.args.course.now c.args.place) (hooks_from c.args.course.now c.hooks.at)
    c.hooks.begun.items c.hooks.invariant
