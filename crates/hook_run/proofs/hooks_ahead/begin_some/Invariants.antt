use Rattle.std.specs.Prelude.{◌-◌, length}
use Rattle.hook_run.specs.PlanStates.{hooks_from}
use Rattle.hook_run.proofs.AheadLemmas.{BegunSoFar}
use Rattle.hook_run.proofs.hooks_ahead.begin_some.Given as goal

abbrev pub invariant-hooks : goal.invariant-hooks
invariant-hooks l =
    BegunSoFar l.course.config.now l.course.ask.now l.tree (hooks_from l.course l.place) l.begun.items (hooks_from l.course l.at)

abbrev pub decreases-hooks : goal.decreases-hooks
decreases-hooks l = length l.course.hooks.items - l.at
