use Rattle.hook_run.specs.PlanStates.{at_work}
use Rattle.hook_run.proofs.AdvanceLemmas.{ended-at_if, ended-within_if, waits-at, waits-within}
use Rattle.hook_run.proofs.plan.plan_at.Goals as goal

pub returns-in-Waits-clause-from : goal.returns-in-Waits-clause-from
returns-in-Waits-clause-from c =
    λ parts out on. waits-at c.args.course c.args.done c.args.place (at_work c.args.work) c.in_ok-waiting.field-0 c.in-Waits.waiting parts out
    c.in-Waits.is c.in_ok-waiting.ensures on

pub returns-in-Ended-clause-from : goal.returns-in-Ended-clause-from
returns-in-Ended-clause-from c =
    ended-at_if c.args.course c.args.done c.args.place (at_work c.args.work) c.in_ok-waiting.field-0 c.in-Ended.ending c.in-Ended.unsteady c.plan_behind_hook.result
    c.in-Ended.is c.in_ok-waiting.ensures c.plan_behind_hook.ensures.from

pub returns-in-Waits-clause-within : goal.returns-in-Waits-clause-within
returns-in-Waits-clause-within c =
    waits-within c.args.course c.args.done c.args.place (at_work c.args.work) c.in_ok-waiting.field-0 c.in-Waits.waiting c.in-Waits.is c.in_ok-waiting.ensures

pub returns-in-Ended-clause-within : goal.returns-in-Ended-clause-within
returns-in-Ended-clause-within c =
    ended-within_if c.args.course c.args.done c.args.place (at_work c.args.work) c.plan_behind_hook.result c.plan_behind_hook.ensures.within
