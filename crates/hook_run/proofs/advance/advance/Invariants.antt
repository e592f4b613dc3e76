use Rattle.std.specs.Prelude.{◌≡◌, ◌-◌, length}
use Rattle.hook_run.specs.CandidateFiles.{files_at}
use Rattle.hook_run.specs.PlanStates.{AreBegunAhead, hooks_from}
use Rattle.hook_run.proofs.AdvanceLemmas.{LeadsOn}
use Rattle.hook_run.proofs.advance.advance.Given as goal

abbrev pub invariant-hooks : goal.invariant-hooks
invariant-hooks l =
    LeadsOn l.course l.fn.done l.fn.place l.done l.place × (l.files ≡ files_at l.course.ask.now.candidates l.done.tree)
    × AreBegunAhead l.course.config.now l.course.ask.now l.done.tree (hooks_from l.course l.place) l.ahead.items

abbrev pub decreases-hooks : goal.decreases-hooks
decreases-hooks l = length l.course.hooks.items - l.place
