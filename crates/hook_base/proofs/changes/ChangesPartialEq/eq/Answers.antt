use Rattle.hook_base.specs.AlikeLemmas.{change_decides, lists_same}
use Rattle.hook_base.proofs.changes.ChangesPartialEq.eq.Goals as goal

pub returns-clause-same : goal.returns-clause-same
returns-clause-same c = rw (← c.self.view_is, ← c.other.view_is) (lists_same change_decides _ _ _ c.eq.ensures)
