use Rattle.std.proofs.Common.{subst}
use Rattle.hook_base.specs.Trees.{IsRising}
use Rattle.repo_store.specs.Shown.{Shown}
use Rattle.repo_store.proofs.store.Store.staged.Goals as goal

pub returns-clause-rising : goal.returns-clause-rising
returns-clause-rising g c = subst (λ (s : Shown g.row.S.Denot). IsRising s.kept.repo.staged) c.self.view_is c.self.invariant.complete.sound.staged_rise
