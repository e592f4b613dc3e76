use Rattle.std.proofs.Common.{subst}
use Rattle.hook_base.specs.Trees.{IsRisingChanges}
use Rattle.repo_store.specs.Shown.{Shown}
use Rattle.repo_store.proofs.store.Store.fixes.Goals as goal

pub returns-clause-rising : goal.returns-clause-rising
returns-clause-rising g c = subst (λ (s : Shown g.row.S.Denot). IsRisingChanges s.kept.repo.fixes) c.self.view_is c.self.invariant.complete.sound.fixes_rise
