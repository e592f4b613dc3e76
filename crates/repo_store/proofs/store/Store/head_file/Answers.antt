use Rattle.std.proofs.Common.{subst}
use Rattle.hook_base.specs.Trees.{IsRising}
use Rattle.repo_store.specs.Repository.{last_tree}
use Rattle.repo_store.specs.Shown.{Shown}
use Rattle.repo_store.proofs.TreeLemmas.{last_rises}
use Rattle.repo_store.proofs.store.Store.head_file.Goals as goal

pub returns-clause-rising : goal.returns-clause-rising
returns-clause-rising g c =
    subst (λ (s : Shown g.row.S.Denot). IsRising (last_tree s.kept.repo.history)) c.self.view_is (last_rises c.self.inside.lists.kept.repo.history c.self.invariant.complete.sound.trees_rise)
