use Rattle.std.proofs.lemmas.Result.{IfOk-weaker}
use Rattle.repo_store.proofs.TreeLemmas.{found_tree_rises}
use Rattle.repo_store.proofs.store.Store.tree_of.Goals as goal

pub returns-clause-rising : goal.returns-clause-rising
returns-clause-rising g c =
    IfOk-weaker c.tree_of.result _ _ (λ tree is. found_tree_rises c.args.number c.self.inside.lists.kept.repo.history tree c.self.invariant.complete.sound.trees_rise is) c.tree_of.ensures
