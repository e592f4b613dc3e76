use Rattle.std.proofs.Common.{◌≢◌, IsTrue, subst}
use Rattle.hook_base.specs.Trees.{entry_of}
use Rattle.repo_store.specs.Kept.{Kept}
use Rattle.repo_store.specs.Repository.{last_tree}
use Rattle.repo_store.specs.Shown.{Shown}
use Rattle.repo_store.proofs.store.Store.differs_from_head_at.Goals as goal

pub returns : goal.returns
returns g c =
    let result = c.differs_from_head_at.result in
    let path = c.args.path.now in
    let differ : Kept → Type 0 = λ kept. entry_of path kept.repo.staged ≢ entry_of path (last_tree kept.repo.history) in
    subst (λ (s : Shown g.row.S.Denot). (IsTrue result → differ s.kept) × (differ s.kept → IsTrue result)) c.self.view_is (c.differs_from_head_at.ensures c.self.invariant.complete)
