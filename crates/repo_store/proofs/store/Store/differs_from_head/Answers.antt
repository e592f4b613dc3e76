use Rattle.std.proofs.Common.{◌≢◌, IsTrue, subst}
use Rattle.repo_store.specs.Repository.{last_tree}
use Rattle.repo_store.specs.Shown.{Shown}
use Rattle.repo_store.proofs.store.Store.differs_from_head.Goals as goal

pub returns : goal.returns
returns g c =
    let result = c.differs_from_head.result in
    subst (λ (s : Shown g.row.S.Denot). (IsTrue result → s.kept.repo.staged ≢ last_tree s.kept.repo.history) × (s.kept.repo.staged ≢ last_tree s.kept.repo.history → IsTrue result)) c.self.view_is
    (c.differs_from_head.ensures c.self.invariant.complete)
