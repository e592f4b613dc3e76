use Rattle.repo_store.specs.RestLemmas.{rests_itself}
use Rattle.repo_store.specs.StoreBooks.{MayRemember, remembered_by}
use Rattle.commit_flow.proofs.LeftLemmas.{left_same}
use Rattle.commit_flow.proofs.commit.go_through.Goals as goal

pub returns-in_err-begun-clause-rest : goal.returns-in_err-begun-clause-rest
returns-in_err-begun-clause-rest g c = rests_itself g.S.Store c.args.store.now

pub returns-in_err-begun-clause-left : goal.returns-in_err-begun-clause-left
returns-in_err-begun-clause-left g c = left_same (g.C.Children.tells c.args.children.now) (remembered_by c.args.store.now.kept) (MayRemember g.S.Store c.args.store.now)
