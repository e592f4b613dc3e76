use Rattle.commit_flow.proofs.StopLawLemmas.{sessions_left}
use Rattle.commit_flow.proofs.laws.stopped_sessions_lose_nothing.Goals as goal

pub returns : goal.returns
returns g c = λ found left sessions kept. sessions_left g.S.Store (g.C.Children.tells c.args.children.now) found left sessions kept
