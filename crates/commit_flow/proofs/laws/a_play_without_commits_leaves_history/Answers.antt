use Rattle.commit_flow.proofs.PlayLawLemmas.{all_history_kept}
use Rattle.commit_flow.proofs.laws.a_play_without_commits_leaves_history.Goals as goal

pub returns : goal.returns
returns g c = λ from to before after. all_history_kept (g.C.Children.tells c.args.children.now) to after from before
