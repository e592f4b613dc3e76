use Rattle.commit_flow.proofs.PlayStartLemmas.{all_started}
use Rattle.commit_flow.proofs.laws.a_play_counts_what_it_starts.Goals as goal

pub returns : goal.returns
returns g c = λ from to before after. all_started (g.C.Children.tells c.args.children.now) to after from before
