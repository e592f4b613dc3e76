use Rattle.commit_flow.proofs.PlayLawLemmas.{no_child_started}
use Rattle.commit_flow.proofs.laws.a_play_without_hooks_starts_no_child.Goals as goal

pub returns : goal.returns
returns g c = λ from to before after. no_child_started (g.C.Children.tells c.args.children.now) to after from before
