use Rattle.commit_flow.proofs.PlayStartLemmas.{all_unchanged}
use Rattle.commit_flow.proofs.laws.a_play_without_hooks_leaves_what_is_remembered.Goals as goal

pub returns : goal.returns
returns g c = λ from to before after. all_unchanged (g.C.Children.tells c.args.children.now) to after from before
