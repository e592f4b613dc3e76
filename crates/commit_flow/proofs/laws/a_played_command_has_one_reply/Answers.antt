use Rattle.commit_flow.proofs.PlayLawLemmas.{one_reply_a_command}
use Rattle.commit_flow.proofs.laws.a_played_command_has_one_reply.Goals as goal

pub returns : goal.returns
returns g c = λ from to before after. one_reply_a_command (g.C.Children.tells c.args.children.now) to after from before
