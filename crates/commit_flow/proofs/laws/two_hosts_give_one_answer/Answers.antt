use Rattle.commit_flow.proofs.PlayAnswerLemmas.{same_plays, steady_play}
use Rattle.commit_flow.proofs.laws.two_hosts_give_one_answer.Goals as goal

pub returns : goal.returns
returns g c = record {
  same = λ same alone. same_plays (g.C.Children.tells c.args.children.now) (g.D.Children.tells c.args.others.now) same alone;
  steady = steady_play (g.C.Children.tells c.args.children.now);
}
