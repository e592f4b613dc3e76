use Rattle.commit_flow.proofs.PlayAnswerLemmas.{same_runs_over}
use Rattle.commit_flow.proofs.laws.commands_have_one_answer.Goals as goal

pub returns : goal.returns
returns g c = λ same alone. same_runs_over (g.C.Children.tells c.args.children.now) (g.D.Children.tells c.args.others.now) same alone
