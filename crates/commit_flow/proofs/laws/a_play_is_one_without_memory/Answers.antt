use Rattle.commit_flow.proofs.PlayAnswerLemmas.{run_without_memory}
use Rattle.commit_flow.proofs.laws.a_play_is_one_without_memory.Goals as goal

pub returns : goal.returns
returns g c = run_without_memory (g.C.Children.tells c.args.children.now)
