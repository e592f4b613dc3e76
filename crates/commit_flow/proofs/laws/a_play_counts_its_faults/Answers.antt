use Rattle.commit_flow.proofs.PlayLawLemmas.{faults_at_least, faults_exactly}
use Rattle.commit_flow.proofs.laws.a_play_counts_its_faults.Goals as goal

pub returns : goal.returns
returns g c = record {
  at_least = λ from to before after. faults_at_least (g.C.Children.tells c.args.children.now) to after from before;
  exactly = λ from to before after. faults_exactly (g.C.Children.tells c.args.children.now) to after from before;
}
