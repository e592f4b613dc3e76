use Rattle.commit_flow.proofs.PlayLawLemmas.{spent_at_last}
use Rattle.commit_flow.proofs.laws.spent_only_at_the_last_count.Goals as goal

pub returns : goal.returns
returns g c = λ from to before after. spent_at_last (g.C.Children.tells c.args.children.now) to after from before
