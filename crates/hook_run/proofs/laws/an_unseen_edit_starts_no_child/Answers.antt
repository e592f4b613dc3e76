use Rattle.hook_run.proofs.ReplayLemmas.{replayed-alike, replayed-unstarted}
use Rattle.hook_run.proofs.laws.an_unseen_edit_starts_no_child.Goals as goal

pub returns : goal.returns
returns g c = record {
  alike = replayed-alike (g.C.Children.tells c.args.children.now);
  unstarted = replayed-unstarted (g.C.Children.tells c.args.children.now);
}
