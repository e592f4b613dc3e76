use Rattle.hook_cli.proofs.PlayedLemmas.{each_played}
use Rattle.hook_cli.proofs.laws.each_command_is_played.Goals as goal

pub returns : goal.returns
returns g c = each_played g.S.Store (g.C.Children.tells c.args.children.now)
