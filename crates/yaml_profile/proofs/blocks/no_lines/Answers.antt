use Rattle.std.proofs.Common.{[], Some, sym, ap, ◌∙◌, arith}
use Rattle.yaml_lines.specs.ViewLemmas.{view-Empty}
use Rattle.yaml_profile.proofs.Nodes.{node-no_room, node-no_lines}
use Rattle.yaml_profile.proofs.blocks.no_lines.Goals as goal

pub returns-then-room-eq0 : goal.returns-then-room-eq0
returns-then-room-eq0 c = λ _. node-no_room c.args.room [] (omega arith)

pub returns : goal.returns
returns c = node-no_lines c.args.room (omega arith) ∙ ap (λ m. Some m) (sym view-Empty)
