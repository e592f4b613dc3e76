use Rattle.yaml_lines.specs.View.{view}
use Rattle.hook_config.proofs.ShortTexts.{node_short}
use Rattle.hook_config.proofs.reader.read_config_with_node.Goals as goal

pub returns-clause-within : goal.returns-clause-within
returns-clause-within c = node_short c.args.bytes.now (view c.in_ok-node.node) c.in_ok-config.config c.in_ok-node.ensures.meant c.in_ok-config.ensures
