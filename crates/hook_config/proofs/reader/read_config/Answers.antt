use Rattle.yaml_lines.specs.View.{view}
use Rattle.hook_config.proofs.ShortTexts.{result_short}
use Rattle.hook_config.proofs.reader.read_config.Goals as goal

pub returns-in-Ok-clause-within : goal.returns-in-Ok-clause-within
returns-in-Ok-clause-within c = result_short c.config_of_node.result c.args.bytes.now (view c.in-Ok.node) c.in-Ok.ensures.meant c.config_of_node.ensures
