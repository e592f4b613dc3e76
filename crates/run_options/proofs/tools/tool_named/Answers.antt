use Rattle.run_options.specs.Tools.{tool_rows}
use Rattle.run_options.proofs.ToolLemmas.{short_named}
use Rattle.run_options.proofs.tools.tool_named.Goals as goal

pub returns-clause-short : goal.returns-clause-short
unfolding tool_rows
returns-clause-short c = short_named c.tool_in.result c.args.name.now c.tool_in.ensures
