use Rattle.std.proofs.Common.{◌≡◌, drop}
use Rattle.run_options.specs.Tools.{tool_rows_of, tool_in}
use Rattle.run_options.proofs.tools.tool_in.Given as goal

abbrev pub invariant-rows : goal.invariant-rows
invariant-rows l = tool_in (tool_rows_of (drop l.row-index l.rows)) l.name ≡ tool_in (tool_rows_of l.rows) l.name
