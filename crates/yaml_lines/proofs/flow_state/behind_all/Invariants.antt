use Rattle.std.proofs.Common.{◌≡◌, ◌-◌, length}
use Rattle.yaml_lines.specs.FlowLines.{behind_tokens}
use Rattle.yaml_lines.proofs.flow_state.behind_all.Given as goal

abbrev pub invariant-loop : goal.invariant-loop
invariant-loop l = (behind_tokens (length l.text) l.fn.before l.text).state ≡ (behind_tokens (length l.text - l.counter) l.state l.left).state
