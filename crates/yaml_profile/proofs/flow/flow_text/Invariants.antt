use Rattle.std.proofs.Common.{◌≡◌, ◌++◌, drop}
use Rattle.yaml_profile.specs.Blocks.{further}
use Rattle.yaml_profile.proofs.flow.flow_text.Given as goal

abbrev pub invariant-loop-line : goal.invariant-loop-line
invariant-loop-line l = l.content ++ further l.later ≡ l.text.items ++ further (drop l.line-index l.later)
