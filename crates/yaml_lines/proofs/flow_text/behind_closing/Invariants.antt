use Rattle.std.proofs.Common.{◌≡◌, ◌-◌, length, option_map}
use Rattle.yaml_lines.specs.Quoted.{quoted_within}
use Rattle.yaml_lines.proofs.flow_text.behind_closing.Given as goal

abbrev pub invariant-loop : goal.invariant-loop
invariant-loop l =
    option_map (λ q. q.rest) (quoted_within l.mark (length l.text) l.text) ≡ option_map (λ q. q.rest) (quoted_within l.mark (length l.text - l.counter) l.rest)
