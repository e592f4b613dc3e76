use Rattle.std.proofs.Common.{◌≡◌, ◌-◌, length, string_bytes}
use Rattle.yaml_lines.specs.Quoted.{quoted_within}
use Rattle.yaml_lines.proofs.QuotedSteps.{prefixed}
use Rattle.yaml_lines.proofs.quoted_text.quoted_within.Given as goal

abbrev pub invariant-loop : goal.invariant-loop
invariant-loop l = quoted_within l.mark (length l.text) l.text ≡ prefixed (string_bytes l.read) (quoted_within l.mark (length l.text - l.counter) l.rest)
