use Rattle.std.proofs.Common.{◌≡◌, true, map}
use Rattle.hookhost.specs.ColoredTexts.{colored_lines}
use Rattle.hookhost.proofs.ColorLemmas.{is_start}
use Rattle.hookhost.proofs.colored_report.colored_text.Given as goal

abbrev pub invariant-lines : goal.invariant-lines
invariant-lines l = record {
  first : l.is_first ≡ is_start (map (λ x. x.now) l.yielded);
  text : l.colored.items ≡ colored_lines true (map (λ x. x.now) l.yielded);
}
