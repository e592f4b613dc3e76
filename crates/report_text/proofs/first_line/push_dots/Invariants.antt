use Rattle.std.proofs.Common.{◌≡◌, ◌++◌, replicate}
use Rattle.report_text.proofs.first_line.push_dots.Given as goal

abbrev pub invariant-loop : goal.invariant-loop
invariant-loop l = l.report.items ≡ l.initial.report.items ++ replicate l.counter 46
