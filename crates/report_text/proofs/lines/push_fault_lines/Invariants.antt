use Rattle.std.proofs.Common.{◌≡◌, ◌++◌, take}
use Rattle.report_text.specs.Report.{fault_lines}
use Rattle.report_text.proofs.lines.push_fault_lines.Given as goal

abbrev pub invariant-loop-fault : goal.invariant-loop-fault
invariant-loop-fault l = l.report.items ≡ l.initial.report.items ++ fault_lines (take l.fault-index l.faults)
