use Rattle.std.proofs.Common.{◌≡◌, length}
use Rattle.report_text.specs.Report.{without_blanks_before}
use Rattle.report_text.proofs.trim.without_blanks_before.Given as goal

-- what was passed over are blanks
abbrev pub invariant-loop-rest : goal.invariant-loop-rest
invariant-loop-rest l = without_blanks_before l.rest ≡ without_blanks_before l.bytes

abbrev pub decreases-loop-rest : goal.decreases-loop-rest
decreases-loop-rest l = length l.rest
