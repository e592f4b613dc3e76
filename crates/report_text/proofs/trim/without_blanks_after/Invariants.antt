use Rattle.std.proofs.Common.{◌≡◌, length}
use Rattle.report_text.specs.Report.{without_blanks_after}
use Rattle.report_text.proofs.trim.without_blanks_after.Given as goal

-- what was passed over are blanks
abbrev pub invariant-loop-rest : goal.invariant-loop-rest
invariant-loop-rest l = without_blanks_after l.rest ≡ without_blanks_after l.bytes

abbrev pub decreases-loop-rest : goal.decreases-loop-rest
decreases-loop-rest l = length l.rest
