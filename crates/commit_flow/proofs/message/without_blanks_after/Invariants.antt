use Rattle.std.proofs.Common.{◌≡◌, length}
use Rattle.commit_flow.specs.Messages.{without_trailing_blanks}
use Rattle.commit_flow.proofs.message.without_blanks_after.Given as goal

-- what was passed over are blanks
abbrev pub invariant-blanks : goal.invariant-blanks
invariant-blanks l = without_trailing_blanks l.rest ≡ without_trailing_blanks l.line

abbrev pub decreases-blanks : goal.decreases-blanks
decreases-blanks l = length l.rest
