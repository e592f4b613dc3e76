use Rattle.commit_flow.proofs.CheckedLawLemmas.{checked_into, checked_of}
use Rattle.commit_flow.proofs.laws.a_commit_without_earlier_hooks_is_of_the_message_that_is_left.Goals as goal

pub returns : goal.returns
returns c = record { made = checked_into; possible = checked_of }
