use Rattle.commit_flow.proofs.MessageLawLemmas.{failed_into, made_into, made_of}
use Rattle.commit_flow.proofs.laws.a_bypassing_commit_is_of_the_message_that_is_left.Goals as goal

pub returns : goal.returns
returns c = record { made = made_into; possible = made_of; failed = failed_into }
