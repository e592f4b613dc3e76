use Rattle.commit_flow.proofs.StepLemmas.{one_answer}
use Rattle.commit_flow.proofs.laws.a_command_has_one_answer.Goals as goal

pub returns : goal.returns
returns c = one_answer
