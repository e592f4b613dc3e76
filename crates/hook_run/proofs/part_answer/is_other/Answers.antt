use Rattle.child_port.specs.AlikeLemmas.{answer_decides}
use Rattle.child_port.specs.contracts.answer.AnswerPartialEq.TheImpl as answer_eq
use Rattle.hook_run.proofs.PartLemmas.{is-marked}
use Rattle.hook_run.proofs.part_answer.is_other.Goals as goal

pub returns-in-Some-Done : goal.returns-in-Some-Done
returns-in-Some-Done c =
    let answer = c.in-Some-Done.answer in
    let found = c.in-Some-Done.found in
    rw (c.in-Some-Done.is-0, c.in-Some-Done.is-1)
    (is-marked c.ne.result (answer_eq.ghosts.eq answer found) answer found (answer_decides answer found) c.ne.ensures)
