use Rattle.result_book.specs.CallLemmas.{others_before_put, others_but_last, others_in_place, others_in_room}
use Rattle.result_book.proofs.laws.others_are_found_as_before.Goals as goal

pub returns-clause-before : goal.returns-clause-before
returns-clause-before c = others_before_put

pub returns-clause-room : goal.returns-clause-room
returns-clause-room c = λ words seen answer before after others theirs found step room differs finds. others_in_room words seen answer before after step room others theirs found differs finds

pub returns-clause-place : goal.returns-clause-place
returns-clause-place c = λ words seen answer old before after others theirs found book step held differs finds.
    others_in_place words seen answer before after step old book.distinct book.within held others theirs found differs finds

pub returns-clause-last : goal.returns-clause-last
returns-clause-last c = λ words seen answer before after rows last others theirs found book step all apart differs finds.
    others_but_last words seen answer before after step rows last all book.within others theirs found differs apart finds
