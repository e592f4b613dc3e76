use Rattle.std.proofs.Common.{ap, sym, subst}
use Rattle.repo_store.specs.FromRows.{AreMoved}
use Rattle.repo_store.specs.ListedAnswers.{ListedAnswers}
use Rattle.repo_store.proofs.FollowLemmas.{brought_moved, moved_not}
use Rattle.repo_store.proofs.from_rows.uses.bring.Goals as goal

pub returns-in_default-clause-moved : goal.returns-in_default-clause-moved
returns-in_default-clause-moved c = moved_not c.args.answers.now.answers

pub returns-in_default-digest_in-clause-moved : goal.returns-in_default-digest_in-clause-moved
returns-in_default-digest_in-clause-moved c = moved_not c.args.answers.now.answers

pub returns-clause-moved : goal.returns-clause-moved
returns-clause-moved c =
    subst (AreMoved c.args.answers.now.answers) (sym (ap (λ (l : ListedAnswers). l.answers) c.bring.ensures))
    (brought_moved (c.in-Some.words.now, c.in-Some-digest_in.seen.now) c.args.answers.now.answers)
