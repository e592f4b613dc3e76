use Rattle.std.proofs.Common.{◌≡◌, true, false, sym, ◌∙◌, arith}
use Rattle.repo_store.proofs.FollowLemmas.{keys_count, unanswered}
use Rattle.repo_store.proofs.from_rows.uses.have_answers.Goals as goal

pub returns-then-uses-len-clause-none : goal.returns-then-uses-len-clause-none
returns-then-uses-len-clause-none c = λ _ same. let count = keys_count c.args.uses.now c.args.answers.now.answers same in absurd (omega arith)

pub returns-then-not-has_answer-clause-none : goal.returns-then-not-has_answer-clause-none
returns-then-not-has_answer-clause-none c = λ _.
    unanswered c.args.uses.now c.uses.row-index c.row-item.result c.args.answers.now.answers c.uses-test.true c.row-item.is
    (c.has_answer.ensures (λ e. let never : false ≡ true = sym c.if-not-has_answer.true ∙ e in absurd (cc)))
