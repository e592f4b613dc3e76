use Rattle.std.proofs.Common.{◌+◌, List, ℕ, Ok, Err, subst}
use Rattle.sqlite.specs.declared.error.Error.{Error}
use Rattle.repo_store.specs.Bounded.{HoldsListed}
use Rattle.repo_store.specs.Remembering.{with_answer_row}
use Rattle.repo_store.specs.Rows.{answer_row, with_blobs}
use Rattle.repo_store.specs.Transactions.{IsCall}
use Rattle.repo_store.specs.UsedAnswers.{in_front}
use Rattle.repo_store.proofs.answer_puts.put_again.Goals as goal

pub returns-in-Ok-clause-rows : goal.returns-in-Ok-clause-rows
returns-in-Ok-clause-rows g c t =
    let answers = c.args.lists.now.kept.answers in
    subst (λ (news : List (List ℕ)). IsCall {A = Unit {0}} {E = Error} g.S.Store c.args.conn.now c.remember_rows.new.conn (Ok tt) (λ db. HoldsListed c.args.tick answers db t)
    (λ db. HoldsListed (c.args.tick + 1) (in_front c.args.answer answers) db (with_answer_row (answer_row c.args.answer) (with_blobs news t))))
    c.since.ensures (c.in-Ok.ensures t answers c.requires.told c.requires.first)

pub returns-in-Err-clause-rows : goal.returns-in-Err-clause-rows
returns-in-Err-clause-rows g c t =
    let answers = c.args.lists.now.kept.answers in
    subst (λ (news : List (List ℕ)). IsCall {A = Unit {0}} {E = Error} g.S.Store c.args.conn.now c.remember_rows.new.conn (Err c.in-Err.error) (λ db. HoldsListed c.args.tick answers db t)
    (λ db. HoldsListed (c.args.tick + 1) (in_front c.args.answer answers) db (with_answer_row (answer_row c.args.answer) (with_blobs news t))))
    c.since.ensures (c.in-Err.ensures t answers c.requires.told c.requires.first)
