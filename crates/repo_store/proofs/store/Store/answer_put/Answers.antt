use Rattle.std.proofs.Common.{subst, ap}
use Rattle.std.proofs.lemmas.Result.{err_from_is_err_and}
use Rattle.repo_store.specs.AnswerRefs.{copied_answer}
use Rattle.repo_store.specs.Kept.{Kept}
use Rattle.repo_store.specs.Remembering.{remembering}
use Rattle.repo_store.specs.Shown.{IsOneTransaction}
use Rattle.repo_store.proofs.StoreFindLemmas.{numbering_refused}
use Rattle.repo_store.proofs.store.Store.answer_put.Goals as goal

pub returns-in_err-leave_a_tick-clause-transaction : goal.returns-in_err-leave_a_tick-clause-transaction
returns-in_err-leave_a_tick-clause-transaction g c =
    let old = c.args.self.now in
    let p = err_from_is_err_and c.from_residual.result c.from_residual.ensures.1 in
    rw p.1 (numbering_refused g.S.Store old c.leave_a_tick.new.self _ (remembering (copied_answer c.args.words.now c.args.seen.now c.args.answer) old.kept) c.leave_a_tick.ensures.numbered
    c.leave_a_tick.ensures.stands)

pub returns-clause-transaction : goal.returns-clause-transaction
returns-clause-transaction g c =
    let old = c.args.self.now in
    let mid = c.leave_a_tick.new.self in
    let new = c.put_answer.new.self in
    let asked = ap (remembering (copied_answer c.args.words.now c.args.seen.now c.args.answer)) c.leave_a_tick.ensures.same in
    record {
      between = mid;
      numbered = c.leave_a_tick.ensures.numbered;
      transaction = subst (λ (k : Kept). IsOneTransaction g.S.Store mid new c.put_answer.result k) asked
          c.put_answer.ensures.transaction;
    }
