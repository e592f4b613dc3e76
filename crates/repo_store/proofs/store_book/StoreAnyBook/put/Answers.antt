use Rattle.std.proofs.Common.{subst, sym}
use Rattle.child_port.specs.declared.answer.Answer.{Answer}
use Rattle.repo_store.specs.AnswerRefs.{copied_answer}
use Rattle.repo_store.specs.SoundAnswers.{KeepToSeen}
use Rattle.repo_store.proofs.StoreBookLemmas.{after_put, keeps_from, left_put, rest_put}
use Rattle.repo_store.proofs.store_book.StoreAnyBook.put.Goals as goal

pub answer_put-requires : goal.answer_put-requires
answer_put-requires g c = subst (λ (answer : Answer). KeepToSeen answer.changes c.args.seen.now) (sym c.handed.ensures) (keeps_from c.args.seen.now c.args.answer.now c.requires.keeps_to_seen)

pub returns-in_err-answer_put-clause-left : goal.returns-in_err-answer_put-clause-left
returns-in_err-answer_put-clause-left g c =
    left_put g.S.Store (λ shown. g.met.S.Store.stays shown.conn.store) c.args.self.now c.answer_put.new.self c.answer_put.result (copied_answer c.args.words.now c.args.seen.now c.handed.result)
    c.args.answer.now c.handed.ensures c.answer_put.ensures.transaction

pub returns-in_err-answer_put-clause-rest : goal.returns-in_err-answer_put-clause-rest
returns-in_err-answer_put-clause-rest g c =
    rest_put g.S.Store (λ shown. g.met.S.Store.stays shown.conn.store) c.args.self.now c.answer_put.new.self c.answer_put.result (copied_answer c.args.words.now c.args.seen.now c.handed.result)
    c.args.answer.now c.handed.ensures c.answer_put.ensures.transaction
    c.answer_put.ensures.change

pub returns-clause-after : goal.returns-clause-after
returns-clause-after g c =
    after_put g.S.Store (λ shown. g.met.S.Store.stays shown.conn.store) c.args.self.now c.answer_put.new.self c.answer_put.result (copied_answer c.args.words.now c.args.seen.now c.handed.result)
    c.args.answer.now c.handed.ensures c.answer_put.ensures.transaction
    c.in_ok-answer_put.ensures.change.done

pub returns-clause-left : goal.returns-clause-left
returns-clause-left g c =
    left_put g.S.Store (λ shown. g.met.S.Store.stays shown.conn.store) c.args.self.now c.answer_put.new.self c.answer_put.result (copied_answer c.args.words.now c.args.seen.now c.handed.result)
    c.args.answer.now c.handed.ensures c.answer_put.ensures.transaction

pub returns-clause-rest : goal.returns-clause-rest
returns-clause-rest g c =
    rest_put g.S.Store (λ shown. g.met.S.Store.stays shown.conn.store) c.args.self.now c.answer_put.new.self c.answer_put.result (copied_answer c.args.words.now c.args.seen.now c.handed.result)
    c.args.answer.now c.handed.ensures c.answer_put.ensures.transaction
    c.answer_put.ensures.change
