use Rattle.repo_store.proofs.StoreBookLemmas.{after_use, finds_from, left_found, rest_found}
use Rattle.repo_store.specs.StoreBooks.{remembered_by}
use Rattle.std.proofs.Common.{ap}
use Rattle.repo_store.proofs.store_book.StoreAnyBook.find.Goals as goal

pub returns-in_err-found-clause-left : goal.returns-in_err-found-clause-left
returns-in_err-found-clause-left g c =
    left_found g.S.Store (λ shown. g.met.S.Store.stays shown.conn.store) c.args.self.now c.answer_find.new.self c.answer_find.result c.args.words.now c.args.seen.now c.answer_find.ensures.transaction
    c.answer_find.ensures.keys

pub returns-in_err-found-clause-rest : goal.returns-in_err-found-clause-rest
returns-in_err-found-clause-rest g c =
    rest_found g.S.Store (λ shown. g.met.S.Store.stays shown.conn.store) c.args.self.now c.answer_find.new.self c.answer_find.result c.args.words.now c.args.seen.now c.answer_find.ensures.transaction
    c.answer_find.ensures.change

pub returns-clause-found : goal.returns-clause-found
returns-clause-found g c =
    finds_from c.args.words.now c.args.seen.now c.args.self.now.kept c.given.result c.in_ok-found.found c.given.ensures c.in_ok-found.ensures.found

pub returns-clause-after : goal.returns-clause-after
returns-clause-after g c =
    after_use c.args.words.now c.args.seen.now c.args.self.now.kept (remembered_by c.answer_find.new.self.kept) c.answer_find.ensures.keys (ap remembered_by c.in_ok-found.ensures.change.done)

pub returns-clause-left : goal.returns-clause-left
returns-clause-left g c =
    left_found g.S.Store (λ shown. g.met.S.Store.stays shown.conn.store) c.args.self.now c.answer_find.new.self c.answer_find.result c.args.words.now c.args.seen.now c.answer_find.ensures.transaction
    c.answer_find.ensures.keys

pub returns-clause-rest : goal.returns-clause-rest
returns-clause-rest g c =
    rest_found g.S.Store (λ shown. g.met.S.Store.stays shown.conn.store) c.args.self.now c.answer_find.new.self c.answer_find.result c.args.words.now c.args.seen.now c.answer_find.ensures.transaction
    c.answer_find.ensures.change
