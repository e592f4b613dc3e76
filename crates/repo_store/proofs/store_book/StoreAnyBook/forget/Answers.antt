use Rattle.std.proofs.Common.{ap}
use Rattle.repo_store.specs.StoreBooks.{remembered_by}
use Rattle.repo_store.proofs.StoreBookLemmas.{after_forgetting, left_forgotten, rest_forgotten}
use Rattle.repo_store.proofs.store_book.StoreAnyBook.forget.Goals as goal

pub returns-in_err-count-clause-left : goal.returns-in_err-count-clause-left
returns-in_err-count-clause-left g c = left_forgotten g.S.Store c.args.self.now c.answers_forget.new.self c.answers_forget.result c.answers_forget.ensures.transaction

pub returns-in_err-count-clause-rest : goal.returns-in_err-count-clause-rest
returns-in_err-count-clause-rest g c =
    rest_forgotten g.S.Store c.args.self.now c.answers_forget.new.self c.answers_forget.result c.answers_forget.ensures.transaction (g.met.S.Store.stays c.args.self.now.conn.store)
    c.answers_forget.ensures.change

pub returns-clause-after : goal.returns-clause-after
returns-clause-after g c = after_forgetting c.args.self.now.kept (remembered_by c.answers_forget.new.self.kept) (ap remembered_by c.in_ok-count.ensures.change.done)

pub returns-clause-left : goal.returns-clause-left
returns-clause-left g c = left_forgotten g.S.Store c.args.self.now c.answers_forget.new.self c.answers_forget.result c.answers_forget.ensures.transaction

pub returns-clause-rest : goal.returns-clause-rest
returns-clause-rest g c =
    rest_forgotten g.S.Store c.args.self.now c.answers_forget.new.self c.answers_forget.result c.answers_forget.ensures.transaction (g.met.S.Store.stays c.args.self.now.conn.store)
    c.answers_forget.ensures.change
