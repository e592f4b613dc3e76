use Rattle.std.proofs.Common.{subst, sym}
use Rattle.result_book.specs.CallLemmas.{limit_after_find, limit_after_put}
use Rattle.result_book.specs.Contents.{IsBook}
use Rattle.result_book.specs.OrderLemmas.{book_found, book_put}
use Rattle.result_book.proofs.laws.a_book_keeps_its_limit.Goals as goal

pub returns-clause-found : goal.returns-clause-found
returns-clause-found c = λ words seen before after book step. (subst IsBook (sym step.is) (book_found words seen before book), limit_after_find words seen before after step)

pub returns-clause-put : goal.returns-clause-put
returns-clause-put c = λ words seen answer before after book step. (subst IsBook (sym step.is) (book_put words seen answer before book), limit_after_put words seen answer before after step)
