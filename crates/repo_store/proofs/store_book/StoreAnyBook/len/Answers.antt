use Rattle.repo_store.proofs.StoreBookLemmas.{within_rows}
use Rattle.repo_store.proofs.StoreRowLemmas.{distinct_rows}
use Rattle.repo_store.proofs.store_book.StoreAnyBook.len.Goals as goal

pub returns-clause-within : goal.returns-clause-within
returns-clause-within g c = within_rows c.args.self.now.kept c.answers_len.ensures.few

pub returns-clause-distinct : goal.returns-clause-distinct
returns-clause-distinct g c = distinct_rows c.args.self.now.kept.answers c.answers_len.ensures.keys
