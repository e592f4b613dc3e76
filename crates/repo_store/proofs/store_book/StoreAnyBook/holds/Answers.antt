use Rattle.repo_store.proofs.StoreBookLemmas.{held_from}
use Rattle.repo_store.proofs.store_book.StoreAnyBook.holds.Goals as goal

pub returns-clause-held : goal.returns-clause-held
returns-clause-held g c = held_from c.args.words.now c.args.seen.now c.args.self.now.kept c.in_ok-held.held c.in_ok-held.ensures.held
