-- What stops hooks, from what refuses their run.
use Rattle.std.proofs.Common.{◌≡◌, ◌≢◌, refl}
use Rattle.store_faults.specs.declared.fault.StoreFault.{StoreFault}
use Rattle.store_faults.specs.declared.fault.StoreFault.TheVariants as store
use Rattle.result_book.specs.declared.book_fault.BookFault.TheVariants as book
use Rattle.repo_store.specs.StoreBooks.{RefusesAnswers}
use Rattle.hook_run.specs.declared.run_refusal.RunRefusal.{RunRefusal}
use Rattle.hook_run.specs.declared.run_refusal.RunRefusal.TheVariants as run
use Rattle.hook_run.specs.Refusals.{IsOfBook}
use Rattle.commit_flow.specs.declared.host_refusal.HostRefusal.{HostRefusal}
use Rattle.commit_flow.specs.declared.host_refusal.HostRefusal.TheVariants.{OutOfMemory, Store, Collision, Spent}
use Rattle.commit_flow.specs.Refusals.{of_run, of_store}
use Rattle.commit_flow.specs.RunRefusals.{IsOfFixes}

store_spent : (fault : StoreFault) → of_store fault ≡ Spent → ⊥
store_spent store.NotAStore is = cc
store_spent store.Damaged is = cc
store_spent (store.Sql error) is = cc
store_spent store.OutOfMemory is = cc
store_spent store.Collision is = cc
store_spent store.TooLarge is = cc
store_spent store.TooMany is = cc

-- the children are spent where the run says so
pub run_spent : (inner : RunRefusal) → of_run inner ≡ Spent → inner ≡ run.Spent
run_spent run.OutOfMemory is = absurd (cc)
run_spent (run.Book book.OutOfMemory) is = absurd (cc)
run_spent (run.Book (book.Store fault)) is = absurd (store_spent fault is)
run_spent run.NoSuchHook is = absurd (cc)
run_spent run.Spent is = refl

-- what hooks whose names are known may be refused as, one after another
pub by_stop : (IsSo : HostRefusal → Type 0) (inner : RunRefusal) → inner ≢ run.NoSuchHook → IsOfBook RefusesAnswers inner
    → IsSo OutOfMemory → IsSo Collision → ((fault : StoreFault) → IsOfFixes fault → IsSo (Store fault)) → (inner ≡ run.Spent → IsSo Spent) → IsSo (of_run inner)
by_stop IsSo run.OutOfMemory not_named of_book memory collides stored spent = memory
by_stop IsSo (run.Book book.OutOfMemory) not_named of_book memory collides stored spent = let is = of_book.1 in absurd (cc)
by_stop IsSo (run.Book (book.Store store.NotAStore)) not_named of_book memory collides stored spent = absurd of_book.0
by_stop IsSo (run.Book (book.Store store.Damaged)) not_named of_book memory collides stored spent = absurd of_book.0
by_stop IsSo (run.Book (book.Store (store.Sql error))) not_named of_book memory collides stored spent = stored (store.Sql error) tt
by_stop IsSo (run.Book (book.Store store.OutOfMemory)) not_named of_book memory collides stored spent = absurd of_book.0
by_stop IsSo (run.Book (book.Store store.Collision)) not_named of_book memory collides stored spent = collides
by_stop IsSo (run.Book (book.Store store.TooLarge)) not_named of_book memory collides stored spent = stored store.TooLarge tt
by_stop IsSo (run.Book (book.Store store.TooMany)) not_named of_book memory collides stored spent = absurd of_book.0
by_stop IsSo run.NoSuchHook not_named of_book memory collides stored spent = absurd (not_named refl)
by_stop IsSo run.Spent not_named of_book memory collides stored spent = spent refl
