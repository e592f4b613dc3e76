-- Why a call of a book is refused: the numbers of the reasons, and the reason for each fault of the store.
use Rattle.std.specs.Prelude.{ℕ}
use Rattle.store_faults.specs.declared.fault.StoreFault.{StoreFault}
use Rattle.store_faults.specs.declared.fault.StoreFault.TheVariants as store
use Rattle.result_book.specs.declared.book_fault.BookFault.{BookFault}
use Rattle.result_book.specs.declared.book_fault.BookFault.TheVariants.{OutOfMemory, Store}

abbrev pub book_fault_number : BookFault → ℕ
book_fault_number OutOfMemory = 1
book_fault_number (Store fault) = 2

-- want of memory is distinguished from every other fault of the store
abbrev pub book_fault_of_store : StoreFault → BookFault
book_fault_of_store store.OutOfMemory = OutOfMemory
book_fault_of_store fault = Store fault
