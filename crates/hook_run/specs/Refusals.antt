-- The refusals of a run, with their numbers and names (docs/REFERENCE.md, "A run that is asked for"), and the
-- refusal for each fault of the book.
use Rattle.std.specs.Prelude.{◌≡◌, ℕ, Bool, true, false, List, codes}
use Rattle.result_book.specs.declared.book_fault.BookFault.{BookFault}
use Rattle.result_book.specs.declared.book_fault.BookFault.TheVariants as book
use Rattle.hook_run.specs.declared.run_refusal.RunRefusal.{RunRefusal}
use Rattle.hook_run.specs.declared.run_refusal.RunRefusal.TheVariants.{OutOfMemory, Book, NoSuchHook, Spent}

abbrev pub run_refusal_number : RunRefusal → ℕ
run_refusal_number OutOfMemory = 1
run_refusal_number (Book fault) = 2
run_refusal_number NoSuchHook = 3
run_refusal_number Spent = 4

abbrev pub run_refusal_name : RunRefusal → List ℕ
run_refusal_name OutOfMemory = codes "OutOfMemory"
run_refusal_name (Book fault) = codes "Book"
run_refusal_name NoSuchHook = codes "NoSuchHook"
run_refusal_name Spent = codes "Spent"

-- lack of memory is a refusal of its own, and every other fault of the book is `Book`
abbrev pub run_refusal_of_book : BookFault → RunRefusal
run_refusal_of_book book.OutOfMemory = OutOfMemory
run_refusal_of_book fault = Book fault

-- if the book refuses a run, it is by one of these faults; lack of memory isn't one of them
abbrev pub IsOfBook : (BookFault → Type 0) → RunRefusal → Type 0
IsOfBook refuses (Book fault) = refuses fault × (run_refusal_of_book fault ≡ Book fault)
IsOfBook refuses refusal = Unit {0}

-- the book refuses, for another reason than lack of memory
abbrev pub is_of_book : RunRefusal → Bool
is_of_book (Book fault) = true
is_of_book refusal = false
