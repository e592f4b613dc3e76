-- For private functions of the modules `store`, `put`, `opening` and `from_rows`: the invariant of a store,
-- with the tick that its next use gets, and what putting an answer makes of its tables.
use Rattle.std.specs.Prelude.{◌≡◌, ◌+◌, ◌≤◌, ℕ, false, nat_lt, IsTrue, List, length, Option, None, Some, if◌then◌else◌}
use Rattle.std.specs.List.{AllByRecursion}
use Rattle.sqlite_trees.specs.declared.store.Store.{Ghosts}
use Rattle.sqlite.specs.Held.{Held, state}
use Rattle.store_tables.specs.Tables.{Tables, without_answer}
use Rattle.repo_store.specs.Answers.{KeptAnswer}
use Rattle.repo_store.specs.Bounded.{HoldsNext}
use Rattle.repo_store.specs.Complete.{IsComplete}
use Rattle.repo_store.specs.Index.{Key}
use Rattle.repo_store.specs.Kept.{Kept}
use Rattle.repo_store.specs.ListedAnswers.{brought_answers, last_key}
use Rattle.repo_store.specs.Remembered.{TellsKey}
use Rattle.repo_store.specs.Remembering.{with_answer_row}
use Rattle.repo_store.specs.Rows.{answer_row, tables_of, with_blobs}
use Rattle.repo_store.specs.UsedAnswers.{in_front}
use Rattle.repo_store.specs.RowRules.{AreStoreRows}
use Rattle.repo_store.specs.UsesOf.{greatest_tick}

pub record StandsAtTick {S : Type 0} (g : Ghosts S) (conn : Held S) (kept : Kept) (next : ℕ) : Type 0 where
  pub outside : conn.in_transaction ≡ false
  pub complete : IsComplete kept
  pub obeys : AreStoreRows (tables_of kept)
  pub first : 1 ≤ next
  pub last : next ≤ greatest_tick + 1
  pub now : IsTrue (state g conn).is_open → HoldsNext next (state g conn).now kept
  pub committed : IsTrue (state g conn).is_open → HoldsNext next (state g conn).committed kept

-- ---- what a use and an added answer make of it

-- the digests of each answer's key identify the key among these
abbrev pub TellKeys : List KeptAnswer → Type 0
TellKeys answers = AllByRecursion (λ answer. AllByRecursion (TellsKey answer) answers) answers

-- the answer of the key is brought_answers to the front
abbrev pub bringing : Key → Kept → Kept
bringing key kept = record kept { answers = brought_answers key kept.answers }

-- the key of the last answer, if there is one too many
abbrev pub surplus_of : ℕ → List KeptAnswer → Option Key
surplus_of limit answers = if nat_lt limit (length answers) then last_key answers else None

abbrev pub without_key_row : Option Key → Tables → Tables
without_key_row None t = t
without_key_row (Some key) t = without_answer key.0 key.1 t

-- an answer's row is put in place of the one of its key, and the last answer is removed if there is one too
-- many
abbrev pub put_tables : ℕ → List KeptAnswer → KeptAnswer → List (List ℕ) → Tables → Tables
put_tables limit answers answer news t =
    without_key_row (surplus_of limit (in_front answer answers))
    (with_answer_row (answer_row answer) (with_blobs news t))
