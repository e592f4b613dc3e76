-- How the table of uses keeps the order of the cached answers: a row for each, whose ticks fall
-- (docs/REFERENCE.md, "The store").
use Rattle.std.specs.Prelude.{◌≡◌, ℕ, zero, suc, ◌^◌, ◌<◌, ◌≤◌, pos, false, List, [], ◌∷◌, ◌++◌, length, IsPermutation}
use Rattle.std.specs.List.{AllByRecursion}
use Rattle.sha2.specs.Sha256.{sha256}
use Rattle.store_tables.specs.declared.rows.UseRow.{UseRow}
use Rattle.store_tables.specs.Tables.{Tables, without_answer}
use Rattle.store_tables.specs.Uses.{without_use}
use Rattle.repo_store.specs.Answers.{HaveOwnKeys, KeptAnswer, have_one_key}
use Rattle.repo_store.specs.Index.{Key}
use Rattle.repo_store.specs.Remembered.{TellsKey}
use Rattle.repo_store.specs.WrittenAnswers.{written_seen, written_words}

-- the greatest tick; the least is 1
abbrev pub greatest_tick : ℕ
greatest_tick = 2 ^ 62

abbrev pub use_row : KeptAnswer → ℕ → UseRow
use_row answer tick =
    record { words = sha256 (written_words answer); seen = sha256 (written_seen answer); tick = pos tick }

-- the rows of the answers, each with the tick at its index
abbrev pub use_rows : List KeptAnswer → List ℕ → List UseRow
use_rows [] ticks = []
use_rows (answer ∷ answers) [] = []
use_rows (answer ∷ answers) (tick ∷ ticks) = use_row answer tick ∷ use_rows answers ticks

-- ticks from 1 on: the first is less than this, and each later one less than the one before it
abbrev pub FallBelow : ℕ → List ℕ → Type 0
FallBelow high [] = Unit {0}
FallBelow high (tick ∷ ticks) = (1 ≤ tick) × ((tick < high) × FallBelow tick ticks)

-- The rows, in any order, are the uses of the answers, the most recently used first, with ticks less than the
-- next one.
pub record AreUsesOf (next : ℕ) (rows : List UseRow) (answers : List KeptAnswer) : Type 0 where
  pub ticks : List ℕ
  pub as_many : length ticks ≡ length answers
  pub fall : FallBelow next ticks
  pub rows_are : IsPermutation rows (use_rows answers ticks)

-- the ticks of this many answers once they are renumbered
abbrev pub ticks_from : ℕ → List ℕ
ticks_from zero = []
ticks_from (suc count) = suc count ∷ ticks_from count

-- the uses of these keys, the most recently used first, once they are renumbered
abbrev pub key_rows : List Key → List UseRow
key_rows [] = []
key_rows (key ∷ keys) = record { words = key.0; seen = key.1; tick = pos (length (key ∷ keys)) } ∷ key_rows keys

-- ---- keys of answers

-- the digests of the key of each of these answers identify it among all
abbrev pub TellTheirKeys : List KeptAnswer → List KeptAnswer → Type 0
TellTheirKeys all answers = AllByRecursion (λ (answer : KeptAnswer). AllByRecursion (TellsKey answer) all) answers

-- An answer, whose key no other has, takes the place of the last one.
pub record TakesPlace (answer last : KeptAnswer) (front : List KeptAnswer) : Type 0 where
  pub own : HaveOwnKeys (front ++ last ∷ [])
  pub tells : AllByRecursion (TellsKey answer) (front ++ last ∷ [])
  pub last_tells : AllByRecursion (TellsKey last) (front ++ last ∷ [])
  pub absent : AllByRecursion (λ (other : KeptAnswer). have_one_key other answer ≡ false) (front ++ last ∷ [])

-- ---- the answers of some keys removed, one after another

abbrev pub without_all : List Key → Tables → Tables
without_all [] t = t
without_all (key ∷ keys) t = without_all keys (without_answer key.0 key.1 t)

-- and their uses
abbrev pub without_uses_of : List Key → List UseRow → List UseRow
without_uses_of [] rows = rows
without_uses_of (key ∷ keys) rows = without_uses_of keys (without_use key.0 key.1 rows)
