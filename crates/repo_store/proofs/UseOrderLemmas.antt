-- The rows of uses tell the answers in one order alone.
use Rattle.std.proofs.Common.{◌≡◌, ℕ, pos, Bool, true, is_lt, List, [], ◌∷◌, map, length, refl, sym, ap, ◌∙◌, arith}
use Rattle.std.specs.List.{AllByRecursion}
use Rattle.std.specs.Ordering.{int_cmp}
use Rattle.std.proofs.lemmas.List.Sorted.{IsPermutation-sym, IsPermutation-trans}
use Rattle.sqlite_trees.specs.Tree.{IsAscending}
use Rattle.store_tables.specs.declared.rows.UseRow.{UseRow}
use Rattle.repo_store.specs.Answers.{KeptAnswer}
use Rattle.repo_store.specs.Index.{Key, key_of}
use Rattle.repo_store.specs.UsesOf.{AreUsesOf, FallBelow, use_rows}
use Rattle.repo_store.proofs.FromRowsLemmas.{pos_less}
use Rattle.repo_store.proofs.OneLemmas.{numbers_apart, one_order}
use Rattle.repo_store.proofs.UseLemmas.{fall_higher}

-- the answer of the first row was used later than that of the second
abbrev is_later : UseRow → UseRow → Bool
is_later row other = is_lt (int_cmp other.tick row.tick)

rows_below : (high : ℕ) (answers : List KeptAnswer) (ticks : List ℕ) → FallBelow high ticks → AllByRecursion (λ (row : UseRow). is_lt (int_cmp row.tick (pos high)) ≡ true) (use_rows answers ticks)
rows_below high [] ticks fall = tt
rows_below high (answer ∷ answers) [] fall = tt
rows_below high (answer ∷ answers) (tick ∷ ticks) fall = let below =
    fall.1.0 in (ap is_lt (pos_less tick high below), rows_below high answers ticks (fall_higher tick high ticks (omega arith) fall.1.1))

rows_fall : (high : ℕ) (answers : List KeptAnswer) (ticks : List ℕ) → FallBelow high ticks → IsAscending (λ row other. is_later row other ≡ true) (use_rows answers ticks)
rows_fall high [] ticks fall = tt
rows_fall high (answer ∷ answers) [] fall = tt
rows_fall high (answer ∷ answers) (tick ∷ ticks) fall = (rows_below tick answers ticks fall.1.1, rows_fall tick answers ticks fall.1.1)

keys_shown : (answers : List KeptAnswer) (ticks : List ℕ) → length ticks ≡ length answers → map (λ (row : UseRow). (row.words, row.seen)) (use_rows answers ticks) ≡ map key_of answers
keys_shown [] ticks same = refl
keys_shown (answer ∷ answers) [] same = absurd (omega arith)
keys_shown (answer ∷ answers) (tick ∷ ticks) same = ap (λ (keys : List Key). key_of answer ∷ keys) (keys_shown answers ticks (omega arith))

-- lists of answers with the same uses have the same keys in the same order
pub one_list : (next other : ℕ) (rows : List UseRow) (xs ys : List KeptAnswer) → AreUsesOf next rows xs → AreUsesOf other rows ys → map key_of xs ≡ map key_of ys
one_list next other rows xs ys one two =
    let same = IsPermutation-trans (use_rows xs one.ticks) rows (use_rows ys two.ticks) (IsPermutation-sym rows (use_rows xs one.ticks) one.rows_are) two.rows_are in
    let order =
    one_order is_later (λ row later. numbers_apart later.tick row.tick) (use_rows xs one.ticks) (use_rows ys two.ticks) (rows_fall next xs one.ticks one.fall)
    (rows_fall other ys two.ticks two.fall) same in
    sym (keys_shown xs one.ticks one.as_many) ∙ ap (map (λ (row : UseRow). (row.words, row.seen))) order ∙ keys_shown ys two.ticks two.as_many
