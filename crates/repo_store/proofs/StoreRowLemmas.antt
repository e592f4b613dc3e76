-- The remembered answers of a store as the rows of a book: which is found, and what a use and a new answer make of them.
use Rattle.std.specs.Prelude.{◌≡◌, ℕ, true, false, not, List, [], ◌∷◌, map, take, cond, Option, None, Some, if◌then◌else◌, option_map, refl}
use Rattle.std.proofs.Common.{ap, sym, ◌∙◌, inl, inr}
use Rattle.std.specs.List.{AllByRecursion, cons_option, take-map}
use Rattle.hook_base.specs.declared.file.File.{File}
use Rattle.repo_store.specs.AnswerLemmas.{found_among, is_for_decides}
use Rattle.repo_store.specs.Answers.{HaveOwnKeys, KeptAnswer, answer_for, have_one_key, is_for}
use Rattle.repo_store.specs.UsedAnswers.{in_front_if_any, used, with_answer_within, without_key}
use Rattle.result_book.specs.declared.book_row.BookRow.{BookRow}
use Rattle.result_book.specs.Calls.{brought_rows, new_row}
use Rattle.result_book.specs.Contents.{HaveDistinctKeys, HaveRow, LackRow, other_rows, row_for}
use Rattle.result_book.specs.OrderLemmas.{all_others}
use Rattle.repo_store.specs.StoreBooks.{given_answer, row_of}

key_of : (words : List (List ℕ)) (seen : List File) (kept : KeptAnswer) → is_for words seen kept ≡ true → (kept.words ≡ words) × (kept.seen ≡ seen)
key_of words seen kept is = (is_for_decides words seen kept).0 is

no_key : (words : List (List ℕ)) (seen : List File) (kept : KeptAnswer) → is_for words seen kept ≡ false → (kept.words ≡ words) × (kept.seen ≡ seen) → ⊥
no_key words seen kept isnt same = let is = (is_for_decides words seen kept).1 same in let never : true ≡ false = sym is ∙ isnt in absurd (cc)

-- ---- what is found

module _ (words : List (List ℕ)) (seen : List File) where
  pub lacks_from : (answers : List KeptAnswer) → answer_for words seen answers ≡ None → LackRow words seen (map row_of answers)
  lacks_from [] none = λ answer have. have
  lacks_from (kept ∷ answers) none =
      elim (is_for words seen kept) as (λ b. is_for words seen kept ≡ b → (if b then Some kept else answer_for words seen answers) ≡ None → LackRow words seen (row_of kept ∷ map row_of answers)) [
        | true ↦ λ is never. absurd (cc)
        | false ↦ λ isnt later. λ answer have. elim have [ inl here ↦ no_key words seen kept isnt here.0 | inr there ↦ lacks_from answers later answer there ]
      ] refl none

  pub has_from : (answers : List KeptAnswer) (found : KeptAnswer) → answer_for words seen answers ≡ Some found → HaveRow words seen (given_answer found) (map row_of answers)
  has_from [] found some = absurd (cc)
  has_from (kept ∷ answers) found some =
      elim (is_for words seen kept) as (λ b. is_for words seen kept ≡ b → (if b then Some kept else answer_for words seen answers) ≡ Some found
      → HaveRow words seen (given_answer found) (row_of kept ∷ map row_of answers)) [
        | true ↦ λ is here. let same : kept ≡ found = cc in inl (key_of words seen kept is, ap given_answer same)
        | false ↦ λ isnt later. inr (has_from answers found later)
      ] refl some

-- ---- distinct keys

lacks_apart : (kept : KeptAnswer) (answers : List KeptAnswer) → AllByRecursion (λ other. have_one_key kept other ≡ false) answers → LackRow kept.words kept.seen (map row_of answers)
lacks_apart kept [] apart = λ answer have. have
lacks_apart kept (other ∷ answers) apart = λ answer have.
    elim have [ inl here ↦ no_key other.words other.seen kept apart.0 (sym here.0.0, sym here.0.1) | inr there ↦ lacks_apart kept answers apart.1 answer there ]

pub distinct_rows : (answers : List KeptAnswer) → HaveOwnKeys answers → HaveDistinctKeys (map row_of answers)
distinct_rows [] own = tt
distinct_rows (kept ∷ answers) own = (lacks_apart kept answers own.0, distinct_rows answers own.1)

-- ---- the order

module _ (words : List (List ℕ)) (seen : List File) where
  pub rows_without : (answers : List KeptAnswer) → map row_of (without_key words seen answers) ≡ other_rows words seen (map row_of answers)
  rows_without [] = refl
  rows_without (kept ∷ answers) =
      elim (is_for words seen kept) as (λ b. map row_of (cond (not b) (kept ∷ without_key words seen answers) (without_key words seen answers))
      ≡ cond (not b) (row_of kept ∷ other_rows words seen (map row_of answers)) (other_rows words seen (map row_of answers))) [
        | true ↦ rows_without answers
        | false ↦ ap (λ (rows : List BookRow). row_of kept ∷ rows) (rows_without answers)
      ]

  row_found : (answers : List KeptAnswer) → option_map row_of (answer_for words seen answers) ≡ row_for words seen (map row_of answers)
  row_found [] = refl
  row_found (kept ∷ answers) =
      elim (is_for words seen kept) as (λ b. option_map row_of (if b then Some kept else answer_for words seen answers) ≡ cond b (Some (row_of kept)) (row_for words seen (map row_of answers))) [
        | true ↦ refl
        | false ↦ row_found answers
      ]

  brought_found : (answers : List KeptAnswer) (found : Option KeptAnswer) → answer_for words seen answers ≡ found
      → map row_of (in_front_if_any found answers) ≡ cons_option (option_map row_of found) (other_rows words seen (map row_of answers))
  brought_found answers None is = sym (all_others words seen (map row_of answers) (lacks_from words seen answers is))
  brought_found answers (Some kept) is =
      let key = key_of words seen kept (found_among words seen kept answers is).1 in
      ap (λ (rows : List BookRow). row_of kept ∷ rows) (ap (map row_of) (same_without kept.words kept.seen answers key.0 key.1) ∙ rows_without answers)
    where
      same_without : (others : List (List ℕ)) (theirs : List File) (all : List KeptAnswer) → others ≡ words → theirs ≡ seen → without_key others theirs all ≡ without_key words seen all
      same_without others theirs all p q = ap (λ (w : List (List ℕ)). without_key w theirs all) p ∙ ap (λ (s : List File). without_key words s all) q

  -- a use brings its row to the front
  pub rows_used : (answers : List KeptAnswer) → map row_of (used words seen answers) ≡ brought_rows words seen (map row_of answers)
  rows_used answers = brought_found answers (answer_for words seen answers) refl ∙ ap (λ (row : Option BookRow). cons_option row (other_rows words seen (map row_of answers))) (row_found answers)

-- a new answer comes to the front, and the last one goes where the limit is passed
pub rows_put : (limit : ℕ) (new : KeptAnswer) (answers : List KeptAnswer)
    → map row_of (with_answer_within limit new answers) ≡ take limit (new_row new.words new.seen (given_answer new) ∷ other_rows new.words new.seen (map row_of answers))
rows_put limit new answers =
    sym (take-map row_of limit (new ∷ without_key new.words new.seen answers)) ∙ ap (λ (rows : List BookRow). take limit (row_of new ∷ rows)) (rows_without new.words new.seen answers)
