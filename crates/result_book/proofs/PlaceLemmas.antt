-- The place of a key among rows of which the most recently used is the last: how it is found, and what it makes of them to move a
-- row to the end or to put one there.
use Rattle.std.specs.Prelude.{◌≡◌, ◌⊎◌, ◌<◌, ◌≤◌, ℕ, zero, suc, true, false, not, List, [], ◌∷◌, ◌++◌, length, reverse, take, cond, is_some, Option, None, Some, refl}
use Rattle.std.specs.List.{remove}
use Rattle.std.proofs.Common.{ap, sym, ◌∙◌, inl, inr, subst, get_or, arith}
use Rattle.std.proofs.lemmas.Grind.{reverse_onto}
use Rattle.std.proofs.lemmas.List.{length-reverse, reverse-append, reverse-reverse, take_at}
use Rattle.std.proofs.lemmas.List.Elements.{filter-append}
use Rattle.child_port.specs.declared.answer.Answer.{Answer}
use Rattle.hook_base.specs.declared.file.File.{File}
use Rattle.result_book.specs.declared.book_row.BookRow.{BookRow}
use Rattle.result_book.specs.Calls.{AfterPut, brought, new_row, with_row}
use Rattle.result_book.specs.Contents.{HasKey, HaveRow, LackRow, HaveDistinctKeys, IsBook, IsHeld, is_row_for, other_rows, with_rows}
use Rattle.result_book.specs.KeyLemmas.{other_row, row_decides, same_lack}
use Rattle.result_book.specs.OrderLemmas.{after_putting, all_first, all_others, book_put, brings, brings_none, first_apart, one_fewer, row_is}
use Rattle.result_book.specs.Places.{IsBookPlace, IsBookRowAt, shown_rows}

pub at_within : (words : List (List ℕ)) (seen : List File) (rows : List BookRow) (index : ℕ) → IsBookRowAt words seen rows index → index < length rows
at_within words seen [] index at = absurd at
at_within words seen (row ∷ rows) zero at = omega arith
at_within words seen (row ∷ rows) (suc index) at = let within = at_within words seen rows index at in omega arith

pub at_key : (words : List (List ℕ)) (seen : List File) (rows : List BookRow) (index : ℕ) (d : BookRow) → IsBookRowAt words seen rows index → HasKey words seen (get_or rows index d)
at_key words seen [] index d at = absurd at
at_key words seen (row ∷ rows) zero d at = at
at_key words seen (row ∷ rows) (suc index) d at = at_key words seen rows index d at

pub key_at : (words : List (List ℕ)) (seen : List File) (rows : List BookRow) (index : ℕ) (d : BookRow) → index < length rows → HasKey words seen (get_or rows index d)
    → IsBookRowAt words seen rows index
key_at words seen [] index d within key = absurd (omega arith)
key_at words seen (row ∷ rows) zero d within key = key
key_at words seen (row ∷ rows) (suc index) d within key = key_at words seen rows index d (omega arith) key

pub at_have : (words : List (List ℕ)) (seen : List File) (rows : List BookRow) (index : ℕ) (d : BookRow) → IsBookRowAt words seen rows index → HaveRow words seen (get_or rows index d).answer rows
at_have words seen [] index d at = absurd at
at_have words seen (row ∷ rows) zero d at = inl (at, refl)
at_have words seen (row ∷ rows) (suc index) d at = inr (at_have words seen rows index d at)

-- one row more that is not for the key
pub lack_more : (words : List (List ℕ)) (seen : List File) (rows : List BookRow) (index : ℕ) (d : BookRow) → index < length rows → LackRow words seen (take index rows)
    → ¬ HasKey words seen (get_or rows index d) → (answer : Answer) → ¬ HaveRow words seen answer (take (suc index) rows)
lack_more words seen [] index d within lack other answer have = absurd (omega arith)
lack_more words seen (row ∷ rows) zero d within lack other answer (inl have) = other have.0
lack_more words seen (row ∷ rows) zero d within lack other answer (inr have) = have
lack_more words seen (row ∷ rows) (suc index) d within lack other answer (inl have) = lack answer (inl have)
lack_more words seen (row ∷ rows) (suc index) d within lack other answer (inr have) = lack_more words seen rows index d (omega arith) (λ a h. lack a (inr h)) other answer have

-- ---- read from the other end

pub reversed : (row : BookRow) (rows : List BookRow) → reverse (row ∷ rows) ≡ reverse rows ++ row ∷ []
reversed row rows = reverse_onto rows row []

-- the last row is the first
pub last_first : (rows : List BookRow) (row : BookRow) → reverse (rows ++ row ∷ []) ≡ row ∷ reverse rows
last_first rows row = reverse-append rows (row ∷ [])

have_end : (words : List (List ℕ)) (seen : List File) (answer : Answer) (rows : List BookRow) (row : BookRow) → HaveRow words seen answer (rows ++ row ∷ [])
    → (HasKey words seen row × (row.answer ≡ answer)) ⊎ HaveRow words seen answer rows
have_end words seen answer [] row (inl here) = inl here
have_end words seen answer [] row (inr none) = absurd none
have_end words seen answer (first ∷ rows) row (inl here) = inr (inl here)
have_end words seen answer (first ∷ rows) row (inr later) = elim (have_end words seen answer rows row later) [ inl here ↦ inl here | inr held ↦ inr (inr held) ]

pub have_reversed : (words : List (List ℕ)) (seen : List File) (answer : Answer) (rows : List BookRow) → HaveRow words seen answer (reverse rows) → HaveRow words seen answer rows
have_reversed words seen answer [] have = have
have_reversed words seen answer (row ∷ rows) have =
    elim (have_end words seen answer (reverse rows) row (subst (HaveRow words seen answer) (reversed row rows) have)) [
      | inl here ↦ inl here
      | inr later ↦ inr (have_reversed words seen answer rows later)
    ]

pub have_back : (words : List (List ℕ)) (seen : List File) (answer : Answer) (rows : List BookRow) → HaveRow words seen answer rows → HaveRow words seen answer (reverse rows)
have_back words seen answer rows have = have_reversed words seen answer (reverse rows) (subst (HaveRow words seen answer) (sym (reverse-reverse rows)) have)

pub lack_reversed : (words : List (List ℕ)) (seen : List File) (rows : List BookRow) → LackRow words seen rows → LackRow words seen (reverse rows)
lack_reversed words seen rows lack answer have = lack answer (have_reversed words seen answer rows have)

-- the place of a key shows whether an answer is held
pub held_at : (words : List (List ℕ)) (seen : List File) (limit : ℕ) (rows : List BookRow) (place : Option ℕ) → IsBookPlace words seen rows place
    → IsHeld words seen (shown_rows limit rows) (is_some place)
held_at words seen limit rows None lack = lack_reversed words seen rows lack
held_at words seen limit [] (Some index) at = absurd at
held_at words seen limit (row ∷ rows) (Some index) at =
    ((get_or (row ∷ rows) index row).answer, have_back words seen (get_or (row ∷ rows) index row).answer (row ∷ rows) (at_have words seen (row ∷ rows) index row at))

distinct_end : (rows : List BookRow) (row : BookRow) → HaveDistinctKeys rows → LackRow row.words row.seen rows → HaveDistinctKeys (rows ++ row ∷ [])
distinct_end [] row distinct lack = (λ answer have. have, tt)
distinct_end (first ∷ rows) row distinct lack = (
  λ answer have. elim (have_end first.words first.seen answer rows row have) [
    | inl here ↦ lack first.answer (inl ((sym here.0.0, sym here.0.1), refl))
    | inr later ↦ distinct.0 answer later
  ],
  distinct_end rows row distinct.1 (λ answer have. lack answer (inr have)),
)

distinct_reversed : (rows : List BookRow) → HaveDistinctKeys rows → HaveDistinctKeys (reverse rows)
distinct_reversed [] distinct = tt
distinct_reversed (row ∷ rows) distinct =
    subst HaveDistinctKeys (sym (reversed row rows)) (distinct_end (reverse rows) row (distinct_reversed rows distinct.1) (lack_reversed row.words row.seen rows distinct.0))

pub distinct_back : (rows : List BookRow) → HaveDistinctKeys (reverse rows) → HaveDistinctKeys rows
distinct_back rows distinct = subst HaveDistinctKeys (reverse-reverse rows) (distinct_reversed (reverse rows) distinct)

module _ (words : List (List ℕ)) (seen : List File) where
  no_more : (rows : List BookRow) → rows ++ [] ≡ rows
  no_more [] = refl
  no_more (row ∷ rows) = ap (λ (rest : List BookRow). row ∷ rest) (no_more rows)

  pub others_reversed : (rows : List BookRow) → other_rows words seen (reverse rows) ≡ reverse (other_rows words seen rows)
  others_reversed [] = refl
  others_reversed (row ∷ rows) =
      ap (other_rows words seen) (reversed row rows) ∙ filter-append (λ (one : BookRow). not (is_row_for words seen one)) (reverse rows) (row ∷ [])
      ∙ ap (λ (front : List BookRow). front ++ other_rows words seen (row ∷ [])) (others_reversed rows)
      ∙ elim (is_row_for words seen row) as (λ b. reverse (other_rows words seen rows) ++ cond (not b) (row ∷ []) []
      ≡ reverse (cond (not b) (row ∷ other_rows words seen rows) (other_rows words seen rows))) [
        | true ↦ no_more (reverse (other_rows words seen rows))
        | false ↦ sym (reversed row (other_rows words seen rows))
      ]

  -- without the row of the key, the others are there
  pub removed : (rows : List BookRow) (index : ℕ) → HaveDistinctKeys rows → IsBookRowAt words seen rows index → remove rows index ≡ other_rows words seen rows
  removed [] index distinct at = absurd at
  removed (row ∷ rows) zero distinct at =
      let is = (row_decides words seen row).1 at in
      sym (ap (λ b. cond (not b) (row ∷ other_rows words seen rows) (other_rows words seen rows)) is ∙ all_others words seen rows (same_lack row.words words row.seen seen rows at.0 at.1 distinct.0))
  removed (row ∷ rows) (suc index) distinct at =
      let isnt = other_row words seen row (first_apart words seen (get_or rows index row).answer row rows distinct.0 (at_have words seen rows index row at)) in
      ap (λ (rest : List BookRow). row ∷ rest) (removed rows index distinct.1 at) ∙ sym (ap (λ b. cond (not b) (row ∷ other_rows words seen rows) (other_rows words seen rows)) isnt)

  -- a row at the end in place of the row of the key is in front of the others
  front_of_others : (rows : List BookRow) (index : ℕ) (row : BookRow) → HaveDistinctKeys (reverse rows) → IsBookRowAt words seen rows index
      → reverse (remove rows index ++ row ∷ []) ≡ row ∷ other_rows words seen (reverse rows)
  front_of_others rows index row distinct at =
      last_first (remove rows index) row
      ∙ ap (λ (rest : List BookRow). row ∷ rest) (ap reverse (removed rows index (distinct_back rows distinct) at) ∙ sym (others_reversed rows))

  -- ---- a row that is found moves to the end

  pub moved : (limit : ℕ) (rows : List BookRow) (index : ℕ) (row : BookRow) → HaveDistinctKeys (reverse rows) → IsBookRowAt words seen rows index → row ≡ get_or rows index row
      → shown_rows limit (remove rows index ++ row ∷ []) ≡ brought words seen (shown_rows limit rows)
  moved limit rows index row distinct at is =
      let key = subst (HasKey words seen) (sym is) (at_key words seen rows index row at) in
      let have = have_back words seen row.answer rows (subst (λ (one : BookRow). HaveRow words seen one.answer rows) (sym is) (at_have words seen rows index row at)) in
      ap (with_rows limit) (front_of_others rows index row distinct at ∙ ap (λ (one : BookRow). one ∷ other_rows words seen (reverse rows)) (row_is words seen row.answer row key refl)
      ∙ sym (brings words seen row.answer (reverse rows) distinct have))

  pub unmoved : (limit : ℕ) (rows : List BookRow) → LackRow words seen rows → shown_rows limit rows ≡ brought words seen (shown_rows limit rows)
  unmoved limit rows lack = ap (with_rows limit) (sym (brings_none words seen (reverse rows) (lack_reversed words seen rows lack)))

  -- ---- a row that is put

  module _ (answer : Answer) (limit : ℕ) (rows : List BookRow) (book : IsBook (shown_rows limit rows)) where
    -- in place of its own
    pub put_in_place : (index : ℕ) → IsBookRowAt words seen rows index → shown_rows limit (remove rows index ++ new_row words seen answer ∷ []) ≡ with_row words seen answer (shown_rows limit rows)
    put_in_place index at =
        let have = have_back words seen (get_or rows index (new_row words seen answer)).answer rows (at_have words seen rows index (new_row words seen answer) at) in
        let as_many = one_fewer words seen (get_or rows index (new_row words seen answer)).answer (reverse rows) book.distinct have in
        let within = book.within in
        ap (with_rows limit) (front_of_others rows index (new_row words seen answer) book.distinct at
        ∙ sym (all_first limit (new_row words seen answer ∷ other_rows words seen (reverse rows)) (omega arith)))

    -- where a row more has room
    pub put_in_room : LackRow words seen rows → length rows < limit → shown_rows limit (rows ++ new_row words seen answer ∷ []) ≡ with_row words seen answer (shown_rows limit rows)
    put_in_room lack room =
        let others = all_others words seen (reverse rows) (lack_reversed words seen rows lack) in
        let as_many = length-reverse rows in
        ap (with_rows limit) (last_first rows (new_row words seen answer)
        ∙ sym (ap (λ (rest : List BookRow). take limit (new_row words seen answer ∷ rest)) others ∙ all_first limit (new_row words seen answer ∷ reverse rows) (omega arith)))

  -- in place of the first row, where the list is full
  first_gone : (new first : BookRow) (rest : List BookRow) (limit : ℕ) → limit ≡ suc (length rest) → new ∷ reverse rest ≡ take limit (new ∷ reverse (first ∷ rest))
  first_gone new first rest limit full =
      subst (λ (n : ℕ). new ∷ reverse rest ≡ take n (new ∷ reverse (first ∷ rest))) (sym full)
      (ap (λ (rows : List BookRow). new ∷ rows) (sym (ap (take (length rest)) (reversed first rest) ∙ take_at (reverse rest) (first ∷ []) (length rest) (length-reverse rest))))

  pub put_in_first : (answer : Answer) (limit : ℕ) (rows : List BookRow) → IsBook (shown_rows limit rows) → LackRow words seen rows → limit ≤ length rows
      → shown_rows limit (remove rows 0 ++ new_row words seen answer ∷ []) ≡ with_row words seen answer (shown_rows limit rows)
  put_in_first answer limit [] book lack full = absurd (let some = book.limited.at_least in omega arith)
  put_in_first answer limit (first ∷ rest) book lack full =
      let others = all_others words seen (reverse (first ∷ rest)) (lack_reversed words seen (first ∷ rest) lack) in
      let as_many = length-reverse (first ∷ rest) in
      let within = book.within in
      ap (with_rows limit) (last_first rest (new_row words seen answer) ∙ first_gone (new_row words seen answer) first rest limit (omega arith)
      ∙ sym (ap (λ (more : List BookRow). take limit (new_row words seen answer ∷ more)) others))

  -- ---- the row that goes

  pub going_within : (limit : ℕ) (rows : List BookRow) (index : ℕ) → IsBook (shown_rows limit rows)
      → IsBookRowAt words seen rows index ⊎ (LackRow words seen rows × ((index ≡ 0) × (limit ≤ length rows))) → index < length rows
  going_within limit rows index book (inl at) = at_within words seen rows index at
  going_within limit rows index book (inr full) = let first = full.1.0 in let many = full.1.1 in let some = book.limited.at_least in omega arith

  pub going_put : (answer : Answer) (limit : ℕ) (rows : List BookRow) (index : ℕ) → IsBook (shown_rows limit rows)
      → IsBookRowAt words seen rows index ⊎ (LackRow words seen rows × ((index ≡ 0) × (limit ≤ length rows)))
      → shown_rows limit (remove rows index ++ new_row words seen answer ∷ []) ≡ with_row words seen answer (shown_rows limit rows)
  going_put answer limit rows index book (inl at) = put_in_place answer limit rows book index at
  going_put answer limit rows index book (inr full) =
      subst (λ (n : ℕ). shown_rows limit (remove rows n ++ new_row words seen answer ∷ []) ≡ with_row words seen answer (shown_rows limit rows)) (sym full.1.0)
      (put_in_first answer limit rows book full.0 full.1.1)

-- what is put so leaves a book
pub left_by_put : (words : List (List ℕ)) (seen : List File) (answer : Answer) (limit : ℕ) (rows after : List BookRow) → IsBook (shown_rows limit rows)
    → shown_rows limit after ≡ with_row words seen answer (shown_rows limit rows) → AfterPut words seen answer (shown_rows limit rows) (shown_rows limit after) × IsBook (shown_rows limit after)
left_by_put words seen answer limit rows after book is =
    let stays = subst IsBook (sym is) (book_put words seen answer (shown_rows limit rows) book) in
    (after_putting words seen answer (shown_rows limit rows) (shown_rows limit after) stays.distinct stays.limited.at_least is, stays)
