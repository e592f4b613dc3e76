-- Lemmas on the order of rows: the row of a key, the others, and the effect of a look-up and a put on them.
use Rattle.std.specs.Prelude.{◌≡◌, ◌⊎◌, ◌≤◌, ℕ, zero, suc, true, false, not, List, [], ◌∷◌, ◌++◌, length, take, cond, Option, None, Some, refl}
use Rattle.std.specs.List.{cons_option}
use Rattle.std.proofs.Common.{ap, sym, ◌∙◌, inl, inr, subst, arith}
use Rattle.child_port.specs.declared.answer.Answer.{Answer}
use Rattle.hook_base.specs.declared.file.File.{File}
use Rattle.result_book.specs.declared.book_row.BookRow.{BookRow}
use Rattle.result_book.specs.Calls.{AfterFind, AfterPut, IsSameKey, brought, brought_rows, new_row, with_row}
use Rattle.result_book.specs.Contents.{Contents, HasKey, HaveRow, LackRow, HaveDistinctKeys, Holds, IsBook, is_row_for, other_rows, row_for}
use Rattle.result_book.specs.KeyLemmas.{HaveRow-one, no_row_key, other_row, row_decides, same_have, same_lack}

-- no later row has the key of the first one
pub first_apart : (words : List (List ℕ)) (seen : List File) (answer : Answer) (row : BookRow) (rows : List BookRow)
    → LackRow row.words row.seen rows → HaveRow words seen answer rows → ¬ HasKey words seen row
first_apart words seen answer row rows lack have key =
    same_lack row.words words row.seen seen rows key.0 key.1 lack answer have

module _ (words : List (List ℕ)) (seen : List File) where
  -- ---- the rows of other keys

  -- an answer of the other rows is one of all rows, for another key
  pub others_have : (others : List (List ℕ)) (theirs : List File) (answer : Answer) (rows : List BookRow)
      → HaveRow others theirs answer (other_rows words seen rows) → HaveRow others theirs answer rows
  others_have others theirs answer [] have = have
  others_have others theirs answer (row ∷ rows) have =
      elim (is_row_for words seen row) as (λ b. HaveRow others theirs answer
      (cond (not b) (row ∷ other_rows words seen rows) (other_rows words seen rows))
      → HaveRow others theirs answer (row ∷ rows)) [
        | true ↦ λ held. inr (others_have others theirs answer rows held)
        | false ↦ λ held. elim held [
          | inl here ↦ inl here
          | inr later ↦ inr
              (others_have others theirs answer rows later)
        ]
      ] have

  pub others_differ : (others : List (List ℕ)) (theirs : List File) (answer : Answer) (rows : List BookRow)
      → HaveRow others theirs answer (other_rows words seen rows) → ¬ IsSameKey others theirs words seen
  others_differ others theirs answer [] have same = have
  others_differ others theirs answer (row ∷ rows) have same =
      (elim (is_row_for words seen row) as (λ b. is_row_for words seen row ≡ b
      → HaveRow others theirs answer (cond (not b) (row ∷ other_rows words seen rows) (other_rows words seen rows))
      → ⊥) [
        | true ↦ λ _ held. others_differ others theirs answer rows held same
        | false ↦ λ isnt held. elim held [
          | inl here ↦ no_row_key words seen row isnt
              (here.0.0 ∙ same.0, here.0.1 ∙ same.1)
          | inr later ↦ others_differ others theirs answer rows later same
        ]
      ]) refl have

  -- an answer of all rows for another key is one of the other rows
  pub have_others : (others : List (List ℕ)) (theirs : List File) (answer : Answer) (rows : List BookRow)
      → HaveRow others theirs answer rows → IsSameKey others theirs words seen
      ⊎ HaveRow others theirs answer (other_rows words seen rows)
  have_others others theirs answer [] have = absurd have
  have_others others theirs answer (row ∷ rows) have =
      (elim (is_row_for words seen row) as (λ b. is_row_for words seen row ≡ b
      → IsSameKey others theirs words seen
      ⊎ HaveRow others theirs answer (cond (not b) (row ∷ other_rows words seen rows) (other_rows words seen rows))) [
        | true ↦ λ is. elim have [
          | inl here ↦ let key = (row_decides words seen row).0 is in inl (sym here.0.0 ∙ key.0, sym here.0.1 ∙ key.1)
          | inr later ↦ have_others others theirs answer rows later
        ]
        | false ↦ λ _. elim have [
          | inl here ↦ inr (inl here)
          | inr later ↦ elim (have_others others theirs answer rows later)
              [ inl same ↦ inl same | inr held ↦ inr (inr held) ]
        ]
      ]) refl

  pub others_distinct : (rows : List BookRow) → HaveDistinctKeys rows → HaveDistinctKeys (other_rows words seen rows)
  others_distinct [] distinct = tt
  others_distinct (row ∷ rows) distinct =
      elim (is_row_for words seen row) as (λ b. HaveDistinctKeys
      (cond (not b) (row ∷ other_rows words seen rows) (other_rows words seen rows))) [
        | true ↦ others_distinct rows distinct.1
        | false ↦ (
          λ answer have. distinct.0 answer (others_have row.words row.seen answer rows have),
          others_distinct
              rows distinct.1,
        )
      ]

  -- none of the other rows has the key
  pub others_lack : (rows : List BookRow) → LackRow words seen (other_rows words seen rows)
  others_lack rows answer have = others_differ words seen answer rows have (refl, refl)

  -- if no row has the key, all rows are others
  pub all_others : (rows : List BookRow) → LackRow words seen rows → other_rows words seen rows ≡ rows
  all_others [] lack = refl
  all_others (row ∷ rows) lack =
      ap (λ b. cond (not b) (row ∷ other_rows words seen rows) (other_rows words seen rows))
      (other_row words seen row (λ key. lack row.answer (inl (key, refl))))
      ∙ ap (λ (rest : List BookRow). row ∷ rest) (all_others rows (λ answer have. lack answer (inr have)))

  pub fewer_others : (rows : List BookRow) → length (other_rows words seen rows) ≤ length rows
  fewer_others [] = omega arith
  fewer_others (row ∷ rows) =
      let fewer = fewer_others rows in
      elim (is_row_for words seen row) as (λ b. length
      (cond (not b) (row ∷ other_rows words seen rows) (other_rows words seen rows)) ≤ suc (length rows))
      [ true ↦ omega arith | false ↦ omega arith ]

  -- if keys are distinct, one row has a key that is held
  pub one_fewer : (answer : Answer) (rows : List BookRow) → HaveDistinctKeys rows → HaveRow words seen answer rows
      → suc (length (other_rows words seen rows)) ≡ length rows
  one_fewer answer [] distinct have = absurd have
  one_fewer answer (row ∷ rows) distinct (inl here) =
      let is = (row_decides words seen row).1 here.0 in
      let rest = all_others rows (same_lack row.words words row.seen seen rows here.0.0 here.0.1 distinct.0) in
      ap (λ b. suc (length (cond (not b) (row ∷ other_rows words seen rows) (other_rows words seen rows)))) is
      ∙ ap (λ (more : List BookRow). suc (length more)) rest
  one_fewer answer (row ∷ rows) distinct (inr later) =
      let isnt = other_row words seen row (first_apart words seen answer row rows distinct.0 later) in
      ap (λ b. suc (length (cond (not b) (row ∷ other_rows words seen rows) (other_rows words seen rows)))) isnt
      ∙ ap suc (one_fewer answer rows distinct.1 later)

  -- ---- the row of the key

  pub lacks_row : (rows : List BookRow) → LackRow words seen rows → row_for words seen rows ≡ None
  lacks_row [] lack = refl
  lacks_row (row ∷ rows) lack =
      ap (λ b. cond b (Some row) (row_for words seen rows))
      (other_row words seen row (λ key. lack row.answer (inl (key, refl))))
      ∙ lacks_row rows (λ answer have. lack answer (inr have))

  pub row_is : (answer : Answer) (row : BookRow) → HasKey words seen row → row.answer ≡ answer
      → row ≡ new_row words seen answer
  row_is answer row key same = same_parts row.words words row.seen seen row.answer answer key.0 key.1 same
    where
      same_parts : (w v : List (List ℕ)) (s t : List File) (a b : Answer) → w ≡ v → s ≡ t → a ≡ b
          → new_row w s a ≡ new_row v t b
      same_parts w v s t a b p q r = cc

  pub holds_row : (answer : Answer) (rows : List BookRow) → HaveDistinctKeys rows → HaveRow words seen answer rows
      → row_for words seen rows ≡ Some (new_row words seen answer)
  holds_row answer [] distinct have = absurd have
  holds_row answer (row ∷ rows) distinct (inl here) =
      ap (λ b. cond b (Some row) (row_for words seen rows)) ((row_decides words seen row).1 here.0)
      ∙ ap Some (row_is answer row here.0 here.1)
  holds_row answer (row ∷ rows) distinct (inr later) =
      ap (λ b. cond b (Some row) (row_for words seen rows))
      (other_row words seen row (first_apart words seen answer row rows distinct.0 later))
      ∙ holds_row answer rows distinct.1 later

  -- whether a row has the key
  pub held_or_lacked : (rows : List BookRow)
      → ((answer : Answer) × HaveRow words seen answer rows) ⊎ LackRow words seen rows
  held_or_lacked [] = inr (λ answer have. have)
  held_or_lacked (row ∷ rows) =
      (elim (is_row_for words seen row) as (λ b. is_row_for words seen row ≡ b
      → ((answer : Answer) × HaveRow words seen answer (row ∷ rows)) ⊎ LackRow words seen (row ∷ rows)) [
        | true ↦ λ is. inl (row.answer, inl ((row_decides words seen row).0 is, refl))
        | false ↦ λ isnt. elim (held_or_lacked rows) [
          | inl held ↦ inl (held.0, inr held.1)
          | inr lack ↦ inr (λ answer have. elim have
              [ inl here ↦ no_row_key words seen row isnt here.0 | inr later ↦ lack answer later ])
        ]
      ]) refl

  -- ---- a look-up

  -- the row of a key that is held comes to the front
  pub brings : (answer : Answer) (rows : List BookRow) → HaveDistinctKeys rows → HaveRow words seen answer rows
      → brought_rows words seen rows ≡ new_row words seen answer ∷ other_rows words seen rows
  brings answer rows distinct have =
      ap (λ (row : Option BookRow). cons_option row (other_rows words seen rows)) (holds_row answer rows distinct have)

  -- for a key that is lacked, nothing changes
  pub brings_none : (rows : List BookRow) → LackRow words seen rows → brought_rows words seen rows ≡ rows
  brings_none rows lack =
      ap (λ (row : Option BookRow). cons_option row (other_rows words seen rows)) (lacks_row rows lack)
      ∙ all_others rows lack

  in_front_kept : (answer : Answer) (rows : List BookRow) → HaveDistinctKeys rows → HaveRow words seen answer rows
      → (others : List (List ℕ)) (theirs : List File) (other : Answer)
      → HaveRow others theirs other rows → HaveRow others theirs other
      (new_row words seen answer ∷ other_rows words seen rows)
  in_front_kept answer rows distinct have others theirs other held =
      elim (have_others others theirs other rows held) [
        | inl same ↦ inl (
          (sym same.0, sym same.1),
          HaveRow-one words seen answer other rows distinct have
              (same_have others words theirs seen other rows same.0 same.1 held),
        )
        | inr later ↦ inr later
      ]

  in_front_only : (answer : Answer) (rows : List BookRow) → HaveRow words seen answer rows
      → (others : List (List ℕ)) (theirs : List File) (other : Answer)
      → HaveRow others theirs other (new_row words seen answer ∷ other_rows words seen rows)
      → HaveRow others theirs other rows
  in_front_only answer rows have others theirs other held =
      elim held [
        | inl here ↦ subst (λ (it : Answer). HaveRow others theirs it rows) here.1
            (same_have words others seen theirs answer rows here.0.0 here.0.1 have)
        | inr later ↦ others_have others theirs other rows later
      ]

  pub found_after : (before : Contents) → HaveDistinctKeys before.rows
      → AfterFind words seen before (brought words seen before)
  found_after before distinct =
      elim (held_or_lacked before.rows) [
        | inl held ↦
            let is = brings held.0 before.rows distinct held.1 in
            record {
              is = refl;
              kept =
                  λ others theirs answer have. subst (HaveRow others theirs answer) (sym is)
                  (in_front_kept held.0 before.rows distinct held.1 others theirs answer have);
              only =
                  λ others theirs answer have. in_front_only held.0 before.rows held.1 others theirs answer
                  (subst (HaveRow others theirs answer) is have);
              distinct =
                  subst HaveDistinctKeys (sym is) (others_lack before.rows, others_distinct before.rows distinct);
            }
        | inr lack ↦
            let is = brings_none before.rows lack in
            record {
              is = refl;
              kept = λ others theirs answer have. subst (HaveRow others theirs answer) (sym is) have;
              only = λ others theirs answer have. subst (HaveRow others theirs answer) is have;
              distinct = subst HaveDistinctKeys (sym is) distinct;
            }
      ]

  pub brought_count : (rows : List BookRow) → HaveDistinctKeys rows
      → length (brought_rows words seen rows) ≡ length rows
  brought_count rows distinct =
      elim (held_or_lacked rows) [
        | inl held ↦ ap length (brings held.0 rows distinct held.1) ∙ one_fewer held.0 rows distinct held.1
        | inr lack ↦ ap length (brings_none rows lack)
      ]

-- ---- the first rows

pub first_have : (words : List (List ℕ)) (seen : List File) (answer : Answer) (count : ℕ) (rows : List BookRow)
    → HaveRow words seen answer (take count rows) → HaveRow words seen answer rows
first_have words seen answer zero rows have = absurd have
first_have words seen answer (suc count) [] have = have
first_have words seen answer (suc count) (row ∷ rows) (inl here) = inl here
first_have words seen answer (suc count) (row ∷ rows) (inr later) = inr (first_have words seen answer count rows later)

pub first_distinct : (count : ℕ) (rows : List BookRow) → HaveDistinctKeys rows → HaveDistinctKeys (take count rows)
first_distinct zero rows distinct = tt
first_distinct (suc count) [] distinct = tt
first_distinct (suc count) (row ∷ rows) distinct = (
  λ answer have. distinct.0 answer (first_have row.words row.seen answer count rows have),
  first_distinct count rows
      distinct.1,
)

-- if there are no more rows than that, none is dropped
pub have_first : (words : List (List ℕ)) (seen : List File) (answer : Answer) (count : ℕ) (rows more : List BookRow)
    → length rows ≤ count → HaveRow words seen answer rows → HaveRow words seen answer (take count (rows ++ more))
have_first words seen answer count [] more few have = absurd have
have_first words seen answer zero (row ∷ rows) more few have = absurd (omega arith)
have_first words seen answer (suc count) (row ∷ rows) more few (inl here) = inl here
have_first words seen answer (suc count) (row ∷ rows) more few (inr later) =
    inr (have_first words seen answer count rows more (omega arith) later)

pub all_first : (count : ℕ) (rows : List BookRow) → length rows ≤ count → take count rows ≡ rows
all_first zero [] few = refl
all_first zero (row ∷ rows) few = absurd (omega arith)
all_first (suc count) [] few = refl
all_first (suc count) (row ∷ rows) few = ap (λ (rest : List BookRow). row ∷ rest) (all_first count rows (omega arith))

pub first_count : (count : ℕ) (rows : List BookRow) → length (take count rows) ≤ count
first_count zero rows = omega arith
first_count (suc count) [] = omega arith
first_count (suc count) (row ∷ rows) = let few = first_count count rows in omega arith

pub full_count : (count : ℕ) (rows : List BookRow) → count ≤ length rows → length (take count rows) ≡ count
full_count zero rows many = refl
full_count (suc count) [] many = absurd (omega arith)
full_count (suc count) (row ∷ rows) many = ap suc (full_count count rows (omega arith))

-- ---- a put

module _ (words : List (List ℕ)) (seen : List File) (answer : Answer) where
  put_first : (limit : ℕ) (rows : List BookRow) → 1 ≤ limit
      → HaveRow words seen answer (take limit (new_row words seen answer ∷ rows))
  put_first zero rows some = absurd (omega arith)
  put_first (suc limit) rows some = inl ((refl, refl), refl)

  put_only : (rows : List BookRow) (others : List (List ℕ)) (theirs : List File) (other : Answer)
      → HaveRow others theirs other (new_row words seen answer ∷ other_rows words seen rows)
      → (IsSameKey others theirs words seen × (other ≡ answer)) ⊎ HaveRow others theirs other rows
  put_only rows others theirs other (inl here) = inl ((sym here.0.0, sym here.0.1), sym here.1)
  put_only rows others theirs other (inr later) = inr (others_have words seen others theirs other rows later)

  put_replaced : (rows : List BookRow) (other : Answer)
      → HaveRow words seen other (new_row words seen answer ∷ other_rows words seen rows) → other ≡ answer
  put_replaced rows other (inl here) = sym here.1
  put_replaced rows other (inr later) = absurd (others_lack words seen rows other later)

  put_distinct : (before : Contents) → HaveDistinctKeys before.rows
      → HaveDistinctKeys (with_row words seen answer before).rows
  put_distinct before distinct =
      first_distinct before.limit (new_row words seen answer ∷ other_rows words seen before.rows)
      (others_lack words seen before.rows, others_distinct words seen before.rows distinct)

  -- what a put leaves, from its equation
  pub after_putting : (before after : Contents) → HaveDistinctKeys after.rows → 1 ≤ after.limit
      → after ≡ with_row words seen answer before → AfterPut words seen answer before after
  after_putting before after distinct some is =
      let all = new_row words seen answer ∷ other_rows words seen before.rows in
      let limit = ap (λ (book : Contents). book.limit) is in
      let back =
      λ (others : List (List ℕ)) (theirs : List File) (other : Answer) (have : Holds others theirs other after).
      first_have others theirs other before.limit all (subst (Holds others theirs other) is have) in
      record {
        is = is;
        put =
            subst (Holds words seen answer) (sym is)
            (put_first before.limit (other_rows words seen before.rows) (omega arith));
        replaced = λ other have. put_replaced before.rows other (back words seen other have);
        only = λ others theirs other have. put_only before.rows others theirs other (back others theirs other have);
        distinct = distinct;
      }

-- ---- a book stays one

pub book_found : (words : List (List ℕ)) (seen : List File) (before : Contents) → IsBook before
    → IsBook (brought words seen before)
book_found words seen before book = record {
  distinct = (found_after words seen before book.distinct).distinct;
  within = (let same = brought_count words seen before.rows book.distinct in let within = book.within in omega arith);
  limited = book.limited;
}

pub book_put : (words : List (List ℕ)) (seen : List File) (answer : Answer) (before : Contents) → IsBook before
    → IsBook (with_row words seen answer before)
book_put words seen answer before book = record {
  distinct = put_distinct words seen answer before book.distinct;
  within = first_count before.limit (new_row words seen answer ∷ other_rows words seen before.rows);
  limited = book.limited;
}

-- ---- what a look-up leaves, from its equation

pub after_found : (words : List (List ℕ)) (seen : List File) (before after : Contents) → HaveDistinctKeys before.rows
    → after ≡ brought words seen before → AfterFind words seen before after
after_found words seen before after distinct is =
    subst (AfterFind words seen before) (sym is) (found_after words seen before distinct)
