-- Lemmas on what the calls of a book change.
use Rattle.std.specs.Prelude.{◌≡◌, ◌⊎◌, ◌≤◌, ◌<◌, ◌+◌, ℕ, zero, suc, not, List, [], ◌∷◌, ◌++◌, length, take, Option, None, Some, refl}
use Rattle.std.proofs.Common.{ap, sym, ◌∙◌, inl, inr, subst, arith}
use Rattle.std.proofs.lemmas.List.Elements.{filter-append}
use Rattle.child_port.specs.declared.answer.Answer.{Answer}
use Rattle.hook_base.specs.declared.file.File.{File}
use Rattle.result_book.specs.declared.book_row.BookRow.{BookRow}
use Rattle.result_book.specs.Contents.{Contents, HasKey, HaveRow, HaveDistinctKeys, Holds, Lacks, Finds, count_of, is_row_for, other_rows}
use Rattle.result_book.specs.Calls.{AfterFind, AfterPut, AfterForget, IsSameKey, new_row}
use Rattle.result_book.specs.KeyLemmas.{same_lack}
use Rattle.result_book.specs.OrderLemmas.{all_first, all_others, brings, brings_none, brought_count, fewer_others, first_count, full_count, have_first, have_others, one_fewer}

-- ---- what is found after each call

pub found_after_find : (words : List (List ℕ)) (seen : List File) (before after : Contents) (others : List (List ℕ))
    (theirs : List File) (found : Option Answer) → AfterFind words seen before after → Finds others theirs before found
    → Finds others theirs after found
found_after_find words seen before after others theirs None step lacks =
    λ answer holds. lacks answer (step.only others theirs answer holds)
found_after_find words seen before after others theirs (Some answer) step holds = step.kept others theirs answer holds

pub found_after_put : (words : List (List ℕ)) (seen : List File) (answer : Answer) (before after : Contents)
    (found : Option Answer) → AfterPut words seen answer before after → Finds words seen after found
    → found ≡ Some answer
found_after_put words seen answer before after None step lacks = absurd (lacks answer step.put)
found_after_put words seen answer before after (Some other) step holds = ap Some (step.replaced other holds)

-- what another key finds after a put, it found before
pub others_before_put : (words : List (List ℕ)) (seen : List File) (answer : Answer) (before after : Contents)
    (others : List (List ℕ)) (theirs : List File) (other : Answer)
    → AfterPut words seen answer before after → ¬ IsSameKey others theirs words seen → Holds others theirs other after
    → Holds others theirs other before
others_before_put words seen answer before after others theirs other step differs held =
    elim (step.only others theirs other held) [
      | inl new ↦ absurd (differs new.0)
      | inr old ↦ old
    ]

-- if the answers of another key are kept, it finds the same
others_from : (words : List (List ℕ)) (seen : List File) (answer : Answer) (before after : Contents)
    (others : List (List ℕ)) (theirs : List File) (found : Option Answer)
    → AfterPut words seen answer before after → ¬ IsSameKey others theirs words seen
    → ((other : Answer) → Holds others theirs other before → Holds others theirs other after)
    → Finds others theirs before found → Finds others theirs after found
others_from words seen answer before after others theirs None step differs kept lacks =
    λ other held. lacks other (others_before_put words seen answer before after others theirs other step differs held)
others_from words seen answer before after others theirs (Some other) step differs kept holds = kept other holds

-- no row before the last one is dropped
stays_among : (words : List (List ℕ)) (seen : List File) (answer : Answer) (limit : ℕ) (rows more : List BookRow)
    → length (other_rows words seen rows) < limit
    → (others : List (List ℕ)) (theirs : List File) (other : Answer) → ¬ IsSameKey others theirs words seen
    → HaveRow others theirs other rows
    → HaveRow others theirs other (take limit (new_row words seen answer ∷ other_rows words seen (rows ++ more)))
stays_among words seen answer zero rows more few others theirs other differs held = absurd (omega arith)
stays_among words seen answer (suc limit) rows more few others theirs other differs held =
    elim (have_others words seen others theirs other rows held) [
      | inl same ↦ absurd (differs same)
      | inr later ↦ inr (subst (λ (all : List BookRow). HaveRow others theirs other (take limit all))
          (sym (filter-append (λ (row : BookRow). not (is_row_for words seen row)) rows more))
          (have_first others theirs other limit (other_rows words seen rows) (other_rows words seen more) (omega arith)
          later))
    ]

module _ (words : List (List ℕ)) (seen : List File) (answer : Answer) (before after : Contents)
    (step : AfterPut words seen answer before after) where
  -- if there is room for one more row, the rows of other keys stay
  stays_in_room : length (other_rows words seen before.rows) < before.limit
      → (others : List (List ℕ)) (theirs : List File) (other : Answer) → ¬ IsSameKey others theirs words seen
      → Holds others theirs other before → Holds others theirs other after
  stays_in_room room others theirs other differs held =
      subst (Holds others theirs other) (sym step.is)
      (subst (λ (all : List BookRow). HaveRow others theirs other
      (take before.limit (new_row words seen answer ∷ other_rows words seen all))) (append_none before.rows)
      (stays_among words seen answer before.limit before.rows [] room others theirs other differs held))
    where
      append_none : (rows : List BookRow) → rows ++ [] ≡ rows
      append_none [] = refl
      append_none (row ∷ rows) = ap (λ (rest : List BookRow). row ∷ rest) (append_none rows)

  pub others_in_room : count_of before < before.limit
      → (others : List (List ℕ)) (theirs : List File) (found : Option Answer) → ¬ IsSameKey others theirs words seen
      → Finds others theirs before found → Finds others theirs after found
  others_in_room room others theirs found differs finds =
      let fewer = fewer_others words seen before.rows in
      others_from words seen answer before after others theirs found step differs
      (λ other held. stays_in_room (omega arith) others theirs other differs held) finds

  pub others_in_place : (old : Answer) → HaveDistinctKeys before.rows → count_of before ≤ before.limit
      → Holds words seen old before → (others : List (List ℕ)) (theirs : List File) (found : Option Answer)
      → ¬ IsSameKey others theirs words seen → Finds others theirs before found → Finds others theirs after found
  others_in_place old distinct within have others theirs found differs finds =
      let fewer = one_fewer words seen old before.rows distinct have in
      others_from words seen answer before after others theirs found step differs
      (λ other held. stays_in_room (omega arith) others theirs other differs held) finds

  -- all rows but the last one stay
  pub others_but_last : (rows : List BookRow) (last : BookRow) → before.rows ≡ rows ++ last ∷ []
      → count_of before ≤ before.limit → (others : List (List ℕ)) (theirs : List File) (found : Option Answer)
      → ¬ IsSameKey others theirs words seen → ¬ HasKey others theirs last → Finds others theirs before found
      → Finds others theirs after found
  others_but_last rows last all within others theirs found differs apart finds =
      let fewer = fewer_others words seen rows in
      let longer = one_longer rows in
      let as_many = ap length all in
      others_from words seen answer before after others theirs found step differs (λ other held.
      elim (all_but rows other (subst (HaveRow others theirs other) all held)) [
        | inl later ↦ subst (Holds others theirs other) (sym step.is)
            (subst (λ (those : List BookRow). HaveRow others theirs other
            (take before.limit (new_row words seen answer ∷ other_rows words seen those))) (sym all)
            (stays_among words seen answer before.limit rows (last ∷ []) (omega arith) others theirs other differs
            later))
        | inr key ↦ absurd (apart key)
      ]) finds
    where
      one_longer : (some : List BookRow) → length (some ++ last ∷ []) ≡ suc (length some)
      one_longer [] = refl
      one_longer (row ∷ some) = ap suc (one_longer some)

      all_but : (some : List BookRow) (other : Answer) → HaveRow others theirs other (some ++ last ∷ [])
          → HaveRow others theirs other some ⊎ HasKey others theirs last
      all_but [] other (inl here) = inr here.0
      all_but [] other (inr none) = absurd none
      all_but (row ∷ some) other (inl here) = inl (inl here)
      all_but (row ∷ some) other (inr later) =
          elim (all_but some other later) [ inl held ↦ inl (inr held) | inr key ↦ inr key ]

-- ---- the front row, and the limit

pub front_after_find : (words : List (List ℕ)) (seen : List File) (answer : Answer) (before after : Contents)
    → HaveDistinctKeys before.rows → AfterFind words seen before after → Holds words seen answer before
    → after.rows ≡ new_row words seen answer ∷ other_rows words seen before.rows
front_after_find words seen answer before after distinct step held =
    ap (λ (all : Contents). all.rows) step.is ∙ brings words seen answer before.rows distinct held

pub same_after_find : (words : List (List ℕ)) (seen : List File) (before after : Contents)
    → AfterFind words seen before after → Lacks words seen before → after ≡ before
same_after_find words seen before after step lacks =
    step.is ∙ ap (λ (rows : List BookRow). record { rows = rows; limit = before.limit })
    (brings_none words seen before.rows lacks)

pub limit_after_find : (words : List (List ℕ)) (seen : List File) (before after : Contents)
    → AfterFind words seen before after → after.limit ≡ before.limit
limit_after_find words seen before after step = ap (λ (all : Contents). all.limit) step.is

pub limit_after_put : (words : List (List ℕ)) (seen : List File) (answer : Answer) (before after : Contents)
    → AfterPut words seen answer before after → after.limit ≡ before.limit
limit_after_put words seen answer before after step = ap (λ (all : Contents). all.limit) step.is

pub within_after_put : (words : List (List ℕ)) (seen : List File) (answer : Answer) (before after : Contents)
    → AfterPut words seen answer before after → count_of after ≤ before.limit
within_after_put words seen answer before after step =
    subst (λ (all : Contents). count_of all ≤ before.limit) (sym step.is)
    (first_count before.limit (new_row words seen answer ∷ other_rows words seen before.rows))

-- ---- removing all answers

pub have_none : (words : List (List ℕ)) (seen : List File) (answer : Answer) (rows : List BookRow) → rows ≡ []
    → HaveRow words seen answer rows → ⊥
have_none words seen answer rows none have = subst (λ (all : List BookRow). HaveRow words seen answer all) none have

pub found_after_forget : (before after : Contents) (words : List (List ℕ)) (seen : List File) (found : Option Answer)
    → AfterForget before after → Finds words seen after found → found ≡ None
found_after_forget before after words seen None step lacks = refl
found_after_forget before after words seen (Some answer) step holds =
    absurd (have_none words seen answer after.rows step.none holds)

pub count_after_forget : (before after : Contents) → AfterForget before after → count_of after ≡ 0
count_after_forget before after step = ap length step.none

-- ---- books that hold the same answers have the same length

-- the rows without the first that has this answer for the words and the seen files
abbrev but : (words : List (List ℕ)) (seen : List File) (answer : Answer) (rows : List BookRow)
    → HaveRow words seen answer rows → List BookRow
but words seen answer [] have = []
but words seen answer (row ∷ rows) (inl have) = rows
but words seen answer (row ∷ rows) (inr have) = row ∷ but words seen answer rows have

length_but : (words : List (List ℕ)) (seen : List File) (answer : Answer) (rows : List BookRow)
    (have : HaveRow words seen answer rows) → length rows ≡ suc (length (but words seen answer rows have))
length_but words seen answer [] have = absurd have
length_but words seen answer (row ∷ rows) (inl have) = refl
length_but words seen answer (row ∷ rows) (inr have) = ap suc (length_but words seen answer rows have)

-- an answer of the rows is one of the remaining rows, or is for the same key
same_or_but : (words : List (List ℕ)) (seen : List File) (answer : Answer) (rows : List BookRow)
    (have : HaveRow words seen answer rows) (others : List (List ℕ)) (theirs : List File) (other : Answer)
    → HaveRow others theirs other rows → IsSameKey others theirs words seen
    ⊎ HaveRow others theirs other (but words seen answer rows have)
same_or_but words seen answer [] have others theirs other held = absurd have
same_or_but words seen answer (row ∷ rows) (inl have) others theirs other (inl held) =
    inl (sym held.0.0 ∙ have.0.0, sym held.0.1 ∙ have.0.1)
same_or_but words seen answer (row ∷ rows) (inl have) others theirs other (inr held) = inr held
same_or_but words seen answer (row ∷ rows) (inr have) others theirs other (inl held) = inr (inl held)
same_or_but words seen answer (row ∷ rows) (inr have) others theirs other (inr held) =
    elim (same_or_but words seen answer rows have others theirs other held) [
      | inl same ↦ inl same
      | inr later ↦ inr (inr later)
    ]

others_but : (words : List (List ℕ)) (seen : List File) (answer : Answer) (rows : List BookRow)
    (have : HaveRow words seen answer rows) (others : List (List ℕ)) (theirs : List File) (other : Answer)
    → ¬ IsSameKey others theirs words seen → HaveRow others theirs other rows
    → HaveRow others theirs other (but words seen answer rows have)
others_but words seen answer rows have others theirs other differs held =
    elim (same_or_but words seen answer rows have others theirs other held) [
      | inl same ↦ absurd (differs same)
      | inr later ↦ later
    ]

have_but : (words : List (List ℕ)) (seen : List File) (answer : Answer) (rows : List BookRow)
    (have : HaveRow words seen answer rows) (others : List (List ℕ)) (theirs : List File) (other : Answer)
    → HaveRow others theirs other (but words seen answer rows have) → HaveRow others theirs other rows
have_but words seen answer [] have others theirs other held = held
have_but words seen answer (row ∷ rows) (inl have) others theirs other held = inr held
have_but words seen answer (row ∷ rows) (inr have) others theirs other (inl held) = inl held
have_but words seen answer (row ∷ rows) (inr have) others theirs other (inr held) =
    inr (have_but words seen answer rows have others theirs other held)

lack_but : (words : List (List ℕ)) (seen : List File) (answer : Answer) (rows : List BookRow)
    (have : HaveRow words seen answer rows) → HaveDistinctKeys rows → (other : Answer)
    → HaveRow words seen other (but words seen answer rows have) → ⊥
lack_but words seen answer [] have distinct other held = held
lack_but words seen answer (row ∷ rows) (inl have) distinct other held =
    same_lack row.words words row.seen seen rows have.0.0 have.0.1 distinct.0 other held
lack_but words seen answer (row ∷ rows) (inr have) distinct other (inl held) =
    same_lack row.words words row.seen seen rows held.0.0 held.0.1 distinct.0 answer have
lack_but words seen answer (row ∷ rows) (inr have) distinct other (inr held) =
    lack_but words seen answer rows have distinct.1 other held

distinct_but : (words : List (List ℕ)) (seen : List File) (answer : Answer) (rows : List BookRow)
    (have : HaveRow words seen answer rows) → HaveDistinctKeys rows → HaveDistinctKeys (but words seen answer rows have)
distinct_but words seen answer [] have distinct = tt
distinct_but words seen answer (row ∷ rows) (inl have) distinct = distinct.1
distinct_but words seen answer (row ∷ rows) (inr have) distinct = (
  λ other held. distinct.0 other (have_but words seen answer rows have row.words row.seen other held),
  distinct_but
      words seen answer rows have distinct.1,
)

pub at_most_as_long : (rows more : List BookRow) → HaveDistinctKeys rows
    → ((words : List (List ℕ)) (seen : List File) (answer : Answer) → HaveRow words seen answer rows
    → HaveRow words seen answer more) → length rows ≤ length more
at_most_as_long [] more distinct held = omega arith
at_most_as_long (row ∷ rows) more distinct held =
    let have = held row.words row.seen row.answer (inl ((refl, refl), refl)) in
    let rest = at_most_as_long rows (but row.words row.seen row.answer more have) distinct.1 (λ words seen answer later.
    others_but row.words row.seen row.answer more have words seen answer
    (λ same. same_lack row.words words row.seen seen rows (sym same.0) (sym same.1) distinct.0 answer later)
    (held words seen answer (inr later))) in
    let less = length_but row.words row.seen row.answer more have in
    omega arith

-- two books that hold the same answers have the same number of them
pub same_count : (a b : Contents) → HaveDistinctKeys a.rows → HaveDistinctKeys b.rows
    → ((words : List (List ℕ)) (seen : List File) (answer : Answer) → Holds words seen answer a
    → Holds words seen answer b)
    → ((words : List (List ℕ)) (seen : List File) (answer : Answer) → Holds words seen answer b
    → Holds words seen answer a) → count_of a ≡ count_of b
same_count a b first second there back =
    let least = at_most_as_long a.rows b.rows first there in
    let most = at_most_as_long b.rows a.rows second back in
    omega arith

-- ---- the number of answers

pub count_after_find : (words : List (List ℕ)) (seen : List File) (before after : Contents)
    → HaveDistinctKeys before.rows → AfterFind words seen before after → count_of after ≡ count_of before
count_after_find words seen before after distinct step =
    ap count_of step.is ∙ brought_count words seen before.rows distinct

module _ (words : List (List ℕ)) (seen : List File) (answer : Answer) (before after : Contents)
    (step : AfterPut words seen answer before after) where
  abbrev all_rows : List BookRow
  all_rows = new_row words seen answer ∷ other_rows words seen before.rows

  count_all : length all_rows ≤ before.limit → count_of after ≡ length all_rows
  count_all few = ap count_of step.is ∙ ap length (all_first before.limit all_rows few)

  pub count_more : count_of before < before.limit → Lacks words seen before → count_of after ≡ count_of before + 1
  count_more room lacks =
      let as_many = ap length (all_others words seen before.rows lacks) in
      let all = count_all (omega arith) in
      omega arith

  pub count_full : count_of before ≡ before.limit → Lacks words seen before → count_of after ≡ before.limit
  count_full full lacks =
      let as_many = ap length (all_others words seen before.rows lacks) in
      ap count_of step.is ∙ full_count before.limit all_rows (omega arith)

  pub count_same : (old : Answer) → HaveDistinctKeys before.rows → count_of before ≤ before.limit
      → Holds words seen old before → count_of after ≡ count_of before
  count_same old distinct within have =
      let fewer = one_fewer words seen old before.rows distinct have in
      let all = count_all (omega arith) in
      omega arith
