-- Answers in the order of their keys.
use Rattle.std.proofs.Common.{◌≡◌, ℕ, ◌+◌, ◌<◌, List, [], ◌∷◌, ◌++◌, map, length, get_or, take, reverse, Option, None, Some, Ordering, Less, Equal, Greater, ◌⊎◌, inl, inr, refl, sym, ap, subst, ◌∙◌}
use Rattle.std.specs.Cmp.Lexicographic.{nat_list_cmp_total}
use Rattle.std.specs.List.{AllByRecursion}
use Rattle.std.specs.Ordering.{match_ordering}
use Rattle.std.proofs.lemmas.List.{reverse-append, take_more}
use Rattle.std.proofs.lemmas.List.Sorted.{IsPermutation-reverse}
use Rattle.repo_store.proofs.Kit.{all-append, ascending-append, ascending_from_map}
use Rattle.sqlite_trees.specs.Tree.{IsAscending}
use Rattle.hook_base.specs.Rising.{path_cmp}
use Rattle.hook_base.specs.RisingLemmas.{path_tied}
use Rattle.store_tables.specs.declared.rows.AnswerRow.{AnswerRow}
use Rattle.repo_store.specs.Answers.{KeptAnswer}
use Rattle.repo_store.specs.Bounded.{key_cmp, key_of_answer}
use Rattle.repo_store.specs.FromRows.{FollowsKey, IsKeyBelow}
use Rattle.repo_store.specs.Index.{Key, key_of}
use Rattle.repo_store.specs.Rows.{answer_row}
use Rattle.repo_store.proofs.RowRuleLemmas.{all_same, all_weaker}

key_less : (a b c : Key) → key_cmp a b ≡ Less → key_cmp b c ≡ Less → key_cmp a c ≡ Less
key_less a b c one two =
    elim (path_cmp a.0 b.0) as (λ o. path_cmp a.0 b.0 ≡ o → match_ordering o Less (path_cmp a.1 b.1) Greater ≡ Less → key_cmp a c ≡ Less) [
      | Less ↦ λ e h. elim (path_cmp b.0 c.0) as (λ o. path_cmp b.0 c.0 ≡ o → match_ordering o Less (path_cmp b.1 c.1) Greater ≡ Less → key_cmp a c ≡ Less) [
        | Less ↦ λ f k. first (nat_list_cmp_total.trans a.0 b.0 c.0 e f)
        | Equal ↦ λ f k. first (subst (λ (p : List ℕ). path_cmp a.0 p ≡ Less) (path_tied b.0 c.0 f) e)
        | Greater ↦ λ f k. absurd (let never : Greater ≡ Less = k in cc)
      ] refl two
      | Equal ↦ λ e h. elim (path_cmp b.0 c.0) as (λ o. path_cmp b.0 c.0 ≡ o → match_ordering o Less (path_cmp b.1 c.1) Greater ≡ Less → key_cmp a c ≡ Less) [
        | Less ↦ λ f k. first (subst (λ (p : List ℕ). path_cmp p c.0 ≡ Less) (sym (path_tied a.0 b.0 e)) f)
        | Equal ↦ λ f k.
            let same : path_cmp a.0 c.0 ≡ Equal = subst (λ (p : List ℕ). path_cmp a.0 p ≡ Equal) (path_tied b.0 c.0 f) e in
            ap (λ (o : Ordering). match_ordering o Less (path_cmp a.1 c.1) Greater) same ∙ nat_list_cmp_total.trans a.1 b.1 c.1 h k
        | Greater ↦ λ f k. absurd (let never : Greater ≡ Less = k in cc)
      ] refl two
      | Greater ↦ λ e h. absurd (let never : Greater ≡ Less = h in cc)
    ] refl one
  where
    first : path_cmp a.0 c.0 ≡ Less → key_cmp a c ≡ Less
    first e = ap (λ (o : Ordering). match_ordering o Less (path_cmp a.1 c.1) Greater) e

-- the key of each row is that of the last, or below it
abbrev pub IsTop : Option AnswerRow → List AnswerRow → Type 0
IsTop None rows = rows ≡ []
IsTop (Some last) rows = AllByRecursion (λ row. IsKeyBelow row last ⊎ (row ≡ last)) rows

pub record RiseTo (last : Option AnswerRow) (rows : List AnswerRow) : Type 0 where
  pub rise : IsAscending IsKeyBelow rows
  pub top : IsTop last rows

below_next : (last : Option AnswerRow) (rows : List AnswerRow) (row : AnswerRow) → IsTop last rows → FollowsKey last row → AllByRecursion (λ r. IsKeyBelow r row) rows
below_next None rows row top follows = subst (AllByRecursion (λ r. IsKeyBelow r row)) (sym top) tt
below_next (Some last) rows row top follows =
    all_weaker (λ r. IsKeyBelow r last ⊎ (r ≡ last)) (λ r. IsKeyBelow r row) rows (λ r h. elim h [
      | inl below ↦ key_less (key_of_answer r) (key_of_answer last) (key_of_answer row) below follows
      | inr same ↦ subst (λ (x : AnswerRow). IsKeyBelow x row) (sym same) follows
    ]) top

rise_pushed : (last : Option AnswerRow) (rows : List AnswerRow) (row : AnswerRow) → RiseTo last rows → FollowsKey last row → RiseTo (Some row) (rows ++ row ∷ [])
rise_pushed last rows row h follows =
    let below = below_next last rows row h.top follows in
    record {
      rise = ascending-append IsKeyBelow rows (row ∷ []) h.rise (tt, tt) (all_weaker (λ r. IsKeyBelow r row) (λ r. AllByRecursion (IsKeyBelow r) (row ∷ [])) rows (λ r b. (b, tt)) below);
      top = all-append (λ r. IsKeyBelow r row ⊎ (r ≡ row)) rows (row ∷ []) (all_weaker (λ r. IsKeyBelow r row) (λ r. IsKeyBelow r row ⊎ (r ≡ row)) rows (λ r b. inl b) below) (inr refl, tt);
    }

pub rise_more : (rows : List AnswerRow) (i : ℕ) (row : AnswerRow) (last : Option AnswerRow) → i < length rows → row ≡ get_or rows i row → RiseTo last (take i rows) → FollowsKey last row
    → RiseTo (Some row) (take (i + 1) rows)
rise_more rows i row last within is h follows =
    subst (RiseTo (Some row)) (sym (take_more rows i row within ∙ ap (λ (r : AnswerRow). take i rows ++ r ∷ []) (sym is))) (rise_pushed last (take i rows) row h follows)

-- ---- turned

module _ {X : Type 0} (R : X → X → Type 0) where
  abbrev Back : X → X → Type 0
  Back a b = R b a

  ascending_turned : (xs : List X) → IsAscending R xs → IsAscending Back (reverse xs)
  ascending_turned [] up = tt
  ascending_turned (x ∷ xs) up =
      let all = all_same (R x) xs (reverse xs) (IsPermutation-reverse xs) up.0 in
      subst (IsAscending Back) (sym (reverse-append (x ∷ []) xs)) (ascending-append Back (reverse xs) (x ∷ []) (ascending_turned xs up.1) (tt, tt)
      (all_weaker (R x) (λ y. AllByRecursion (Back y) (x ∷ [])) (reverse xs) (λ y b. (b, tt)) all))

-- rows that rise, the last one first, are those of answers that fall
pub answers_fall : (rows : List AnswerRow) (answers : List KeptAnswer) → IsAscending IsKeyBelow rows → map answer_row answers ≡ reverse rows
    → IsAscending (λ a b. key_cmp (key_of b) (key_of a) ≡ Less) answers
answers_fall rows answers up same =
    ascending_from_map (Back IsKeyBelow) answer_row answers (subst (IsAscending (Back IsKeyBelow)) (sym same) (ascending_turned IsKeyBelow rows up))
