-- The tables after an answer is put, one is brought_answers to the front, or a limit is set.
use Rattle.std.proofs.Common.{◌≡◌, ℕ, zero, suc, ◌+◌, ◌-◌, ◌<◌, ◌≤◌, pos, Bool, true, false, not, nat_lt, List, [], ◌∷◌, ◌++◌, filter, length, map, take, drop, reverse, get_or, Option, None, Some, ◌⊎◌, inl, inr, if◌then◌else◌, IsPermutation, refl, sym, ap, subst, ◌∙◌, arith, append_assoc, append-nil, ltb-true}
use Rattle.std.specs.List.{AllByRecursion, Contains, slice_get}
use Rattle.std.specs.Option.{option_map, option_map_or}
use Rattle.std.proofs.lemmas.Bool.{cases_lt, lt-ltb}
use Rattle.std.proofs.lemmas.List.{reverse-append, reverse-reverse, take-append-drop, take_all, take_more}
use Rattle.std.proofs.lemmas.List.Elements.{All-contains, All-from_recursion}
use Rattle.std.proofs.lemmas.List.Sorted.{IsPermutation-filter_both, IsPermutation-map, IsPermutation-refl, IsPermutation-to_front, length_permutation}
use Rattle.std.proofs.lemmas.Option.{slice_get-get_or}
use Rattle.repo_store.proofs.Kit.{filter_none}
use Rattle.hook_base.specs.declared.file.File.{File}
use Rattle.store_tables.specs.declared.rows.AnswerRow.{AnswerRow}
use Rattle.store_tables.specs.Tables.{Tables, with_new_meta, without_answer}
use Rattle.repo_store.specs.AnswerLemmas.{all_in_front, is_for_itself, other_key_back, own_keys_in_front}
use Rattle.repo_store.specs.Answers.{KeptAnswer, HaveOwnKeys, have_one_key, is_for}
use Rattle.repo_store.specs.Complete.{HasRecords, IsComplete}
use Rattle.repo_store.specs.FromRows.{IsSame}
use Rattle.repo_store.specs.Index.{Key, key_of}
use Rattle.repo_store.specs.Kept.{Kept, limiting}
use Rattle.repo_store.specs.ListedAnswers.{brought_answers, last_key, of_key, of_other_keys}
use Rattle.repo_store.specs.Remembered.{TellsKey}
use Rattle.repo_store.specs.Remembering.{SomeCollides, remembering, with_answer_row, with_contents}
use Rattle.repo_store.specs.Rows.{answer_row, blob_row, commit_rows, entry_rows, fix_row, limit_row, staged_row, tables_of, version_row, with_blobs}
use Rattle.repo_store.specs.SoundAnswers.{IsSoundAnswer}
use Rattle.repo_store.specs.Standing.{TellKeys, bringing, put_tables, surplus_of, without_key_row}
use Rattle.repo_store.specs.UsedAnswers.{in_front, with_answer_within, within_limit, without_key}
use Rattle.repo_store.specs.UsesOf.{TellTheirKeys, without_all}
use Rattle.repo_store.specs.WrittenAnswers.{contents_for}
use Rattle.repo_store.proofs.AnswerListLemmas.{found_there, others_told}
use Rattle.repo_store.proofs.KeptLemmas.{blobs_after}
use Rattle.repo_store.proofs.ManyLemmas.{contents_front}
use Rattle.repo_store.proofs.RememberLemmas.{other_row, rows_left, tell_keys, tell_keys_with}
use Rattle.repo_store.proofs.RowRuleLemmas.{all_weaker}
use Rattle.repo_store.proofs.UseLemmas.{without_last}

abbrev pub with_answers : List AnswerRow → Tables → Tables
with_answers rows t = record t { answers = rows }

-- ---- the last of them

module _ (P : KeptAnswer → Type 0) where
  all_but_last : (front : List KeptAnswer) (last : KeptAnswer) → AllByRecursion P (front ++ last ∷ []) → AllByRecursion P front
  all_but_last [] last all = tt
  all_but_last (answer ∷ front) last all = (all.0, all_but_last front last all.1)

  pub of_last : (front : List KeptAnswer) (last : KeptAnswer) → AllByRecursion P (front ++ last ∷ []) → P last
  of_last [] last all = all.0
  of_last (answer ∷ front) last all = of_last front last all.1

own_but_last : (front : List KeptAnswer) (last : KeptAnswer) → HaveOwnKeys (front ++ last ∷ []) → HaveOwnKeys front
own_but_last [] last own = tt
own_but_last (answer ∷ front) last own = (all_but_last (λ (other : KeptAnswer). have_one_key answer other ≡ false) front last own.0, own_but_last front last own.1)

-- fewer answers tell their keys too
fewer_tell : (all some : List KeptAnswer) → ((P : KeptAnswer → Type 0) → AllByRecursion P all → AllByRecursion P some) → TellKeys all → TellKeys some
fewer_tell all some fewer tells =
    all_weaker (λ (x : KeptAnswer). AllByRecursion (TellsKey x) all) (λ (x : KeptAnswer). AllByRecursion (TellsKey x) some) some (λ x told. fewer (TellsKey x) told)
    (fewer (λ (x : KeptAnswer). AllByRecursion (TellsKey x) all) tells)

pub tell_in_front : (answer : KeptAnswer) (answers : List KeptAnswer) → TellKeys (answer ∷ answers) → TellKeys (in_front answer answers)
tell_in_front answer answers tells = fewer_tell (answer ∷ answers) (in_front answer answers) (λ P all. all_in_front P answer answers all.0 all.1) tells

-- there is one answer more than the limit says
pub record IsOneOver (limit : ℕ) (all : List KeptAnswer) : Type 0 where
  pub last : KeptAnswer
  pub parted : all ≡ take limit all ++ last ∷ []
  pub key : last_key all ≡ Some (key_of last)

pub one_over : (limit : ℕ) (all : List KeptAnswer) → limit < length all → length all ≤ limit + 1 → IsOneOver limit all
one_over limit [] over within = absurd (omega arith)
one_over limit (first ∷ rest) over within =
    let all : List KeptAnswer = first ∷ rest in
    let place : length all - 1 ≡ limit = omega arith in
    record {
      last = get_or all limit first;
      parted = sym (take_all (limit + 1) all within) ∙ take_more all limit first over;
      key = ap (λ (k : ℕ). option_map key_of (slice_get all k)) place ∙ ap (option_map key_of) (slice_get-get_or all limit first over);
    }

-- the row of the last one is taken out
last_row_out : (front : List KeptAnswer) (last : KeptAnswer) (t : Tables) → t.answers ≡ map answer_row (front ++ last ∷ []) → HaveOwnKeys (front ++ last ∷ []) → TellKeys (front ++ last ∷ [])
    → without_answer (key_of last).0 (key_of last).1 t ≡ with_answers (map answer_row front) t
last_row_out front last t is own tells =
    let all = front ++ last ∷ [] in
    ap (λ (rows : List AnswerRow). with_answers rows t)
    (ap (filter (other_row (answer_row last))) is ∙ rows_left last all (of_last (λ (x : KeptAnswer). AllByRecursion (TellsKey x) all) front last tells)
    ∙ ap (map answer_row) (without_last front last own))

surplus_out : (limit : ℕ) (all : List KeptAnswer) (t : Tables) → t.answers ≡ map answer_row all → HaveOwnKeys all → TellKeys all → length all ≤ limit + 1
    → without_key_row (surplus_of limit all) t ≡ with_answers (map answer_row (within_limit limit all)) t
surplus_out limit all t is own tells within =
    elim (nat_lt limit (length all)) as (λ b. nat_lt limit (length all) ≡ b → without_key_row (if b then last_key all else None) t ≡ with_answers (map answer_row (within_limit limit all)) t) [
      | true ↦ λ e.
          let over = one_over limit all (ltb-true limit (length all) e) within in
          ap (λ (key : Option Key). without_key_row key t) over.key
          ∙ last_row_out (take limit all) over.last t (is ∙ ap (map answer_row) over.parted) (subst HaveOwnKeys over.parted own) (subst TellKeys over.parted tells)
      | false ↦ λ e. ap (λ (rows : List AnswerRow). with_answers rows t) (is ∙ ap (map answer_row) (sym (take_all limit all (at_most e))))
    ] refl
  where
    at_most : nat_lt limit (length all) ≡ false → length all ≤ limit
    at_most e = elim (cases_lt limit (length all)) [ inl over ↦ absurd (let one = lt-ltb limit (length all) over in let never : true ≡ false = sym one ∙ e in cc) | inr fits ↦ fits ]

-- ---- an answer is put

pub left_length : (words : List (List ℕ)) (seen : List File) (answers : List KeptAnswer) → length (without_key words seen answers) ≤ length answers
left_length words seen [] = omega arith
left_length words seen (answer ∷ answers) =
    let rest = left_length words seen answers in
    let left = without_key words seen answers in
    elim (is_for words seen answer) as (λ b. length (if not b then answer ∷ left else left) ≤ suc (length answers)) [ true ↦ omega arith | false ↦ omega arith ]

put_is : (limit : ℕ) (answers : List KeptAnswer) (answer : KeptAnswer) (news : List (List ℕ)) (t : Tables) → t.answers ≡ map answer_row answers → HaveOwnKeys answers → TellKeys (answer ∷ answers)
    → length answers ≤ limit
    → put_tables limit answers answer news t ≡ with_answers (map answer_row (with_answer_within limit answer answers)) (with_blobs news t)
put_is limit answers answer news t is own tells few =
    let front = in_front answer answers in
    let kept = with_blobs news t in
    let rows : (with_answer_row (answer_row answer) kept).answers ≡ map answer_row front =
    ap (λ (l : List AnswerRow). answer_row answer ∷ l) (ap (filter (other_row (answer_row answer))) is ∙ rows_left answer answers tells.0.1) in
    let within = left_length answer.words answer.seen answers in
    surplus_out limit front (with_answer_row (answer_row answer) kept) rows (own_keys_in_front answer answers own) (tell_in_front answer answers tells) (omega arith)

module _ (answer : KeptAnswer) (kept : Kept) (it : IsComplete kept) (sound : IsSoundAnswer answer) (clear : ¬ SomeCollides (contents_for answer) kept.contents) where
  abbrev new : List (List ℕ)
  new = with_contents (contents_for answer) kept.contents

  remembering_same : IsSame (put_tables kept.limit kept.answers answer (drop (length kept.contents) new) (tables_of kept)) (tables_of (remembering answer kept))
  remembering_same =
      let news = drop (length kept.contents) new in
      let after = with_answer_within kept.limit answer kept.answers in
      subst (λ (t : Tables). IsSame t (tables_of (remembering answer kept)))
      (sym (put_is kept.limit kept.answers answer news (tables_of kept) refl it.keys (tell_keys_with answer kept it sound clear) it.few)) (record {
        meta = IsPermutation-refl (version_row ∷ limit_row (pos kept.limit) ∷ []);
        blobs = blobs_after kept.contents new (contents_front (contents_for answer) kept.contents new refl);
        staged = IsPermutation-refl (map staged_row kept.repo.staged);
        fixes = IsPermutation-refl (map fix_row kept.repo.fixes);
        commits = IsPermutation-refl (commit_rows 1 kept.repo.history);
        entries = IsPermutation-refl (entry_rows 1 kept.repo.history);
        answers = IsPermutation-refl (map answer_row after);
      })

  pub remembering_handed : (news : List (List ℕ)) (handed : KeptAnswer) → news ≡ drop (length kept.contents) new → handed ≡ answer
      → IsSame (put_tables kept.limit kept.answers handed news (tables_of kept)) (tables_of (remembering answer kept))
  remembering_handed news handed news_is is =
      subst (λ (l : List (List ℕ)). IsSame (put_tables kept.limit kept.answers handed l (tables_of kept)) (tables_of (remembering answer kept))) (sym news_is)
      (subst (λ (a : KeptAnswer). IsSame (put_tables kept.limit kept.answers a (drop (length kept.contents) new) (tables_of kept)) (tables_of (remembering answer kept))) (sym is) remembering_same)

-- ---- an answer is brought_answers to the front

only_one : (answer : KeptAnswer) (answers : List KeptAnswer) → HaveOwnKeys answers → (k : ℕ) → k < length answers → get_or answers k answer ≡ answer
    → filter (is_for answer.words answer.seen) answers ≡ answer ∷ []
only_one answer [] own k within at = absurd (omega arith)
only_one answer (other ∷ others) own zero within at =
    let P = λ (x : KeptAnswer). have_one_key answer x ≡ false in
    let apart : AllByRecursion P others = subst (λ (a : KeptAnswer). AllByRecursion (λ (x : KeptAnswer). have_one_key a x ≡ false) others) at own.0 in
    let none =
    filter_none (is_for answer.words answer.seen) others (all_weaker P (λ (x : KeptAnswer). is_for answer.words answer.seen x ≡ false) others (λ x there. other_key_back answer x there) apart) in
    ap (λ (b : Bool). if b then other ∷ filter (is_for answer.words answer.seen) others else filter (is_for answer.words answer.seen) others)
    (ap (is_for answer.words answer.seen) at ∙ is_for_itself answer)
    ∙ ap (λ (l : List KeptAnswer). other ∷ l) none ∙ ap (λ (a : KeptAnswer). a ∷ []) at
only_one answer (other ∷ others) own (suc k) within at =
    let P = λ (x : KeptAnswer). have_one_key other x ≡ false in
    let there : Contains others answer = (k, omega arith, at) in
    let apart : have_one_key other answer ≡ false = All-contains P others answer (All-from_recursion P others own.0) there in
    ap (λ (b : Bool). if b then other ∷ filter (is_for answer.words answer.seen) others else filter (is_for answer.words answer.seen) others) apart ∙ only_one answer others own.1 k (omega arith) at

front_moved : (answer : KeptAnswer) (answers : List KeptAnswer) → HaveOwnKeys answers → Contains answers answer → IsPermutation answers (in_front answer answers)
front_moved answer answers own there =
    let p = is_for answer.words answer.seen in
    subst (λ (l : List KeptAnswer). IsPermutation answers (l ++ without_key answer.words answer.seen answers)) (only_one answer answers own there.0 there.1 there.2)
    (IsPermutation-filter_both p (λ (x : KeptAnswer). not (p x)) (λ x. refl) answers)

-- one of the answers is in front then, or all is as it was
pub record IsInFront (all after : List KeptAnswer) : Type 0 where
  pub answer : KeptAnswer
  pub there : Contains all answer
  pub is : after ≡ in_front answer all

pub brought_is : (key : Key) (answers : List KeptAnswer) → TellKeys answers → (brought_answers key answers ≡ answers) ⊎ IsInFront answers (brought_answers key answers)
brought_is key answers tells =
    elim (of_key key answers) as (λ o. of_key key answers ≡ o → (option_map_or (λ answer. answer ∷ of_other_keys key answers) o answers ≡ answers)
    ⊎ IsInFront answers (option_map_or (λ answer. answer ∷ of_other_keys key answers) o answers)) [
      | None ↦ λ e. inl refl
      | Some answer ↦ λ e.
          let it = found_there key answer answers e in
          let told =
          All-contains (λ (x : KeptAnswer). AllByRecursion (TellsKey x) answers) answers answer (All-from_recursion (λ (x : KeptAnswer). AllByRecursion (TellsKey x) answers) answers tells) it.0 in
          inr (record {
            answer = answer;
            there = it.0;
            is = ap (λ (k : Key). answer ∷ of_other_keys k answers) (sym it.1)
                ∙ ap (λ (l : List KeptAnswer). answer ∷ l) (others_told answer answers told);
          })
    ] refl

module _ (key : Key) (kept : Kept) (it : IsComplete kept) where
  brought_moved : IsPermutation kept.answers (brought_answers key kept.answers)
  brought_moved =
      elim (brought_is key kept.answers (tell_keys kept it)) [
        | inl same ↦ subst (IsPermutation kept.answers) (sym same) (IsPermutation-refl kept.answers)
        | inr front ↦ subst (IsPermutation kept.answers) (sym front.is) (front_moved front.answer kept.answers it.keys front.there)
      ]

  all_brought : (P : KeptAnswer → Type 0) → AllByRecursion P kept.answers → AllByRecursion P (brought_answers key kept.answers)
  all_brought P all =
      elim (brought_is key kept.answers (tell_keys kept it)) [
        | inl same ↦ subst (AllByRecursion P) (sym same) all
        | inr front ↦ subst (AllByRecursion P) (sym front.is) (all_in_front P front.answer kept.answers (All-contains P kept.answers front.answer (All-from_recursion P kept.answers all) front.there)
            all)
      ]

  own_brought : HaveOwnKeys (brought_answers key kept.answers)
  own_brought =
      elim (brought_is key kept.answers (tell_keys kept it)) [
        | inl same ↦ subst HaveOwnKeys (sym same) it.keys
        | inr front ↦ subst HaveOwnKeys (sym front.is) (own_keys_in_front front.answer kept.answers it.keys)
      ]

  pub complete_brought : IsComplete (bringing key kept)
  complete_brought = record {
    sound = it.sound;
    staged = it.staged;
    fixes = it.fixes;
    trees = it.trees;
    sound_answers = all_brought IsSoundAnswer it.sound_answers;
    answers = all_brought (HasRecords kept.contents) it.answers;
    keys = own_brought;
    apart = it.apart;
    limited = it.limited;
    few = subst (λ (n : ℕ). n ≤ kept.limit) (sym (length_permutation _ _ brought_moved)) it.few;
  }

  pub bringing_same : IsSame (tables_of kept) (tables_of (bringing key kept))
  bringing_same = record {
    meta = IsPermutation-refl (version_row ∷ limit_row (pos kept.limit) ∷ []);
    blobs = IsPermutation-refl (map blob_row kept.contents);
    staged = IsPermutation-refl (map staged_row kept.repo.staged);
    fixes = IsPermutation-refl (map fix_row kept.repo.fixes);
    commits = IsPermutation-refl (commit_rows 1 kept.repo.history);
    entries = IsPermutation-refl (entry_rows 1 kept.repo.history);
    answers = IsPermutation-map answer_row kept.answers (brought_answers key kept.answers) brought_moved;
  }

-- ---- a limit is set

rows_out : (front rest : List KeptAnswer) (t : Tables) → t.answers ≡ map answer_row (front ++ reverse rest) → HaveOwnKeys (front ++ reverse rest) → TellKeys (front ++ reverse rest)
    → without_all (map key_of rest) t ≡ with_answers (map answer_row front) t
rows_out front [] t is own tells = ap (λ (rows : List AnswerRow). with_answers rows t) (is ∙ ap (map answer_row) (append-nil front))
rows_out front (last ∷ rest) t is own tells =
    let others = front ++ reverse rest in
    let parted : front ++ reverse (last ∷ rest) ≡ others ++ last ∷ [] =
    ap (λ (l : List KeptAnswer). front ++ l) (reverse-append (last ∷ []) rest) ∙ sym (append_assoc front (reverse rest) (last ∷ [])) in
    let apart = subst HaveOwnKeys parted own in
    let told = subst TellKeys parted tells in
    let gone = last_row_out others last t (is ∙ ap (map answer_row) parted) apart told in
    ap (without_all (map key_of rest)) gone
    ∙ rows_out front rest (with_answers (map answer_row others) t) refl (own_but_last others last apart) (fewer_tell (others ++ last ∷ []) others (λ P all. all_but_last P others last all) told)

-- those of the answers after a limit
pub behind_out : (limit : ℕ) (answers : List KeptAnswer) (t : Tables) → t.answers ≡ map answer_row answers → HaveOwnKeys answers → TellKeys answers
    → without_all (map key_of (reverse (drop limit answers))) t ≡ with_answers (map answer_row (take limit answers)) t
behind_out limit answers t is own tells =
    let front = take limit answers in
    let back = drop limit answers in
    let whole : answers ≡ front ++ reverse (reverse back) = sym (take-append-drop limit answers) ∙ ap (λ (l : List KeptAnswer). front ++ l) (sym (reverse-reverse back)) in
    rows_out front (reverse back) t (is ∙ ap (map answer_row) whole) (subst HaveOwnKeys whole own) (subst TellKeys whole tells)

pub limiting_same : (limit : ℕ) (kept : Kept) → IsComplete kept → IsSame (with_new_meta (limit_row (pos limit)) (without_all (map key_of (reverse (drop limit kept.answers))) (tables_of kept)))
    (tables_of (limiting limit kept))
limiting_same limit kept it =
    let front = take limit kept.answers in
    let out = behind_out limit kept.answers (tables_of kept) refl it.keys (tell_keys kept it) in
    subst (λ (t : Tables). IsSame (with_new_meta (limit_row (pos limit)) t) (tables_of (limiting limit kept))) (sym out) (record {
      meta = IsPermutation-to_front (limit_row (pos limit) ∷ []) version_row;
      blobs = IsPermutation-refl (map blob_row kept.contents);
      staged = IsPermutation-refl (map staged_row kept.repo.staged);
      fixes = IsPermutation-refl (map fix_row kept.repo.fixes);
      commits = IsPermutation-refl (commit_rows 1 kept.repo.history);
      entries = IsPermutation-refl (entry_rows 1 kept.repo.history);
      answers = IsPermutation-refl (map answer_row front);
    })

-- ---- what the tables of the uses ask of the keys

-- of all answers, those after the limit
pub told_behind : (limit : ℕ) (answers : List KeptAnswer) → TellKeys answers → TellTheirKeys (take limit answers ++ drop limit answers) (drop limit answers)
told_behind limit answers tells =
    let whole = take-append-drop limit answers in
    subst (λ (l : List KeptAnswer). TellTheirKeys l (drop limit answers)) (sym whole) (all_behind (λ (answer : KeptAnswer). AllByRecursion (TellsKey answer) answers) limit answers tells)
  where
    all_behind : (P : KeptAnswer → Type 0) (n : ℕ) (answers : List KeptAnswer) → AllByRecursion P answers → AllByRecursion P (drop n answers)
    all_behind P zero answers all = all
    all_behind P (suc n) [] all = tt
    all_behind P (suc n) (answer ∷ answers) all = all_behind P n answers all.1

pub tell_behind : (limit : ℕ) (kept : Kept) → IsComplete kept → TellTheirKeys (take limit kept.answers ++ drop limit kept.answers) (drop limit kept.answers)
tell_behind limit kept it = told_behind limit kept.answers (tell_keys kept it)
