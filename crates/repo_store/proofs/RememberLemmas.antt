-- What an answer that is remembered makes of what is kept.
use Rattle.std.proofs.Common.{◌≡◌, ℕ, ◌&&◌, Bool, true, false, not, List, [], ◌∷◌, ◌++◌, map, option_to_list, Option, None, Some, MatchOption, filter, length, take, if◌then◌else◌, refl, sym, ap, ap₂, subst, ◌∙◌, inl, inr}
use Rattle.std.specs.List.{AllByRecursion}
use Rattle.std.specs.Str.{bytes_eq}
use Rattle.std.proofs.lemmas.Bool.{false_from_ne_true}
use Rattle.hook_base.specs.declared.change.Change.{Change}
use Rattle.hook_base.specs.declared.file.File.{File}
use Rattle.hook_base.specs.RisingLemmas.{bytes_same}
use Rattle.store_tables.specs.declared.rows.AnswerRow.{AnswerRow}
use Rattle.repo_store.specs.AnswerLemmas.{all_with, few_within, own_keys_with}
use Rattle.repo_store.specs.Answers.{KeptAnswer, have_one_key}
use Rattle.repo_store.specs.Complete.{HasRecords, HaveDistinctDigests, HaveRecords, IsAmong, IsComplete}
use Rattle.repo_store.specs.Contents.{with_content}
use Rattle.repo_store.specs.Index.{Key, key_of, keys_eq}
use Rattle.repo_store.specs.Kept.{Kept}
use Rattle.repo_store.specs.Remembered.{TellsKey}
use Rattle.repo_store.specs.Remembering.{AreSmall, SomeCollides, remembering, with_contents}
use Rattle.repo_store.specs.RowRules.{AreStoreRows}
use Rattle.repo_store.specs.Rows.{answer_row, tables_of}
use Rattle.repo_store.specs.SoundAnswers.{IsSoundAnswer}
use Rattle.repo_store.specs.Standing.{TellKeys}
use Rattle.repo_store.specs.UsedAnswers.{in_front, without_key}
use Rattle.repo_store.specs.WrittenAnswers.{contents_for, contents_in_changes, contents_in_files, records_of}
use Rattle.repo_store.proofs.CompleteLemmas.{apart_with, files_grown, fixes_grown, grown, here_now, records_grown, still}
use Rattle.repo_store.proofs.KeyLemmas.{keys_decide, keys_same}
use Rattle.repo_store.proofs.ManyLemmas.{contents_front}
use Rattle.repo_store.proofs.RuleLemmas.{obeys_by, rules_in, small_with}
use Rattle.repo_store.proofs.SameAnswerLemmas.{keys_told}

-- ---- contents kept one after another

pub apart_contents : (xs contents : List (List ℕ)) → ¬ SomeCollides xs contents → HaveDistinctDigests contents → HaveDistinctDigests (with_contents xs contents)
apart_contents [] contents none apart = apart
apart_contents (x ∷ xs) contents none apart = apart_contents xs (with_content x contents) (λ later. none (inr later)) (apart_with x contents (λ here. none (inl here)) apart)

pub still_there : (x : List ℕ) (xs contents : List (List ℕ)) → IsAmong contents x → IsAmong (with_contents xs contents) x
still_there x [] contents there = there
still_there x (y ∷ xs) contents there = still_there x xs (with_content y contents) (still x y contents there)

pub small_contents : (xs contents : List (List ℕ)) → AreSmall xs → AreSmall contents → AreSmall (with_contents xs contents)
small_contents [] contents small all = all
small_contents (x ∷ xs) contents small all = small_contents xs (with_content x contents) small.1 (small_with x contents small.0 all)

each_there : (xs contents : List (List ℕ)) → AllByRecursion (IsAmong (with_contents xs contents)) xs
each_there [] contents = tt
each_there (x ∷ xs) contents = (still_there x xs (with_content x contents) (here_now x contents), each_there xs (with_content x contents))

module _ (P : List ℕ → Type 0) where
  both_parts : (xs ys : List (List ℕ)) → AllByRecursion P (xs ++ ys) → AllByRecursion P xs × AllByRecursion P ys
  both_parts [] ys all = (tt, all)
  both_parts (x ∷ xs) ys all = let rest = both_parts xs ys all.1 in ((all.0, rest.0), rest.1)

  files_have : (files : List File) → AllByRecursion P (contents_in_files files) → AllByRecursion (λ (file : File). P file.entry.bytes) files
  files_have [] all = tt
  files_have (file ∷ files) all = (all.0, files_have files all.1)

  now_has : (now : Option (List ℕ)) (more : List (List ℕ)) → AllByRecursion P (option_to_list now ++ more) → MatchOption now (Unit {0}) P × AllByRecursion P more
  now_has None more all = (tt, all)
  now_has (Some bytes) more all = (all.0, all.1)

  changes_have : (changes : List Change) → AllByRecursion P (contents_in_changes changes) → AllByRecursion (λ (change : Change). MatchOption change.now (Unit {0}) P) changes
  changes_have [] all = tt
  changes_have (change ∷ changes) all = let parts = now_has change.now (contents_in_changes changes) all in (parts.0, changes_have changes parts.1)

records_there : (contents : List (List ℕ)) (answer : KeptAnswer) → HasRecords (with_contents (contents_for answer) contents) answer
records_there contents answer =
    let after = with_contents (contents_for answer) contents in
    let parts = both_parts (IsAmong after) (contents_in_files answer.seen) (contents_in_changes answer.changes ++ records_of answer) (each_there (contents_for answer) contents) in
    let rest = both_parts (IsAmong after) (contents_in_changes answer.changes) (records_of answer) parts.1 in
    let records = rest.1 in
    record {
      words = records.0;
      seen = records.1.0;
      output = records.1.1.0;
      changes = records.1.1.1.0;
      seen_contents = files_have (IsAmong after) answer.seen parts.0;
      new_contents = changes_have (IsAmong after) answer.changes rest.0;
    }

-- ---- its row

abbrev pub other_row : AnswerRow → AnswerRow → Bool
other_row row other = not (bytes_eq other.words row.words && bytes_eq other.seen row.seen)

-- whether a row has the key of another, by the answers
pub row_told : (answer other : KeptAnswer) → TellsKey answer other → other_row (answer_row answer) (answer_row other) ≡ not (have_one_key other answer)
row_told answer other tells =
    elim (have_one_key other answer) as (λ b. have_one_key other answer ≡ b → other_row (answer_row answer) (answer_row other) ≡ not b) [
      | true ↦ λ e.
          let keys = keys_same other answer e in
          ap not (ap₂ (λ x y. x && y) (bytes_same (key_of other).0 (key_of answer).0 (ap (λ (k : Key). k.0) keys)) (bytes_same (key_of other).1 (key_of answer).1 (ap (λ (k : Key). k.1) keys)))
      | false ↦ λ e.
          ap not (false_from_ne_true (keys_eq (key_of other) (key_of answer)) (λ h.
          let keys : key_of other ≡ key_of answer = (keys_decide (key_of other) (key_of answer)).0 h in
          let one : have_one_key other answer ≡ true = tells keys in
          let never : true ≡ false = sym one ∙ e in
          absurd (cc)))
    ] refl

-- the rows of other keys are those of the answers of other keys
pub rows_left : (answer : KeptAnswer) (answers : List KeptAnswer) → AllByRecursion (TellsKey answer) answers
    → filter (other_row (answer_row answer)) (map answer_row answers) ≡ map answer_row (without_key answer.words answer.seen answers)
rows_left answer [] tells = refl
rows_left answer (other ∷ others) tells =
    let left = without_key answer.words answer.seen others in
    ap₂ (λ (b : Bool) (l : List AnswerRow). if b then answer_row other ∷ l else l) (row_told answer other tells.0) (rows_left answer others tells.1)
    ∙ elim (have_one_key other answer) as (λ b. (if not b then answer_row other ∷ map answer_row left else map answer_row left) ≡ map answer_row (if not b then other ∷ left else left))
    [ true ↦ refl | false ↦ refl ]

-- what came is forgotten
pub forgotten_answer : (all : List (List ℕ)) (kept mid now : Kept) (count : ℕ) → count ≡ length kept.contents → mid ≡ record kept { contents = with_contents all kept.contents }
    → now ≡ record mid { contents = take count mid.contents } → now ≡ kept
forgotten_answer all kept mid now count count_is mid_is is =
    is ∙ ap₂ (λ (n : ℕ) (k : Kept). record k { contents = take n k.contents }) count_is mid_is ∙ ap (λ (l : List (List ℕ)). record kept { contents = l })
    (contents_front all kept.contents (with_contents all kept.contents) refl)

-- ---- the digests of the answers tell their keys

module _ (contents : List (List ℕ)) (apart : HaveDistinctDigests contents) where
  pub told_by : (answer : KeptAnswer) → HasRecords contents answer → (others : List KeptAnswer) → AllByRecursion IsSoundAnswer others → HaveRecords contents others
      → AllByRecursion (TellsKey answer) others
  told_by answer here [] sound have = tt
  told_by answer here (other ∷ others) sound have = (keys_told contents apart other answer sound.0 have.0 here, told_by answer here others sound.1 have.1)

  pub told_all : (answers : List KeptAnswer) → AllByRecursion IsSoundAnswer answers → HaveRecords contents answers → (some : List KeptAnswer) → HaveRecords contents some
      → AllByRecursion (λ (answer : KeptAnswer). AllByRecursion (TellsKey answer) answers) some
  told_all answers sound have [] here = tt
  told_all answers sound have (answer ∷ some) here = (told_by answer here.0 answers sound have, told_all answers sound have some here.1)

pub tell_keys : (kept : Kept) → IsComplete kept → TellKeys kept.answers
tell_keys kept it = told_all kept.contents it.apart kept.answers it.sound_answers it.answers kept.answers it.answers

-- ---- all of it

module _ (answer : KeptAnswer) (kept : Kept) (it : IsComplete kept) (sound : IsSoundAnswer answer) (clear : ¬ SomeCollides (contents_for answer) kept.contents) where
  abbrev new : List (List ℕ)
  new = with_contents (contents_for answer) kept.contents

  grows : (x : List ℕ) → IsAmong kept.contents x → IsAmong new x
  grows x there = still_there x (contents_for answer) kept.contents there

  new_apart : HaveDistinctDigests new
  new_apart = apart_contents (contents_for answer) kept.contents clear it.apart

  here : HasRecords new answer
  here = records_there kept.contents answer

  records : HaveRecords new kept.answers
  records = records_grown kept.contents new kept.answers grows it.answers

  pub complete_remembered : IsComplete (remembering answer kept)
  complete_remembered = record {
    sound = it.sound;
    staged = files_grown kept.contents new kept.repo.staged grows it.staged;
    fixes = fixes_grown kept.contents new kept.repo.fixes grows it.fixes;
    trees = grown kept.contents new kept.repo grows it.trees;
    sound_answers = all_with IsSoundAnswer kept.limit answer kept.answers sound it.sound_answers;
    answers = all_with (HasRecords new) kept.limit answer kept.answers here records;
    keys = own_keys_with kept.limit answer kept.answers it.keys;
    apart = new_apart;
    limited = it.limited;
    few = few_within kept.limit (in_front answer kept.answers);
  }

  pub tell_keys_with : TellKeys (answer ∷ kept.answers)
  tell_keys_with = told_all new new_apart (answer ∷ kept.answers) (sound, it.sound_answers) (here, records) (answer ∷ kept.answers) (here, records)

  -- the same, of what the code hands over
  pub tell_keys_handed : (handed : KeptAnswer) → handed ≡ answer → TellKeys (handed ∷ kept.answers)
  tell_keys_handed handed is = subst (λ (a : KeptAnswer). TellKeys (a ∷ kept.answers)) (sym is) tell_keys_with

  pub obeys_remembered : AreStoreRows (tables_of kept) → AreSmall (contents_for answer) → AreStoreRows (tables_of (remembering answer kept))
  obeys_remembered obeys small =
      let rules = rules_in kept obeys in
      obeys_by (remembering answer kept) complete_remembered (record {
        staged_legal = rules.staged_legal;
        trees_legal = rules.trees_legal;
        fixes_staged = rules.fixes_staged;
        messages_small = rules.messages_small;
        contents_small = small_contents (contents_for answer) kept.contents small rules.contents_small;
      })
