-- The row of an answer tells it, and the digests of its key tell its key, where contents stand under distinct digests.
use Rattle.std.proofs.Common.{◌≡◌, ℕ, zero, suc, ◌<◌, ℤ, pos, negsuc, Bool, true, false, ◌&&◌, eqb, if◌then◌else◌, List, [], ◌∷◌, ◌++◌, map, length, get_or, IsPermutation, refl, sym, ap, ap₂, subst, ◌∙◌, arith}
use Rattle.std.specs.List.{AllByRecursion, Contains}
use Rattle.std.specs.Str.{bytes_eq}
use Rattle.std.specs.Cmp.Lexicographic.{bytes_decides}
use Rattle.std.proofs.lemmas.Bool.{and_parts, and_from, eq-eqb, eqb-true}
use Rattle.std.proofs.lemmas.List.Elements.{All-contains, All-from_recursion, Contains-append_left, Contains-append_right, Contains-get_or, recursion_from_All}
use Rattle.std.proofs.lemmas.List.Sorted.{IsPermutation-refl, IsPermutation-map, list_any-IsPermutation}
use Rattle.sha2.specs.Sha256.{sha256}
use Rattle.hook_base.specs.declared.change.Change.{Change}
use Rattle.hook_base.specs.declared.file.File.{File}
use Rattle.hook_base.specs.RisingLemmas.{bytes_same}
use Rattle.answer_records.specs.declared.seen_file.SeenFile.{SeenFile}
use Rattle.answer_records.specs.RecordLemmas.{changes_of_told, files_told, words_told}
use Rattle.answer_records.specs.Records.{changed_file, seen_file}
use Rattle.store_tables.specs.declared.rows.AnswerRow.{AnswerRow}
use Rattle.store_tables.specs.declared.rows.StagedRow.{StagedRow}
use Rattle.repo_store.specs.AnswerLemmas.{own_key}
use Rattle.repo_store.specs.Answers.{KeptAnswer}
use Rattle.repo_store.specs.Complete.{HasRecords, HaveDistinctDigests, HaveRecords, IsAmong}
use Rattle.repo_store.specs.Remembered.{TellsKey}
use Rattle.repo_store.specs.Rows.{answer_row, mode_number}
use Rattle.repo_store.specs.SoundAnswers.{IsSoundAnswer}
use Rattle.repo_store.specs.WrittenAnswers.{written_changes, written_seen, written_words}
use Rattle.repo_store.proofs.CompleteLemmas.{records_grown}
use Rattle.repo_store.proofs.DigestLemmas.{same_bytes, same_changes, same_files}
use Rattle.repo_store.proofs.RowRuleLemmas.{all_both}

abbrev with_parts : List (List ℕ) → List File → List ℕ → List Change → ℕ → KeptAnswer
with_parts words seen output changes status = record { words = words; seen = seen; output = output; changes = changes; status = status }

parts_same : (w v : List (List ℕ)) (s t : List File) (o p : List ℕ) (c d : List Change) (m n : ℕ) → w ≡ v → s ≡ t → o ≡ p → c ≡ d → m ≡ n → with_parts w s o c m ≡ with_parts v t p d n
parts_same w v s t o p c d m n words seen output changes status = cc

module _ (b : List (List ℕ)) (apart : HaveDistinctDigests b) where
  -- what was kept for an answer, is one with what was kept for another where the digests are
  one_record : (x y : List ℕ) → IsAmong b x → IsAmong b y → sha256 x ≡ sha256 y → x ≡ y
  one_record x y x_in y_in digests = same_bytes b b (IsPermutation-refl b) apart x y x_in y_in digests

  abbrev shown_in : SeenFile → StagedRow
  shown_in file = record { path = file.path; mode = pos (mode_number file.mode); digest = file.digest }

  module _ (x y : KeptAnswer) (sound : IsSoundAnswer x) (x_in : HasRecords b x) (y_in : HasRecords b y) where
    pub same_words : sha256 (written_words x) ≡ sha256 (written_words y) → x.words ≡ y.words
    same_words digests = words_told x.words y.words (record { storable = sound.words_fit; same = one_record (written_words x) (written_words y) x_in.words y_in.words digests })

    pub same_seen : sha256 (written_seen x) ≡ sha256 (written_seen y) → x.seen ≡ y.seen
    same_seen digests =
        let named = files_told x.seen y.seen (record { storable = sound.seen_fits; same = one_record (written_seen x) (written_seen y) x_in.seen y_in.seen digests }) in
        same_files b b (IsPermutation-refl b) apart seen_file shown_in (λ file. refl) x.seen y.seen x_in.seen_contents y_in.seen_contents named

    same_changed : sha256 (written_changes x) ≡ sha256 (written_changes y) → x.changes ≡ y.changes
    same_changed digests =
        let named = changes_of_told x.changes y.changes (record { storable = sound.changes_fit; same = one_record (written_changes x) (written_changes y) x_in.changes y_in.changes digests }) in
        same_changes b b (IsPermutation-refl b) apart changed_file (λ file. file) (λ change. refl) x.changes y.changes x_in.new_contents y_in.new_contents named

    same_answer : answer_row x ≡ answer_row y → x ≡ y
    same_answer rows =
        let words = same_words (ap (λ (row : AnswerRow). row.words) rows) in
        let seen = same_seen (ap (λ (row : AnswerRow). row.seen) rows) in
        let output = one_record x.output y.output x_in.output y_in.output (ap (λ (row : AnswerRow). row.output) rows) in
        let changes = same_changed (ap (λ (row : AnswerRow). row.changes) rows) in
        let codes : pos x.status ≡ pos y.status = ap (λ (row : AnswerRow). row.status) rows in
        let status : x.status ≡ y.status = cc in
        parts_same x.words y.words x.seen y.seen x.output y.output x.changes y.changes x.status y.status words seen output changes status

    -- the digests of a key tell it
    pub keys_told : TellsKey y x
    keys_told keys = own_key x y (same_words (ap (λ k. k.0) keys)) (same_seen (ap (λ k. k.1) keys))

-- ---- answers, from their rows

abbrev code_in : ℤ → ℕ
code_in (pos n) = n
code_in (negsuc n) = 0

-- the row is that of the answer
abbrev shows : AnswerRow → KeptAnswer → Bool
shows row answer =
    bytes_eq row.words (sha256 (written_words answer)) && (bytes_eq row.seen (sha256 (written_seen answer)) &&
    (bytes_eq row.output (sha256 answer.output) && (bytes_eq row.changes (sha256 (written_changes answer)) && eqb (code_in row.status) answer.status)))

abbrev blank : KeptAnswer
blank = record { words = []; seen = []; output = []; changes = []; status = 0 }

-- the first of the answers whose row it is
abbrev first_shown : List KeptAnswer → AnswerRow → KeptAnswer
first_shown [] row = blank
first_shown (answer ∷ answers) row = if shows row answer then answer else first_shown answers row

shown_same : (x y : KeptAnswer) → shows (answer_row x) y ≡ true → answer_row x ≡ answer_row y
shown_same x y h =
    let one = and_parts _ _ h in
    let two = and_parts _ _ one.1 in
    let three = and_parts _ _ two.1 in
    let four = and_parts _ _ three.1 in
    let words = (bytes_decides (sha256 (written_words x)) (sha256 (written_words y))).0 one.0 in
    let seen = (bytes_decides (sha256 (written_seen x)) (sha256 (written_seen y))).0 two.0 in
    let output = (bytes_decides (sha256 x.output) (sha256 y.output)).0 three.0 in
    let changes = (bytes_decides (sha256 (written_changes x)) (sha256 (written_changes y))).0 four.0 in
    let status = ap pos (eqb-true x.status y.status four.1) in
    made words seen output changes status
  where
    made : {a b c d e f g h : List ℕ} {m n : ℤ} → a ≡ b → c ≡ d → e ≡ f → g ≡ h → m ≡ n
        → ◌≡◌ {A = AnswerRow} (record { words = a; seen = c; output = e; changes = g; status = m }) (record { words = b; seen = d; output = f; changes = h; status = n })
    made words seen output changes status = cc

shows_own : (x : KeptAnswer) → shows (answer_row x) x ≡ true
shows_own x =
    and_from _ _ (bytes_same (sha256 (written_words x)) (sha256 (written_words x)) refl)
    (and_from _ _ (bytes_same (sha256 (written_seen x)) (sha256 (written_seen x)) refl)
    (and_from _ _ (bytes_same (sha256 x.output) (sha256 x.output) refl) (and_from _ _ (bytes_same (sha256 (written_changes x)) (sha256 (written_changes x)) refl) (eq-eqb x.status x.status refl))))

module _ (b : List (List ℕ)) (apart : HaveDistinctDigests b) where
  -- an answer that is sound, and whose contents are kept
  record IsKeptWhole (answer : KeptAnswer) : Type 0 where
    pub sound : IsSoundAnswer answer
    pub records : HasRecords b answer

  all_whole : (answers : List KeptAnswer) → AllByRecursion IsSoundAnswer answers → HaveRecords b answers → AllByRecursion IsKeptWhole answers
  all_whole [] sound have = tt
  all_whole (answer ∷ answers) sound have = (record { sound = sound.0; records = have.0 }, all_whole answers sound.1 have.1)

  first_is : (x : KeptAnswer) → IsKeptWhole x → (answers : List KeptAnswer) → AllByRecursion IsKeptWhole answers → Contains answers x → first_shown answers (answer_row x) ≡ x
  first_is x it answers all there = go answers all there.0 there.1 there.2
    where
      go : (answers : List KeptAnswer) → AllByRecursion IsKeptWhole answers → (k : ℕ) → k < length answers → get_or answers k x ≡ x → first_shown answers (answer_row x) ≡ x
      go [] all k within at = absurd (omega arith)
      go (y ∷ ys) all zero within at = ap (λ b. if b then y else first_shown ys (answer_row x)) (ap (shows (answer_row x)) at ∙ shows_own x) ∙ at
      go (y ∷ ys) all (suc k) within at =
          elim (shows (answer_row x) y) as (λ b. shows (answer_row x) y ≡ b → (if b then y else first_shown ys (answer_row x)) ≡ x) [
            | true ↦ λ e. sym (same_answer b apart x y it.sound it.records all.0.records (shown_same x y e))
            | false ↦ λ e. go ys all.1 k (omega arith) at
          ] refl

  all_back : (answers some : List KeptAnswer) → AllByRecursion (λ (x : KeptAnswer). first_shown answers (answer_row x) ≡ x) some → map (first_shown answers) (map answer_row some) ≡ some
  all_back answers [] each = refl
  all_back answers (x ∷ some) each = ap₂ (λ (y : KeptAnswer) (l : List KeptAnswer). y ∷ l) each.0 (all_back answers some each.1)

  rows_back : (answers some : List KeptAnswer) → AllByRecursion IsKeptWhole answers → AllByRecursion IsKeptWhole some → ((x : KeptAnswer) → Contains some x → Contains answers x)
      → map (first_shown answers) (map answer_row some) ≡ some
  rows_back answers some all each within =
      all_back answers some (recursion_from_All (λ (x : KeptAnswer). first_shown answers (answer_row x) ≡ x) some (λ k d below.
      let here = Contains-get_or some k d below in
      first_is (get_or some k d) (All-contains IsKeptWhole some (get_or some k d) (All-from_recursion IsKeptWhole some each) here) answers all (within (get_or some k d) here)))

  one_answers : (xs ys : List KeptAnswer) → AllByRecursion IsKeptWhole xs → AllByRecursion IsKeptWhole ys → IsPermutation (map answer_row xs) (map answer_row ys) → IsPermutation xs ys
  one_answers xs ys xs_whole ys_whole rows =
      let all = xs ++ ys in
      let each = all_both IsKeptWhole xs ys xs_whole ys_whole in
      let read = IsPermutation-map (first_shown all) (map answer_row xs) (map answer_row ys) rows in
      subst (λ (l : List KeptAnswer). IsPermutation l ys) (rows_back all xs each xs_whole (λ x. Contains-append_left xs ys x))
      (subst (IsPermutation (map (first_shown all) (map answer_row xs))) (rows_back all ys each ys_whole (λ x. Contains-append_right xs ys x)) read)

-- rows tell the answers, in some order
pub same_answers : (a b : List (List ℕ)) → IsPermutation a b → HaveDistinctDigests b → (xs ys : List KeptAnswer) → AllByRecursion IsSoundAnswer xs → HaveRecords a xs → AllByRecursion IsSoundAnswer ys
    → HaveRecords b ys
    → IsPermutation (map answer_row xs) (map answer_row ys) → IsPermutation xs ys
same_answers a b same apart xs ys xs_sound xs_in ys_sound ys_in rows =
    let moved : (x : List ℕ) → IsAmong a x → IsAmong b x = λ x there. sym (list_any-IsPermutation (bytes_eq x) a b same) ∙ there in
    one_answers b apart xs ys (all_whole b apart xs xs_sound (records_grown a b xs moved xs_in)) (all_whole b apart ys ys_sound ys_in) rows
