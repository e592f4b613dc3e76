-- The rows of remembered answers: what is kept for them, and what the records of an answer tell.
use Rattle.std.proofs.Common.{◌≡◌, ℕ, ◌<◌, ◌≤◌, Bool, ◌||◌, ℤ, pos, true, false, List, [], ◌∷◌, map, length, get_or, is_some, if◌then◌else◌, Option, None, Some, IfSome, MatchOption, refl, sym, ap, subst, ◌∙◌, inl, inr, arith}
use Rattle.std.specs.Cmp.Lexicographic.{bytes_decides}
use Rattle.std.specs.List.{AllByRecursion}
use Rattle.std.specs.Option.{option_map}
use Rattle.std.specs.Str.{IsUtf8, bytes_eq}
use Rattle.std.proofs.lemmas.Bool.{or_cases}
use Rattle.std.proofs.lemmas.List.{get_or-map, length-map}
use Rattle.std.proofs.lemmas.List.Folds.{list_any_at}
use Rattle.sha2.specs.Sha256.{sha256}
use Rattle.repo_store.proofs.Kit.{contains_had, length-sha256}
use Rattle.sqlite_rules.specs.Lists.{Has}
use Rattle.hook_base.specs.declared.change.Change.{Change}
use Rattle.hook_base.specs.declared.file.File.{File}
use Rattle.hook_base.specs.Rising.{IsBelowAll, IsRisingBy}
use Rattle.hook_base.specs.RisingLemmas.{bytes_same}
use Rattle.hook_base.specs.Trees.{IsRising, IsRisingChanges, entry_of}
use Rattle.answer_records.specs.declared.changed_file.ChangedFile.{ChangedFile}
use Rattle.answer_records.specs.declared.seen_file.SeenFile.{SeenFile}
use Rattle.answer_records.specs.Limits.{IsStorable}
use Rattle.answer_records.specs.Reading.{Decodes, IsChangedFile, IsChangesRecord, IsDigest, IsSeenFile, IsSeenRecord, IsTreePath, IsWordsRecord, TellsItsValue}
use Rattle.answer_records.specs.Records.{changed_file, changed_of_changes, changes_record, seen_file, seen_of_files, seen_record, words_record}
use Rattle.store_tables.specs.declared.rows.AnswerRow.{AnswerRow}
use Rattle.store_tables.specs.declared.rows.BlobRow.{BlobRow}
use Rattle.repo_store.specs.Answers.{KeptAnswer}
use Rattle.repo_store.specs.Complete.{HasRecords, HaveContents, HaveNewContents, HaveRecords, IsAmong}
use Rattle.repo_store.specs.Contents.{Collides, has_content}
use Rattle.store_faults.specs.Limits.{most_status}
use Rattle.repo_store.specs.RowRules.{AreSeen, HasKept, HaveKeptContents, HaveKeptNewContents, IsAnswerRow, is_kept, is_of_seen_file}
use Rattle.repo_store.specs.Rows.{answer_row, blob_row}
use Rattle.repo_store.specs.SharedAnswers.{IsWritten}
use Rattle.repo_store.specs.SoundAnswers.{IsSoundAnswer, KeepToSeen}
use Rattle.repo_store.specs.WrittenAnswers.{written_changes, written_seen, written_words}

-- ---- kept contents

pub kept_row : (bytes : List ℕ) (contents : List (List ℕ)) → IsAmong contents bytes → is_kept (map blob_row contents) (sha256 bytes) ≡ true
kept_row bytes [] there = there
kept_row bytes (other ∷ contents) there =
    elim (bytes_eq bytes other) as (λ b. bytes_eq bytes other ≡ b → (b || has_content bytes contents) ≡ true
    → (bytes_eq (sha256 bytes) (sha256 other) || is_kept (map blob_row contents) (sha256 bytes)) ≡ true) [
      | true ↦ λ e _. ap (λ b. b || is_kept (map blob_row contents) (sha256 bytes)) (bytes_same (sha256 bytes) (sha256 other) (ap sha256 ((bytes_decides bytes other).0 e)))
      | false ↦ λ _ later.
          elim (bytes_eq (sha256 bytes) (sha256 other)) as (λ b. (b || is_kept (map blob_row contents) (sha256 bytes)) ≡ true) [ true ↦ refl | false ↦ kept_row bytes contents later ]
    ] refl there

blob_among : (bytes : List ℕ) (contents : List (List ℕ)) → IsAmong contents bytes → Has (map blob_row contents) (blob_row bytes)
blob_among bytes [] there = absurd (let never : false ≡ true = there in cc)
blob_among bytes (other ∷ contents) there =
    elim (or_cases (bytes_eq bytes other) (has_content bytes contents) there) [ inl here ↦ inl (ap blob_row ((bytes_decides bytes other).0 here)) | inr later ↦ inr (blob_among bytes contents later) ]

-- contents that are kept are so under their digest
kept_among : (AreSuch : List ℕ → Type 0) (bytes : List ℕ) (contents : List (List ℕ)) → IsAmong contents bytes → AreSuch bytes → HasKept (map blob_row contents) (sha256 bytes) AreSuch
kept_among AreSuch bytes contents there such =
    record { blob = blob_row bytes; kept = contains_had (map blob_row contents) (blob_row bytes) (blob_among bytes contents there); named = refl; such = such }

-- where contents stand that a row holds
held : (contents : List (List ℕ)) (blob : BlobRow) (at : ℕ) → at < length (map blob_row contents) → get_or (map blob_row contents) at blob ≡ blob → blob ≡ blob_row (get_or contents at [])
held contents blob at within is = sym is ∙ get_or-map blob_row contents at [] blob (omega (arith, length-map contents blob_row))

-- contents with which no others collide are all that is kept under their digest
pub kept_alone : (AreSuch : List ℕ → Type 0) (digest content : List ℕ) (contents : List (List ℕ)) → sha256 content ≡ digest → ¬ Collides content contents
    → HasKept (map blob_row contents) digest AreSuch → AreSuch content
kept_alone AreSuch digest content contents named alone kept =
    let at = kept.kept.0 in
    let here = held contents kept.blob at kept.kept.1 kept.kept.2 in
    let bytes : kept.blob.bytes ≡ get_or contents at [] = ap (λ (b : BlobRow). b.bytes) here in
    let same : sha256 (get_or contents at []) ≡ sha256 content = ap (λ (b : BlobRow). b.digest) (sym here) ∙ kept.named ∙ sym named in
    let within = kept.kept.1 in
    elim (bytes_eq kept.blob.bytes content) as (λ b. bytes_eq kept.blob.bytes content ≡ b → AreSuch content) [
      | true ↦ λ e. subst AreSuch ((bytes_decides kept.blob.bytes content).0 e) kept.such
      | false ↦ λ e. absurd (alone (record {
        at = at;
        within = omega (arith, length-map contents blob_row);
        same_digest = same;
        differs = λ (one : get_or contents at [] ≡ content). let never =
            bytes_same kept.blob.bytes content (bytes ∙ one) in cc;
      }))
    ] refl

pub not_kept : (AreSuch : List ℕ → Type 0) (digest : List ℕ) (blobs : List BlobRow) → is_kept blobs digest ≡ false → ¬ HasKept blobs digest AreSuch
not_kept AreSuch digest blobs absent kept =
    let named : BlobRow → Bool = λ blob. bytes_eq digest blob.digest in
    let there = list_any_at named blobs kept.kept.0 kept.blob kept.kept.1 (ap named kept.kept.2 ∙ bytes_same digest kept.blob.digest (sym kept.named)) in
    absurd (let never : true ≡ false = sym there ∙ absent in cc)

module _ {X : Type 0} (IsRecord : X → List ℕ → Type 0) (digest content : List ℕ) (contents : List (List ℕ)) (named : sha256 content ≡ digest) (alone : ¬ Collides content contents) where
  -- what is kept under the digest is the record of nothing
  pub none_told : ((value : X) → ¬ IsRecord value content) → (value : X) → ¬ HasKept (map blob_row contents) digest (IsRecord value)
  none_told none value kept = none value (kept_alone (IsRecord value) digest content contents named alone kept)

  -- what is kept under the digest is the record of this value alone
  pub one_told : TellsItsValue IsRecord → (value : X) → IsRecord value content → (other : X) → HasKept (map blob_row contents) digest (IsRecord other) → other ≡ value
  one_told tells value is other kept = tells other value content (kept_alone (IsRecord other) digest content contents named alone kept) is

-- ---- what a reader answers

pub none_decoded : {X : Type 0} (IsRecord : X → List ℕ → Type 0) (bytes content : List ℕ) (read : Option X) → bytes ≡ content → read ≡ None → Decodes IsRecord bytes read → (value : X)
    → ¬ IsRecord value content
none_decoded IsRecord bytes content read same none decodes = subst (λ (b : List ℕ). Decodes IsRecord b None) same (subst (Decodes IsRecord bytes) none decodes)

pub one_decoded : {X : Type 0} (IsRecord : X → List ℕ → Type 0) (bytes content : List ℕ) (read : Option X) (value : X) → bytes ≡ content → read ≡ Some value → Decodes IsRecord bytes read
    → IsRecord value content
one_decoded IsRecord bytes content read value same some decodes = subst (λ (b : List ℕ). IsRecord value b) same (subst (Decodes IsRecord bytes) some decodes)

-- ---- records of what an answer has

module _ {X Y : Type 0} (made : X → Y) (path_of : Y → List ℕ) where
  below_made : (path : List ℕ) (xs : List X) → IsBelowAll (λ x. path_of (made x)) path xs → IsBelowAll path_of path (map made xs)
  below_made path [] all = tt
  below_made path (x ∷ xs) all = (all.0, below_made path xs all.1)

  below_back : (path : List ℕ) (xs : List X) → IsBelowAll path_of path (map made xs) → IsBelowAll (λ x. path_of (made x)) path xs
  below_back path [] all = tt
  below_back path (x ∷ xs) all = (all.0, below_back path xs all.1)

  pub rising_made : (xs : List X) → IsRisingBy (λ x. path_of (made x)) xs → IsRisingBy path_of (map made xs)
  rising_made [] up = tt
  rising_made (x ∷ xs) up = (below_made (path_of (made x)) xs up.0, rising_made xs up.1)

  rising_back : (xs : List X) → IsRisingBy path_of (map made xs) → IsRisingBy (λ x. path_of (made x)) xs
  rising_back [] up = tt
  rising_back (x ∷ xs) up = (below_back (path_of (made x)) xs up.0, rising_back xs up.1)

seen_items : (files : List File) → AllByRecursion (λ (file : File). IsTreePath file.path) files → AllByRecursion IsSeenFile (seen_of_files files)
seen_items [] legal = tt
seen_items (file ∷ files) legal = (record { path = legal.0; digest = length-sha256 file.entry.bytes }, seen_items files legal.1)

seen_paths : (files : List File) → AllByRecursion IsSeenFile (seen_of_files files) → AllByRecursion (λ (file : File). IsTreePath file.path) files
seen_paths [] items = tt
seen_paths (file ∷ files) items = (items.0.path, seen_paths files items.1)

now_digest : (now : Option (List ℕ)) → IfSome (option_map sha256 now) IsDigest
now_digest None = tt
now_digest (Some bytes) = length-sha256 bytes

changed_items : (changes : List Change) → AllByRecursion (λ (change : Change). IsTreePath change.path) changes → AllByRecursion IsChangedFile (changed_of_changes changes)
changed_items [] legal = tt
changed_items (change ∷ changes) legal = (record { path = legal.0; digest = now_digest change.now }, changed_items changes legal.1)

changed_paths : (changes : List Change) → AllByRecursion IsChangedFile (changed_of_changes changes) → AllByRecursion (λ (change : Change). IsTreePath change.path) changes
changed_paths [] items = tt
changed_paths (change ∷ changes) items = (items.0.path, changed_paths changes items.1)

words_recorded : (words : List (List ℕ)) → AllByRecursion IsUtf8 words → IsStorable (words_record words) → IsWordsRecord words (words_record words)
unfolding words_record
words_recorded words utf8 fit = record { each = utf8; spelled = refl; storable = fit }

seen_recorded : (files : List File) → AllByRecursion (λ (file : File). IsTreePath file.path) files → IsRising files → IsStorable (seen_record (seen_of_files files))
    → IsSeenRecord (seen_of_files files) (seen_record (seen_of_files files))
unfolding seen_record
seen_recorded files legal rising fit =
    record { listed = record { each = seen_items files legal; spelled = refl; storable = fit }; rising = rising_made seen_file (λ (file : SeenFile). file.path) files rising }

changes_recorded : (changes : List Change) → AllByRecursion (λ (change : Change). IsTreePath change.path) changes → IsRisingChanges changes → IsStorable (changes_record (changed_of_changes changes))
    → IsChangesRecord (changed_of_changes changes) (changes_record (changed_of_changes changes))
unfolding changes_record
changes_recorded changes legal rising fit =
    record { listed = record { each = changed_items changes legal; spelled = refl; storable = fit }; rising = rising_made changed_file (λ (file : ChangedFile). file.path) changes rising }

-- ---- the rule of a complete answer

module _ (contents : List (List ℕ)) where
  seen_kept : (files : List File) → HaveContents contents files → HaveKeptContents (map blob_row contents) (seen_of_files files)
  seen_kept [] have = tt
  seen_kept (file ∷ files) have = (kept_row file.entry.bytes contents have.0, seen_kept files have.1)

  now_kept : (now : Option (List ℕ)) → MatchOption now (Unit {0}) (IsAmong contents) → IfSome (option_map sha256 now) (λ digest. is_kept (map blob_row contents) digest ≡ true)
  now_kept None have = tt
  now_kept (Some bytes) have = kept_row bytes contents have

  new_kept : (changes : List Change) → HaveNewContents contents changes → HaveKeptNewContents (map blob_row contents) (changed_of_changes changes)
  new_kept [] have = tt
  new_kept (change ∷ changes) have = (now_kept change.now have.0, new_kept changes have.1)

seen_as_entry : (path : List ℕ) (files : List File) → is_some (entry_of path files) ≡ is_of_seen_file (seen_of_files files) path
seen_as_entry path [] = refl
seen_as_entry path (file ∷ files) =
    elim (bytes_eq path file.path) as (λ b. is_some (if b then Some file.entry else entry_of path files) ≡ (b || is_of_seen_file (seen_of_files files) path))
    [ true ↦ refl | false ↦ seen_as_entry path files ]

are_seen : (changes : List Change) (files : List File) → KeepToSeen changes files → AreSeen (changed_of_changes changes) (seen_of_files files)
are_seen [] files keep = tt
are_seen (change ∷ changes) files keep = (sym (seen_as_entry change.path files) ∙ keep.0, are_seen changes files keep.1)

pub keep_seen : (changes : List Change) (files : List File) → AreSeen (changed_of_changes changes) (seen_of_files files) → KeepToSeen changes files
keep_seen [] files seen = tt
keep_seen (change ∷ changes) files seen = (seen_as_entry change.path files ∙ seen.0, keep_seen changes files seen.1)

answer_rule : (contents : List (List ℕ)) (answer : KeptAnswer) → IsSoundAnswer answer → HasRecords contents answer → IsAnswerRow (map blob_row contents) (answer_row answer)
answer_rule contents answer sound have = record {
  words = answer.words;
  words_kept = kept_among (IsWordsRecord answer.words) (written_words answer) contents have.words (words_recorded answer.words sound.words_utf8 sound.words_fit);
  seen = seen_of_files answer.seen;
  seen_kept = kept_among (IsSeenRecord (seen_of_files answer.seen)) (written_seen answer) contents have.seen (seen_recorded answer.seen sound.seen_legal sound.seen_rise sound.seen_fits);
  seen_contents = seen_kept contents answer.seen have.seen_contents;
  output_kept = kept_row answer.output contents have.output;
  changed = changed_of_changes answer.changes;
  changes_kept =
      kept_among (IsChangesRecord (changed_of_changes answer.changes)) (written_changes answer) contents have.changes
      (changes_recorded answer.changes sound.changes_legal sound.changes_rise sound.changes_fit);
  new_contents = new_kept contents answer.changes have.new_contents;
  keeps_to_seen = are_seen answer.changes answer.seen sound.keeps_to_seen;
  status_known = record { code = answer.status; is = refl; within = sound.status_known };
}

-- answers that are complete stand in rows that obey the rule
pub answer_rows : (contents : List (List ℕ)) (answers : List KeptAnswer) → AllByRecursion IsSoundAnswer answers → HaveRecords contents answers
    → AllByRecursion (IsAnswerRow (map blob_row contents)) (map answer_row answers)
answer_rows contents [] sound have = tt
answer_rows contents (answer ∷ answers) sound have = (answer_rule contents answer sound.0 have.0, answer_rows contents answers sound.1 have.1)

-- ---- an answer that is read of its records

pub seen_rises : (files : List File) (bytes : List ℕ) → IsSeenRecord (seen_of_files files) bytes → IsRising files
seen_rises files bytes told = rising_back seen_file (λ (file : SeenFile). file.path) files told.rising

-- the bytes are the records of what the answer has
pub record AreRecords (answer : KeptAnswer) (words seen changes : List ℕ) : Type 0 where
  pub words_told : IsWordsRecord answer.words words
  pub seen_told : IsSeenRecord (seen_of_files answer.seen) seen
  pub changes_told : IsChangesRecord (changed_of_changes answer.changes) changes

pub records_written : (answer : KeptAnswer) (words seen changes : List ℕ) → AreRecords answer words seen changes → IsWritten answer words seen changes
unfolding words_record seen_record changes_record
records_written answer words seen changes told =
    record { words_written = told.words_told.spelled; seen_written = told.seen_told.listed.spelled; changes_written = told.changes_told.listed.spelled }

pub records_sound : (answer : KeptAnswer) (words seen changes : List ℕ) → AreRecords answer words seen changes → KeepToSeen answer.changes answer.seen → answer.status ≤ most_status
    → IsSoundAnswer answer
records_sound answer words seen changes told keep status =
    let written = records_written answer words seen changes told in
    record {
      words_utf8 = told.words_told.each;
      seen_legal = seen_paths answer.seen told.seen_told.listed.each;
      seen_rise = seen_rises answer.seen seen told.seen_told;
      changes_legal = changed_paths answer.changes told.changes_told.listed.each;
      changes_rise = rising_back changed_file (λ (file : ChangedFile). file.path) answer.changes told.changes_told.rising;
      keeps_to_seen = keep;
      status_known = status;
      words_fit = subst IsStorable written.words_written told.words_told.storable;
      seen_fits = subst IsStorable written.seen_written told.seen_told.listed.storable;
      changes_fit = subst IsStorable written.changes_written told.changes_told.listed.storable;
    }

abbrev row_with : List ℕ → List ℕ → List ℕ → List ℕ → ℤ → AnswerRow
row_with words seen output changes status = record { words = words; seen = seen; output = output; changes = changes; status = status }

same_row : (a b c d e f g h : List ℕ) (m n : ℤ) → a ≡ b → c ≡ d → e ≡ f → g ≡ h → m ≡ n → row_with a c e g m ≡ row_with b d f h n
same_row a b c d e f g h m n words seen output changes status = cc

-- so the row shows it
pub row_shown : (answer : KeptAnswer) (row : AnswerRow) (words seen changes : List ℕ) → IsWritten answer words seen changes → sha256 words ≡ row.words → sha256 seen ≡ row.seen
    → sha256 answer.output ≡ row.output
    → sha256 changes ≡ row.changes → pos answer.status ≡ row.status → answer_row answer ≡ row
row_shown answer row words seen changes written words_named seen_named output_named changes_named status =
    same_row (sha256 (written_words answer)) row.words (sha256 (written_seen answer)) row.seen (sha256 answer.output) row.output (sha256 (written_changes answer)) row.changes (pos answer.status)
    row.status
    (ap sha256 (sym written.words_written) ∙ words_named) (ap sha256 (sym written.seen_written) ∙ seen_named) output_named (ap sha256 (sym written.changes_written) ∙ changes_named) status

pub records_kept : (contents : List (List ℕ)) (answer : KeptAnswer) (words seen changes : List ℕ) → IsWritten answer words seen changes → IsAmong contents words → IsAmong contents seen
    → IsAmong contents answer.output → IsAmong contents changes
    → HaveContents contents answer.seen → HaveNewContents contents answer.changes → HasRecords contents answer
records_kept contents answer words seen changes written words_in seen_in output_in changes_in have have_new = record {
  words = subst (IsAmong contents) written.words_written words_in;
  seen = subst (IsAmong contents) written.seen_written seen_in;
  output = output_in;
  changes = subst (IsAmong contents) written.changes_written changes_in;
  seen_contents = have;
  new_contents = have_new;
}

-- where a change is of no file that was seen, no values of the records obey the rule
pub not_seen : (blobs : List BlobRow) (row : AnswerRow) (files : List File) (changes : List Change)
    → ((other : List SeenFile) → HasKept blobs row.seen (IsSeenRecord other) → other ≡ seen_of_files files)
    → ((other : List ChangedFile) → HasKept blobs row.changes (IsChangesRecord other) → other ≡ changed_of_changes changes) → ¬ KeepToSeen changes files → ¬ IsAnswerRow blobs row
not_seen blobs row files changes seen_only changes_only strays rule =
    let seen = subst (AreSeen rule.changed) (seen_only rule.seen rule.seen_kept) rule.keeps_to_seen in
    strays (keep_seen changes files (subst (λ (changed : List ChangedFile). AreSeen changed (seen_of_files files)) (changes_only rule.changed rule.changes_kept) seen))
