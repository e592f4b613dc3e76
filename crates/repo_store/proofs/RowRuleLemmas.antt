-- The rules of a store speak of its rows alone, and not of their order.
use Rattle.std.proofs.Common.{◌≡◌, ℕ, ◌+◌, ℤ, pos, true, List, [], ◌∷◌, ◌++◌, map, length, Option, None, Some, IfSome, IsPermutation, refl, sym, ap, ap₂, subst, ◌∙◌, arith}
use Rattle.std.specs.List.{AllByRecursion}
use Rattle.std.specs.Str.{bytes_eq}
use Rattle.std.proofs.lemmas.List.Elements.{recursion_from_All, All-from_recursion}
use Rattle.std.proofs.lemmas.List.Sorted.{length_permutation, All-permutation, Contains-permutation, IsPermutation-sym, IsPermutation-trans, IsPermutation-map, list_any-IsPermutation, sum_by-IsPermutation}
use Rattle.sqlite_value.specs.declared.value.Value.{Value}
use Rattle.sqlite_value.specs.declared.value.Value.TheVariants.{Int, Text, Blob}
use Rattle.sqlite_value.specs.Order.{Row, column}
use Rattle.sqlite.specs.Effect.{Database}
use Rattle.answer_records.specs.declared.changed_file.ChangedFile.{ChangedFile}
use Rattle.answer_records.specs.declared.seen_file.SeenFile.{SeenFile}
use Rattle.answer_records.specs.Reading.{IsChangesRecord, IsSeenRecord, IsWordsRecord}
use Rattle.store_tables.specs.declared.rows.MetaRow.{MetaRow}
use Rattle.store_tables.specs.declared.rows.BlobRow.{BlobRow}
use Rattle.store_tables.specs.declared.rows.StagedRow.{StagedRow}
use Rattle.store_tables.specs.declared.rows.FixRow.{FixRow}
use Rattle.store_tables.specs.declared.rows.CommitRow.{CommitRow}
use Rattle.store_tables.specs.declared.rows.EntryRow.{EntryRow}
use Rattle.store_tables.specs.declared.rows.AnswerRow.{AnswerRow}
use Rattle.store_tables.specs.declared.rows.UseRow.{UseRow}
use Rattle.store_tables.specs.Uses.{use_cells}
use Rattle.sqlite_schema.specs.declared.schema.Schema.{Schema}
use Rattle.store_tables.specs.Tables.{Tables, HoldsIn, Stored, meta_cells, blob_cells, staged_cells, fix_cells, commit_cells, entry_cells, answer_cells}
use Rattle.repo_store.specs.FromRows.{IsSame}
use Rattle.repo_store.specs.RowRules.{AreCommitRows, AreStagedRows, HasKept, HaveKeptContents, HaveKeptNewContents, IsAnswerRow, IsBlobRow, IsEntryRow, IsFileRow, IsFixRow, IsMarked, IsNumbered, IsStagedRow, AreStoreRows, is_kept, commit_number_in, numbers_from}

-- ---- rows from what SQL shows of them

abbrev text_in : Value → List ℕ
text_in (Text text) = text
text_in _ = []

abbrev blob_in : Value → List ℕ
blob_in (Blob bytes) = bytes
blob_in _ = []

abbrev blob_if_any : Value → Option (List ℕ)
blob_if_any (Blob bytes) = Some bytes
blob_if_any _ = None

abbrev int_in : Value → ℤ
int_in (Int n) = n
int_in _ = pos 0

module _ {X : Type 0} (cells : X → Row) (from : Row → X) (back : (x : X) → from (cells x) ≡ x) where
  all_back : (xs : List X) → map from (map cells xs) ≡ xs
  all_back [] = refl
  all_back (x ∷ xs) = ap₂ (λ (y : X) (ys : List X). y ∷ ys) (back x) (all_back xs)

  same_stored : (places : List ℕ) (xs ys : List X) (rows : List Row) → Stored cells places xs rows → Stored cells places ys rows → IsPermutation xs ys
  same_stored places xs ys rows one two =
      let shown = IsPermutation-trans _ _ _ one (IsPermutation-sym _ _ two) in
      let read = IsPermutation-map from (map cells xs) (map cells ys) shown in
      subst (λ (l : List X). IsPermutation l ys) (all_back xs) (subst (IsPermutation (map from (map cells xs))) (all_back ys) read)

pub same_meta : (xs ys : List MetaRow) (rows : List Row) → Stored meta_cells (1 ∷ 2 ∷ []) xs rows → Stored meta_cells (1 ∷ 2 ∷ []) ys rows → IsPermutation xs ys
same_meta xs ys rows one two = same_stored meta_cells (λ row. record { name = text_in (column row 0); value = int_in (column row 1) }) (λ x. refl) (1 ∷ 2 ∷ []) xs ys rows one two

pub same_uses : (xs ys : List UseRow) (rows : List Row) → Stored use_cells (1 ∷ 2 ∷ 3 ∷ []) xs rows → Stored use_cells (1 ∷ 2 ∷ 3 ∷ []) ys rows → IsPermutation xs ys
same_uses xs ys rows one two =
    same_stored use_cells (λ row. record { words = blob_in (column row 0); seen = blob_in (column row 1); tick = int_in (column row 2) }) (λ x. refl) (1 ∷ 2 ∷ 3 ∷ []) xs ys rows one two

-- a database holds one set of rows in each table
pub holds_one : {listed other : Schema} (db : Database) (t u : Tables) → HoldsIn listed db t → HoldsIn other db u → IsSame t u
holds_one db t u a b = record {
  meta = same_meta t.meta u.meta (db.trees 0) a.meta b.meta;
  blobs = same_stored blob_cells (λ row. record { digest = blob_in (column row 0); bytes = blob_in (column row 1) }) (λ x. refl) (1 ∷ 2 ∷ []) t.blobs u.blobs (db.trees 2) a.blobs b.blobs;
  staged =
      same_stored staged_cells (λ row. record { path = text_in (column row 0); mode = int_in (column row 1); digest = blob_in (column row 2) }) (λ x. refl) (1 ∷ 2 ∷ 3 ∷ []) t.staged u.staged
      (db.trees 4) a.staged b.staged;
  fixes =
      same_stored fix_cells (λ row. record { path = text_in (column row 0); gone = int_in (column row 1); digest = blob_if_any (column row 2) }) fix_back (1 ∷ 2 ∷ 3 ∷ []) t.fixes u.fixes (db.trees 6)
      a.fixes b.fixes;
  commits = same_stored commit_cells (λ row. record { n = int_in (column row 0); message = blob_in (column row 1) }) (λ x. refl) (0 ∷ 2 ∷ []) t.commits u.commits (db.trees 8) a.commits b.commits;
  entries =
      same_stored entry_cells (λ row. record { n = int_in (column row 0); path = text_in (column row 1); mode = int_in (column row 2); digest = blob_in (column row 3) }) (λ x. refl)
      (1 ∷ 2 ∷ 3 ∷ 4 ∷ []) t.entries u.entries (db.trees 9) a.entries b.entries;
  answers =
      same_stored answer_cells (λ row. record {
        words = blob_in (column row 0);
        seen = blob_in (column row 1);
        output = blob_in (column row 2);
        changes = blob_in (column row 3);
        status = int_in
            (column row 4);
      }) (λ x. refl) (1 ∷ 2 ∷ 3 ∷ 4 ∷ 5 ∷ []) t.answers u.answers (db.trees 11) a.answers b.answers;
}
  where
    fix_back : (x : FixRow) → (let row = fix_cells x in let made : FixRow = record { path = text_in (column row 0); gone = int_in (column row 1); digest = blob_if_any (column row 2) } in made) ≡ x
    fix_back x = go x.path x.gone x.digest
      where
        go : (path : List ℕ) (gone : ℤ) (digest : Option (List ℕ))
            → (let made : FixRow = record { path = path; gone = gone; digest = blob_if_any (column (fix_cells (record { path = path; gone = gone; digest = digest })) 2) } in made)
            ≡ record { path = path; gone = gone; digest = digest }
        go path gone None = refl
        go path gone (Some bytes) = refl

-- ---- the rules, of rows in another order

pub all_same : {X : Type 0} (P : X → Type 0) (xs ys : List X) → IsPermutation xs ys → AllByRecursion P xs → AllByRecursion P ys
all_same P xs ys same all = recursion_from_All P ys (All-permutation P xs ys same (All-from_recursion P xs all))

pub all_weaker : {X : Type 0} (P Q : X → Type 0) (xs : List X) → ((x : X) → P x → Q x) → AllByRecursion P xs → AllByRecursion Q xs
all_weaker P Q [] f all = tt
all_weaker P Q (x ∷ xs) f all = (f x all.0, all_weaker P Q xs f all.1)

pub all_both : {X : Type 0} (P : X → Type 0) (xs ys : List X) → AllByRecursion P xs → AllByRecursion P ys → AllByRecursion P (xs ++ ys)
all_both P [] ys one two = two
all_both P (x ∷ xs) ys one two = (one.0, all_both P xs ys one.1 two)

numbers_same : (n : ℕ) (xs ys : List CommitRow) → length xs ≡ length ys → numbers_from n xs ≡ numbers_from n ys
numbers_same n [] [] same = refl
numbers_same n [] (y ∷ ys) same = absurd (omega arith)
numbers_same n (x ∷ xs) [] same = absurd (omega arith)
numbers_same n (x ∷ xs) (y ∷ ys) same = ap (λ (l : List ℤ). pos n ∷ l) (numbers_same (n + 1) xs ys (omega arith))

module _ (a b : List BlobRow) (same : IsPermutation a b) where
  kept_same : (digest : List ℕ) → is_kept a digest ≡ true → is_kept b digest ≡ true
  kept_same digest h = sym (list_any-IsPermutation (λ (blob : BlobRow). bytes_eq digest blob.digest) a b same) ∙ h

  file_same : (path : List ℕ) (mode : ℤ) (digest : List ℕ) → IsFileRow a path mode digest → IsFileRow b path mode digest
  file_same path mode digest h = record { path_legal = h.path_legal; mode_known = h.mode_known; content_kept = kept_same digest h.content_kept }

  marked_same : (gone : ℤ) (digest : Option (List ℕ)) → IsMarked a gone digest → IsMarked b gone digest
  marked_same gone None h = h
  marked_same gone (Some digest) h = (h.0, kept_same digest h.1)

  staged_same : (xs ys : List StagedRow) → IsPermutation xs ys → AreStagedRows a xs → AreStagedRows b ys
  staged_same xs ys moved h = record {
    files = all_same (IsStagedRow b) xs ys moved (all_weaker (IsStagedRow a) (IsStagedRow b) xs (λ row one. file_same row.path row.mode row.digest one) h.files);
    files_fit = let fit = h.files_fit in let count = length_permutation xs ys moved in omega arith;
    paths_fit = let fit = h.paths_fit in let total = sum_by-IsPermutation (λ (row : StagedRow). length row.path) xs ys moved in omega arith;
  }

  fix_same : (xs ys : List StagedRow) → IsPermutation xs ys → (row : FixRow) → IsFixRow a xs row → IsFixRow b ys row
  fix_same xs ys moved row h = record {
    path_legal = h.path_legal;
    marked = marked_same row.gone row.digest h.marked;
    file_staged = sym (list_any-IsPermutation (λ (file : StagedRow). bytes_eq row.path file.path) xs ys moved) ∙ h.file_staged;
  }

  entry_same : (m n : ℕ) → m ≡ n → (row : EntryRow) → IsEntryRow a m row → IsEntryRow b n row
  entry_same m n count row h = record { owned = subst (λ (k : ℕ). IsNumbered k row.n) count h.owned; file = file_same row.path row.mode row.digest h.file }

  has_kept_same : (digest : List ℕ) (AreSuch : List ℕ → Type 0) → HasKept a digest AreSuch → HasKept b digest AreSuch
  has_kept_same digest AreSuch h = record { blob = h.blob; kept = Contains-permutation a b h.blob same h.kept; named = h.named; such = h.such }

  seen_contents_same : (seen : List SeenFile) → HaveKeptContents a seen → HaveKeptContents b seen
  seen_contents_same seen all = all_weaker _ _ seen (λ file one. kept_same file.digest one) all

  now_same : (digest : Option (List ℕ)) → IfSome digest (λ digest. is_kept a digest ≡ true) → IfSome digest (λ digest. is_kept b digest ≡ true)
  now_same None h = h
  now_same (Some digest) h = kept_same digest h

  new_contents_same : (changed : List ChangedFile) → HaveKeptNewContents a changed → HaveKeptNewContents b changed
  new_contents_same changed all = all_weaker _ _ changed (λ file one. now_same file.digest one) all

  answer_same : (row : AnswerRow) → IsAnswerRow a row → IsAnswerRow b row
  answer_same row h = record {
    words = h.words;
    words_kept = has_kept_same row.words (IsWordsRecord h.words) h.words_kept;
    seen = h.seen;
    seen_kept = has_kept_same row.seen (IsSeenRecord h.seen) h.seen_kept;
    seen_contents = seen_contents_same h.seen h.seen_contents;
    output_kept = kept_same row.output h.output_kept;
    changed = h.changed;
    changes_kept = has_kept_same row.changes (IsChangesRecord h.changed) h.changes_kept;
    new_contents = new_contents_same h.changed h.new_contents;
    keeps_to_seen = h.keeps_to_seen;
    status_known = h.status_known;
  }

commits_same : (xs ys : List CommitRow) → IsPermutation xs ys → AreCommitRows xs → AreCommitRows ys
commits_same xs ys moved h =
    let count = length_permutation xs ys moved in
    record {
      numbered =
          subst (IsPermutation (map commit_number_in ys)) (numbers_same 1 xs ys (omega arith))
          (IsPermutation-trans _ _ _ (IsPermutation-map commit_number_in ys xs (IsPermutation-sym xs ys moved)) h.numbered);
      few = let few = h.few in omega arith;
      messages_small = all_same _ xs ys moved h.messages_small;
    }

-- what holds of rows, holds of them in another order
pub obeys_same : (t u : Tables) → IsSame t u → AreStoreRows t → AreStoreRows u
obeys_same t u same obeys = record {
  blobs = all_same IsBlobRow t.blobs u.blobs same.blobs obeys.blobs;
  staged = staged_same t.blobs u.blobs same.blobs t.staged u.staged same.staged obeys.staged;
  fixes =
      all_same (IsFixRow u.blobs u.staged) t.fixes u.fixes same.fixes (all_weaker (IsFixRow t.blobs t.staged) (IsFixRow u.blobs u.staged) t.fixes
      (fix_same t.blobs u.blobs same.blobs t.staged u.staged same.staged) obeys.fixes);
  commits = commits_same t.commits u.commits same.commits obeys.commits;
  entries =
      let count = length_permutation t.commits u.commits same.commits in
      all_same (IsEntryRow u.blobs (length u.commits)) t.entries u.entries same.entries
      (all_weaker (IsEntryRow t.blobs (length t.commits)) (IsEntryRow u.blobs (length u.commits)) t.entries (entry_same t.blobs u.blobs same.blobs (length t.commits) (length u.commits) (omega arith))
      obeys.entries);
  answers = all_same (IsAnswerRow u.blobs) t.answers u.answers same.answers (all_weaker (IsAnswerRow t.blobs) (IsAnswerRow u.blobs) t.answers (answer_same t.blobs u.blobs same.blobs) obeys.answers);
}
