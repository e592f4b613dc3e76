-- Each change keeps the rules that the rows of a store obey.
use Rattle.std.proofs.Common.{◌≡◌, ℕ, suc, ◌+◌, ◌≤◌, pos, true, false, List, [], ◌∷◌, ◌++◌, map, length, if◌then◌else◌, is_some, Option, None, Some, MatchOption, ◌⊎◌, inl, inr, refl, sym, ap, subst, ◌∙◌, arith}
use Rattle.std.specs.declared.cmp.Ordering.TheVariants.{Less, Equal, Greater}
use Rattle.std.specs.Cmp.Lexicographic.{bytes_decides}
use Rattle.std.specs.List.{AllByRecursion}
use Rattle.std.specs.Str.{bytes_eq}
use Rattle.std.proofs.lemmas.Bool.{cases_lt}
use Rattle.std.proofs.lemmas.List.{length-map}
use Rattle.std.proofs.lemmas.List.Folds.{fold-map}
use Rattle.sha2.specs.Sha256.{sha256}
use Rattle.hook_base.specs.declared.file.File.{File}
use Rattle.hook_base.specs.declared.file.FileEntry.{FileEntry}
use Rattle.hook_base.specs.declared.file.Mode.{Mode}
use Rattle.hook_base.specs.declared.file.Mode.TheVariants.{Plain, Executable}
use Rattle.hook_base.specs.declared.change.Change.{Change}
use Rattle.hook_base.specs.Rising.{path_cmp}
use Rattle.hook_base.specs.Trees.{apply_at, apply_changes, entry_of, put_before, put_row, remove_file, rewrite_file, with_bytes}
use Rattle.store_tables.specs.declared.rows.BlobRow.{BlobRow}
use Rattle.store_tables.specs.declared.rows.CommitRow.{CommitRow}
use Rattle.store_tables.specs.declared.rows.EntryRow.{EntryRow}
use Rattle.repo_store.specs.Complete.{HaveContents, HaveNewContents, IsAmong, IsComplete}
use Rattle.repo_store.specs.Contents.{has_content, with_content, with_new, with_changes}
use Rattle.repo_store.specs.Index.{Key}
use Rattle.repo_store.specs.Kept.{HasLarge, Kept, accepting, committing, forgetting, keeping, limiting, nothing_kept, setting, staging, unstaging}
use Rattle.store_faults.specs.Limits.{IsSmall, most_content_bytes, most_tree_path_bytes}
use Rattle.repo_store.specs.Repository.{Commit, staged_changes}
use Rattle.repo_store.specs.Standing.{bringing}
use Rattle.repo_store.specs.Rows.{blob_row, commit_rows, entry_row, entry_rows, fix_at, fix_row, mode_number, staged_row, tables_of}
use Rattle.repo_store.specs.RowRules.{IsBlobRow, IsEntryRow, IsFileRow, IsFixRow, IsMarked, IsPathText, IsStagedRow, AreStoreRows, is_staged}
use Rattle.repo_store.proofs.AnswerRowLemmas.{answer_rows, kept_row}
use Rattle.repo_store.proofs.ChangeLemmas.{large_among}
use Rattle.repo_store.proofs.CompleteLemmas.{complete_empty}
use Rattle.repo_store.proofs.FromRowsLemmas.{AreNumbered, all_pushed, commits_obey, fix_path, fixes_staged, length_commit_rows, staged_as_entry}
use Rattle.repo_store.proofs.SoundLemmas.{AreStaged, all_kept}
use Rattle.repo_store.proofs.RowRuleLemmas.{all_both}

abbrev pub ArePaths : List File → Type 0
ArePaths files = AllByRecursion (λ (file : File). IsPathText file.path) files

-- What the rules ask of the lists, beyond that they are one complete repository.
pub record ObeysRules (kept : Kept) : Type 0 where
  pub staged_legal : ArePaths kept.repo.staged
  pub trees_legal : AllByRecursion (λ (commit : Commit). ArePaths commit.tree) kept.repo.history
  pub fixes_staged : AreStaged kept.repo.fixes kept.repo.staged
  pub messages_small : AllByRecursion (λ (commit : Commit). IsSmall commit.message) kept.repo.history
  pub contents_small : AllByRecursion IsSmall kept.contents

-- ---- from the rows

staged_paths : (blobs : List BlobRow) (files : List File) → AllByRecursion (IsStagedRow blobs) (map staged_row files) → ArePaths files
staged_paths blobs [] all = tt
staged_paths blobs (file ∷ files) all = (all.0.path_legal, staged_paths blobs files all.1)

module _ (blobs : List BlobRow) (commits : ℕ) where
  entry_paths : (n : ℕ) (files : List File) (more : List EntryRow) → AllByRecursion (IsEntryRow blobs commits) (map (entry_row n) files ++ more)
      → ArePaths files × AllByRecursion (IsEntryRow blobs commits) more
  entry_paths n [] more all = (tt, all)
  entry_paths n (file ∷ files) more all = let rest = entry_paths n files more all.1 in ((all.0.file.path_legal, rest.0), rest.1)

  tree_paths : (n : ℕ) (history : List Commit) → AllByRecursion (IsEntryRow blobs commits) (entry_rows n history) → AllByRecursion (λ (commit : Commit). ArePaths commit.tree) history
  tree_paths n [] all = tt
  tree_paths n (commit ∷ history) all = let it = entry_paths n commit.tree (entry_rows (n + 1) history) all in (it.0, tree_paths (n + 1) history it.1)

row_messages : (n : ℕ) (history : List Commit) → AllByRecursion (λ (row : CommitRow). IsSmall row.message) (commit_rows n history)
    → AllByRecursion (λ (commit : Commit). IsSmall commit.message) history
row_messages n [] all = tt
row_messages n (commit ∷ history) all = (all.0, row_messages (n + 1) history all.1)

row_contents : (contents : List (List ℕ)) → AllByRecursion IsBlobRow (map blob_row contents) → AllByRecursion IsSmall contents
row_contents [] all = tt
row_contents (bytes ∷ contents) all = (all.0.small, row_contents contents all.1)

pub rules_in : (kept : Kept) → AreStoreRows (tables_of kept) → ObeysRules kept
rules_in kept obeys =
    let blobs = map blob_row kept.contents in
    record {
      staged_legal = staged_paths blobs kept.repo.staged obeys.staged.files;
      trees_legal = tree_paths blobs (length (commit_rows 1 kept.repo.history)) 1 kept.repo.history obeys.entries;
      fixes_staged = fixes_staged kept.repo.fixes kept.repo.staged blobs obeys.fixes;
      messages_small = row_messages 1 kept.repo.history obeys.commits.messages_small;
      contents_small = row_contents kept.contents obeys.blobs;
    }

-- ---- to the rows

known_mode : (mode : Mode) → (pos (mode_number mode) ≡ pos 0) ⊎ (pos (mode_number mode) ≡ pos 1)
known_mode Plain = inl refl
known_mode Executable = inr refl

module _ (contents : List (List ℕ)) where
  abbrev blobs : List BlobRow
  blobs = map blob_row contents

  blob_rows : (some : List (List ℕ)) → AllByRecursion IsSmall some → AllByRecursion IsBlobRow (map blob_row some)
  blob_rows [] small = tt
  blob_rows (bytes ∷ some) small = (record { named = refl; small = small.0 }, blob_rows some small.1)

  file_row : (file : File) → IsPathText file.path → IsAmong contents file.entry.bytes → IsFileRow blobs file.path (pos (mode_number file.entry.mode)) (sha256 file.entry.bytes)
  file_row file legal here = record { path_legal = legal; mode_known = known_mode file.entry.mode; content_kept = kept_row file.entry.bytes contents here }

  staged_rows : (files : List File) → ArePaths files → HaveContents contents files → AllByRecursion (IsStagedRow blobs) (map staged_row files)
  staged_rows [] legal have = tt
  staged_rows (file ∷ files) legal have = (file_row file legal.0 have.0, staged_rows files legal.1 have.1)

  marked_row : (path : List ℕ) (now : Option (List ℕ)) → MatchOption now (Unit {0}) (IsAmong contents) → IsMarked blobs (fix_at path now).gone (fix_at path now).digest
  marked_row path None here = refl
  marked_row path (Some bytes) here = (refl, kept_row bytes contents here)

  -- a path that is staged is legal
  legal_at : (path : List ℕ) (files : List File) → ArePaths files → is_some (entry_of path files) ≡ true → IsPathText path
  legal_at path [] legal there = absurd (let never : false ≡ true = there in cc)
  legal_at path (file ∷ files) legal there =
      elim (bytes_eq path file.path) as (λ b. bytes_eq path file.path ≡ b → is_some (if b then Some file.entry else entry_of path files) ≡ true → IsPathText path) [
        | true ↦ λ e _. subst IsPathText (sym ((bytes_decides path file.path).0 e)) legal.0
        | false ↦ λ _ later. legal_at path files legal.1 later
      ] refl there

  fix_rows : (files : List File) (fixes : List Change) → ArePaths files → AreStaged fixes files → HaveNewContents contents fixes
      → AllByRecursion (IsFixRow blobs (map staged_row files)) (map fix_row fixes)
  fix_rows files [] legal staged have = tt
  fix_rows files (fix ∷ fixes) legal staged have = (
    record {
      path_legal = subst IsPathText (sym (fix_path fix.path fix.now)) (legal_at fix.path files legal staged.0);
      marked = marked_row fix.path fix.now have.0;
      file_staged = ap (is_staged (map staged_row files)) (fix_path fix.path fix.now) ∙ sym (staged_as_entry fix.path files) ∙ staged.0;
    },
    fix_rows files fixes legal staged.1 have.1,
  )

  module _ (commits : ℕ) where
    file_entries : (at : ℕ) (files : List File) → at + 1 ≤ commits → ArePaths files → HaveContents contents files → AllByRecursion (IsEntryRow blobs commits) (map (entry_row (at + 1)) files)
    file_entries at [] within legal have = tt
    file_entries at (file ∷ files) within legal have =
        (record { owned = record { at = at; is = refl; within = within }; file = file_row file legal.0 have.0 }, file_entries at files within legal.1 have.1)

    tree_entries : (at : ℕ) (history : List Commit) → at + length history ≤ commits → AllByRecursion (λ (commit : Commit). ArePaths commit.tree) history
        → AllByRecursion (λ (commit : Commit). HaveContents contents commit.tree) history
        → AllByRecursion (IsEntryRow blobs commits) (entry_rows (at + 1) history)
    tree_entries at [] within legal have = tt
    tree_entries at (commit ∷ history) within legal have =
        all_both (IsEntryRow blobs commits) (map (entry_row (at + 1)) commit.tree) (entry_rows ((at + 1) + 1) history) (file_entries at commit.tree (omega arith) legal.0 have.0)
        (tree_entries (at + 1) history (omega arith) legal.1 have.1)

numbered_rows : (n : ℕ) (history : List Commit) → AllByRecursion (λ (commit : Commit). IsSmall commit.message) history → AreNumbered n (commit_rows n history)
numbered_rows n [] small = tt
numbered_rows n (commit ∷ history) small = ((refl, small.0), numbered_rows (n + 1) history small.1)

-- a complete repository that obeys the rules stands in rows that obey them
pub obeys_by : (kept : Kept) → IsComplete kept → ObeysRules kept → AreStoreRows (tables_of kept)
obeys_by kept complete rules =
    let staged = kept.repo.staged in
    let history = kept.repo.history in
    let count = length_commit_rows 1 history in
    record {
      blobs = blob_rows kept.contents kept.contents rules.contents_small;
      staged = record {
        files = staged_rows kept.contents staged rules.staged_legal complete.staged;
        files_fit = let fit = complete.sound.staged_fit.files_fit in omega (arith, length-map staged staged_row);
        paths_fit = subst (λ (n : ℕ). n ≤ most_tree_path_bytes) (sym (fold-map (λ a row. a + length row.path) staged_row 0 staged)) complete.sound.staged_fit.paths_fit;
      };
      fixes = fix_rows kept.contents staged kept.repo.fixes rules.staged_legal rules.fixes_staged complete.fixes;
      commits = commits_obey (commit_rows 1 history) (numbered_rows 1 history rules.messages_small) (let few = complete.sound.numbered in omega arith);
      entries = tree_entries kept.contents (length (commit_rows 1 history)) 0 history (omega arith) rules.trees_legal complete.trees;
      answers = answer_rows kept.contents kept.answers complete.sound_answers complete.answers;
    }

-- ---- what the paths are after a change of the files

paths_put : (new : File) (rows : List File) → IsPathText new.path → ArePaths rows → ArePaths (put_row new rows)
paths_put new [] legal all = (legal, tt)
paths_put new (row ∷ rows) legal all =
    elim (path_cmp new.path row.path) as (λ o. ArePaths (put_before o new row rows (put_row new rows)))
    [ Less ↦ (legal, all) | Equal ↦ (legal, all.1) | Greater ↦ (all.0, paths_put new rows legal all.1) ]

paths_removed : (path : List ℕ) (rows : List File) → ArePaths rows → ArePaths (remove_file path rows)
paths_removed path [] all = tt
paths_removed path (row ∷ rows) all =
    elim (bytes_eq path row.path) as (λ b. ArePaths (if b then remove_file path rows else row ∷ remove_file path rows))
    [ true ↦ paths_removed path rows all.1 | false ↦ (all.0, paths_removed path rows all.1) ]

paths_rewritten : (path bytes : List ℕ) (rows : List File) → ArePaths rows → ArePaths (rewrite_file path bytes rows)
paths_rewritten path bytes [] all = tt
paths_rewritten path bytes (row ∷ rows) all =
    (elim (bytes_eq path row.path) as (λ b. IsPathText (if b then with_bytes bytes row else row).path) [ true ↦ all.0 | false ↦ all.0 ], paths_rewritten path bytes rows all.1)

paths_changed : (path : List ℕ) (now : Option (List ℕ)) (rows : List File) → ArePaths rows → ArePaths (apply_at path now rows)
paths_changed path None rows all = paths_removed path rows all
paths_changed path (Some bytes) rows all = paths_rewritten path bytes rows all

paths_applied : (changes : List Change) (rows : List File) → ArePaths rows → ArePaths (apply_changes changes rows)
paths_applied [] rows all = all
paths_applied (change ∷ changes) rows all = paths_applied changes (apply_at change.path change.now rows) (paths_changed change.path change.now rows all)

-- ---- how large the contents are after more of them

pub small_with : (bytes : List ℕ) (contents : List (List ℕ)) → IsSmall bytes → AllByRecursion IsSmall contents → AllByRecursion IsSmall (with_content bytes contents)
small_with bytes contents small all =
    elim (has_content bytes contents) as (λ b. AllByRecursion IsSmall (if b then contents else contents ++ bytes ∷ [])) [ true ↦ all | false ↦ all_pushed IsSmall contents bytes all small ]

not_large : (bytes : List ℕ) → ¬ ¬ IsSmall bytes → IsSmall bytes
not_large bytes none = elim (cases_lt most_content_bytes (length bytes)) [ inl large ↦ absurd (none (λ small. absurd (omega arith))) | inr small ↦ small ]

small_new : (now : Option (List ℕ)) (contents : List (List ℕ)) → ¬ MatchOption now ⊥ (λ bytes. ¬ IsSmall bytes) → AllByRecursion IsSmall contents → AllByRecursion IsSmall (with_new now contents)
small_new None contents none all = all
small_new (Some bytes) contents none all = small_with bytes contents (not_large bytes none) all

small_all : (changes : List Change) (contents : List (List ℕ)) → ¬ HasLarge changes → AllByRecursion IsSmall contents → AllByRecursion IsSmall (with_changes changes contents)
small_all [] contents none all = all
small_all (change ∷ changes) contents none all =
    small_all changes (with_new change.now contents) (λ (later : HasLarge changes). none (suc later.0, later.1, let within = later.2 in omega arith, later.3, later.4))
    (small_new change.now contents (λ large. none (large_among [] change changes (change ∷ changes) refl large)) all)

-- ---- the calls

pub obeys_empty : AreStoreRows (tables_of nothing_kept)
obeys_empty = obeys_by nothing_kept complete_empty (record { staged_legal = tt; trees_legal = tt; fixes_staged = tt; messages_small = tt; contents_small = tt })

module _ (kept : Kept) (obeys : AreStoreRows (tables_of kept)) where
  rules : ObeysRules kept
  rules = rules_in kept obeys

  abbrev After : Kept → Type 0
  After after = IsComplete after → AreStoreRows (tables_of after)

  pub obeys_staged : (path : List ℕ) (entry : FileEntry) → IsPathText path → IsSmall entry.bytes → After (staging path entry kept)
  obeys_staged path entry legal small complete =
      obeys_by (staging path entry kept) complete (record {
        staged_legal = paths_put (record { path = path; entry = entry }) kept.repo.staged legal rules.staged_legal;
        trees_legal = rules.trees_legal;
        fixes_staged = tt;
        messages_small = rules.messages_small;
        contents_small = small_with entry.bytes kept.contents small rules.contents_small;
      })

  pub obeys_unstaged : (path : List ℕ) → After (unstaging path kept)
  obeys_unstaged path complete =
      obeys_by (unstaging path kept) complete (record {
        staged_legal = paths_removed path kept.repo.staged rules.staged_legal;
        trees_legal = rules.trees_legal;
        fixes_staged = tt;
        messages_small = rules.messages_small;
        contents_small = rules.contents_small;
      })

  pub obeys_kept : (bytes : List ℕ) → IsSmall bytes → After (keeping bytes kept)
  obeys_kept bytes small complete =
      obeys_by (keeping bytes kept) complete (record {
        staged_legal = rules.staged_legal;
        trees_legal = rules.trees_legal;
        fixes_staged = rules.fixes_staged;
        messages_small = rules.messages_small;
        contents_small = small_with bytes kept.contents small rules.contents_small;
      })

  pub obeys_committed : (message : List ℕ) → IsSmall message → After (committing message kept)
  obeys_committed message small complete =
      let commit : Commit = record { message = message; tree = kept.repo.staged } in
      obeys_by (committing message kept) complete (record {
        staged_legal = rules.staged_legal;
        trees_legal = all_pushed (λ (c : Commit). ArePaths c.tree) kept.repo.history commit rules.trees_legal rules.staged_legal;
        fixes_staged = tt;
        messages_small = all_pushed (λ (c : Commit). IsSmall c.message) kept.repo.history commit rules.messages_small small;
        contents_small = rules.contents_small;
      })

  pub obeys_forgotten : After (forgetting kept)
  obeys_forgotten complete =
      obeys_by (forgetting kept) complete (record {
        staged_legal = rules.staged_legal;
        trees_legal = rules.trees_legal;
        fixes_staged = rules.fixes_staged;
        messages_small = rules.messages_small;
        contents_small = rules.contents_small;
      })

  pub obeys_limited : (limit : ℕ) → After (limiting limit kept)
  obeys_limited limit complete =
      obeys_by (limiting limit kept) complete (record {
        staged_legal = rules.staged_legal;
        trees_legal = rules.trees_legal;
        fixes_staged = rules.fixes_staged;
        messages_small = rules.messages_small;
        contents_small = rules.contents_small;
      })

  pub obeys_brought : (key : Key) → After (bringing key kept)
  obeys_brought key complete =
      obeys_by (bringing key kept) complete (record {
        staged_legal = rules.staged_legal;
        trees_legal = rules.trees_legal;
        fixes_staged = rules.fixes_staged;
        messages_small = rules.messages_small;
        contents_small = rules.contents_small;
      })

  pub obeys_accepted : After (accepting kept)
  obeys_accepted complete =
      obeys_by (accepting kept) complete (record {
        staged_legal = paths_applied kept.repo.fixes kept.repo.staged rules.staged_legal;
        trees_legal = rules.trees_legal;
        fixes_staged = tt;
        messages_small = rules.messages_small;
        contents_small = rules.contents_small;
      })

  pub obeys_set : (changes : List Change) → ¬ HasLarge (staged_changes changes kept.repo.staged) → After (setting changes kept)
  obeys_set changes none complete =
      obeys_by (setting changes kept) complete (record {
        staged_legal = rules.staged_legal;
        trees_legal = rules.trees_legal;
        fixes_staged = all_kept (λ (change : Change). is_some (entry_of change.path kept.repo.staged)) changes;
        messages_small = rules.messages_small;
        contents_small = small_all (staged_changes changes kept.repo.staged) kept.contents none rules.contents_small;
      })
