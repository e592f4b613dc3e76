-- What the calls make of what is kept, in the tables.
use Rattle.std.proofs.Common.{◌≡◌, ℕ, true, false, List, [], ◌∷◌, ◌++◌, map, filter, length, take, drop, not, inl, inr, if◌then◌else◌, IsPermutation, sym, ap, ap₂, subst, ◌∙◌, arith, append-nil, append_assoc, ◌+◌, pos, refl}
use Rattle.std.specs.Str.{bytes_eq}
use Rattle.std.proofs.lemmas.List.{map-append}
use Rattle.std.proofs.lemmas.List.Sorted.{IsPermutation-refl, IsPermutation-cons, IsPermutation-trans, IsPermutation-map, IsPermutation-middle, IsPermutation-sym, IsPermutation-append_comm, IsPermutation-to_front}
use lib.Seq.{take-length, take-append_seam}
use lib.ListN.{take-append-drop}
use Rattle.hook_base.specs.declared.file.File.{File}
use Rattle.hook_base.specs.Rising.{IsBelowAll}
use Rattle.hook_base.specs.RisingLemmas.{path_cases, path_itself, bytes_same, above_differs, greater_from_below, below_all_later}
use Rattle.hook_base.specs.Trees.{IsRising, path_of, put_row, remove_file}
use Rattle.hook_base.specs.TreeLemmas.{remove_file-later}
use Rattle.store_tables.specs.declared.rows.StagedRow.{StagedRow}
use Rattle.store_tables.specs.declared.rows.CommitRow.{CommitRow}
use Rattle.store_tables.specs.declared.rows.EntryRow.{EntryRow}
use Rattle.store_tables.specs.Tables as tables
use Rattle.store_tables.specs.Tables.{Tables, without_fixes}
use Rattle.repo_store.specs.Contents.{has_content, with_content, with_changes}
use Rattle.repo_store.specs.Kept.{Kept, staging, unstaging, keeping, committing, setting}
use Rattle.repo_store.specs.Repository.{Commit, staged_changes}
use Rattle.repo_store.specs.Rows.{answer_row, blob_row, limit_row, staged_row, with_blobs, with_entries, commit_row, commit_rows, entry_row, entry_rows, version_row, fix_row, tables_of, with_fix_rows}
use Rattle.repo_store.proofs.FixLemmas.{changes_before}
use Rattle.hook_base.specs.declared.change.Change.{Change}
use Rattle.repo_store.proofs.ListLemmas.{others_staged}
use Rattle.repo_store.proofs.SameLemmas.{IsSame, same_itself, same_blobs}

-- the contents before, and those that came
pub contents_before : (bytes : List ℕ) (contents : List (List ℕ)) → take (length contents) (with_content bytes contents) ≡ contents
contents_before bytes contents =
    elim (has_content bytes contents) as (λ b. take (length contents) (if b then contents else contents ++ bytes ∷ []) ≡ contents)
    [ true ↦ take-length contents | false ↦ take-append_seam contents (bytes ∷ []) ]

pub blobs_after : (old new : List (List ℕ)) → take (length old) new ≡ old → IsPermutation (map blob_row (drop (length old) new) ++ map blob_row old) (map blob_row new)
blobs_after old new front =
    let obeys : old ++ drop (length old) new ≡ new = ap (λ (l : List (List ℕ)). l ++ drop (length old) new) (sym front) ∙ take-append-drop (length old) new in
    let rows : map blob_row old ++ map blob_row (drop (length old) new) ≡ map blob_row new = sym (map-append blob_row old (drop (length old) new)) ∙ ap (map blob_row) obeys in
    subst (IsPermutation (map blob_row (drop (length old) new) ++ map blob_row old)) rows (IsPermutation-append_comm (map blob_row (drop (length old) new)) (map blob_row old))

-- a file put in its place is one of the files
pub put_moves : (new : File) (rows : List File) → IsRising rows → IsPermutation (new ∷ remove_file new.path rows) (put_row new rows)
put_moves new [] rising = IsPermutation-refl (new ∷ [])
put_moves new (row ∷ rows) rising =
    elim (path_cases new.path row.path) [
      | inl (inl below) ↦
          let all : IsBelowAll path_of new.path (row ∷ rows) = (below, below_all_later path_of new.path row.path rows below rising.0) in
          rw (remove_file-later new.path (row ∷ rows) all, below.is_less) (IsPermutation-refl (new ∷ row ∷ rows))
      | inl (inr same) ↦
          let later : IsBelowAll path_of new.path rows = subst (λ (p : List ℕ). IsBelowAll path_of p rows) (sym same) rising.0 in
          rw (bytes_same new.path row.path same, path_itself new.path row.path same, remove_file-later new.path rows later) (IsPermutation-refl (new ∷ rows))
      | inr above ↦
          rw (above_differs new.path row.path above, greater_from_below row.path new.path above)
          (IsPermutation-trans _ _ _ (IsPermutation-sym _ _ (IsPermutation-middle (row ∷ []) new (remove_file new.path rows))) (IsPermutation-cons row _ _ (put_moves new rows rising.1)))
    ]

-- the contents that a call newly keeps
abbrev pub news_of : List ℕ → Kept → List (List ℕ)
news_of bytes kept = drop (length kept.contents) (with_content bytes kept.contents)

module _ (file : File) (kept : Kept) (rising : IsRising kept.repo.staged) where
  staged_after : IsPermutation (staged_row file ∷ filter (λ (row : StagedRow). not (bytes_eq row.path file.path)) (map staged_row kept.repo.staged)) (map staged_row (put_row file kept.repo.staged))
  staged_after =
      subst (λ (l : List StagedRow). IsPermutation (staged_row file ∷ l) (map staged_row (put_row file kept.repo.staged))) (sym (others_staged file.path kept.repo.staged))
      (IsPermutation-map staged_row _ _ (put_moves file kept.repo.staged rising))

  pub staging_tables : IsSame (tables.with_staged (staged_row file) (tables.without_staged file.path (without_fixes (with_blobs (news_of file.entry.bytes kept) (tables_of kept)))))
      (tables_of (staging file.path file.entry kept))
  staging_tables = record {
    meta = IsPermutation-refl (version_row ∷ limit_row (pos kept.limit) ∷ []);
    blobs = blobs_after kept.contents (with_content file.entry.bytes kept.contents) (contents_before file.entry.bytes kept.contents);
    staged = staged_after;
    fixes = IsPermutation-refl [];
    commits = IsPermutation-refl (commit_rows 1 kept.repo.history);
    entries = IsPermutation-refl (entry_rows 1 kept.repo.history);
    answers = IsPermutation-refl (map answer_row kept.answers);
  }

-- the same, of what the code hands over
pub staging_handed : (file handed : File) (path : List ℕ) (news : List (List ℕ)) (kept : Kept) → IsRising kept.repo.staged → handed ≡ file → path ≡ file.path → news ≡ news_of file.entry.bytes kept
    → IsSame (tables.with_staged (staged_row handed) (tables.without_staged path (without_fixes (with_blobs news (tables_of kept))))) (tables_of (staging file.path file.entry kept))
staging_handed file handed path news kept rising is path_is news_is =
    subst (λ (f : File). IsSame (tables.with_staged (staged_row f) (tables.without_staged path (without_fixes (with_blobs news (tables_of kept))))) (tables_of (staging file.path file.entry kept)))
    (sym is)
    (subst (λ (p : List ℕ). IsSame (tables.with_staged (staged_row file) (tables.without_staged p (without_fixes (with_blobs news (tables_of kept))))) (tables_of (staging file.path file.entry kept)))
    (sym path_is)
    (subst (λ (l : List (List ℕ)). IsSame (tables.with_staged (staged_row file) (tables.without_staged file.path (without_fixes (with_blobs l (tables_of kept)))))
    (tables_of (staging file.path file.entry kept))) (sym news_is) (staging_tables file kept rising)))

-- the contents that came are forgotten
pub forgotten : (bytes : List ℕ) (kept mid now : Kept) (count : ℕ) → count ≡ length kept.contents → mid ≡ keeping bytes kept → now ≡ record mid { contents = take count mid.contents } → now ≡ kept
forgotten bytes kept mid now count count_is mid_is is =
    is ∙ ap₂ (λ (n : ℕ) (k : Kept). record k { contents = take n k.contents }) count_is mid_is ∙ ap (λ (l : List (List ℕ)). record kept { contents = l }) (contents_before bytes kept.contents)

pub unstaging_tables : (path : List ℕ) (kept : Kept) → IsSame (without_fixes (tables.without_staged path (tables_of kept))) (tables_of (unstaging path kept))
unstaging_tables path kept =
    subst (λ (l : List StagedRow). IsSame (record (tables_of kept) { staged = l; fixes = [] }) (tables_of (unstaging path kept))) (sym (others_staged path kept.repo.staged))
    (same_itself (tables_of (unstaging path kept)))

pub keeping_handed : (bytes : List ℕ) (news : List (List ℕ)) (kept : Kept) → news ≡ news_of bytes kept → IsSame (with_blobs news (tables_of kept)) (tables_of (keeping bytes kept))
keeping_handed bytes news kept is =
    subst (λ (l : List (List ℕ)). IsSame (with_blobs l (tables_of kept)) (tables_of (keeping bytes kept))) (sym is)
    (same_blobs (with_blobs (news_of bytes kept) (tables_of kept)) (map blob_row (with_content bytes kept.contents))
    (blobs_after kept.contents (with_content bytes kept.contents) (contents_before bytes kept.contents)))

-- ---- commits

commits_more : (n : ℕ) (history : List Commit) (commit : Commit) → commit_rows n (history ++ commit ∷ []) ≡ commit_rows n history ++ commit_row (n + length history) commit ∷ []
commits_more n [] commit = ap (λ (m : ℕ). commit_row m commit ∷ []) (omega arith)
commits_more n (first ∷ history) commit =
    ap (λ (l : List CommitRow). commit_row n first ∷ l) (commits_more (n + 1) history commit ∙ ap (λ (m : ℕ). commit_rows (n + 1) history ++ commit_row m commit ∷ []) (omega arith))

entries_more : (n : ℕ) (history : List Commit) (commit : Commit) → entry_rows n (history ++ commit ∷ []) ≡ entry_rows n history ++ map (entry_row (n + length history)) commit.tree
entries_more n [] commit = append-nil (map (entry_row n) commit.tree) ∙ ap (λ (m : ℕ). map (entry_row m) commit.tree) (omega arith)
entries_more n (first ∷ history) commit =
    ap (λ (l : List EntryRow). map (entry_row n) first.tree ++ l) (entries_more (n + 1) history commit ∙ ap (λ (m : ℕ). entry_rows (n + 1) history ++ map (entry_row m) commit.tree) (omega arith))
    ∙ sym (append_assoc (map (entry_row n) first.tree) (entry_rows (n + 1) history) (map (entry_row (n + length (first ∷ history))) commit.tree))

pub committing_tables : (message : List ℕ) (kept : Kept)
    → IsSame (without_fixes (with_entries (map (entry_row (length kept.repo.history + 1)) kept.repo.staged)
    (tables.with_commit (record { n = pos (length kept.repo.history + 1); message = message }) (tables_of kept)))) (tables_of (committing message kept))
committing_tables message kept =
    let history = kept.repo.history in
    let commit : Commit = record { message = message; tree = kept.repo.staged } in
    let next : 1 + length history ≡ length history + 1 = omega arith in
    let commits : commit_rows 1 (history ++ commit ∷ []) ≡ commit_rows 1 history ++ commit_row (length history + 1) commit ∷ [] =
    commits_more 1 history commit ∙ ap (λ (m : ℕ). commit_rows 1 history ++ commit_row m commit ∷ []) next in
    let entries : entry_rows 1 (history ++ commit ∷ []) ≡ entry_rows 1 history ++ map (entry_row (length history + 1)) kept.repo.staged =
    entries_more 1 history commit ∙ ap (λ (m : ℕ). entry_rows 1 history ++ map (entry_row m) kept.repo.staged) next in
    record {
      meta = IsPermutation-refl (version_row ∷ limit_row (pos kept.limit) ∷ []);
      blobs = IsPermutation-refl (map blob_row kept.contents);
      staged = IsPermutation-refl (map staged_row kept.repo.staged);
      fixes = IsPermutation-refl [];
      commits =
          subst (IsPermutation (commit_row (length history + 1) commit ∷ commit_rows 1 history)) (sym commits)
          (IsPermutation-sym _ _ (IsPermutation-to_front (commit_rows 1 history) (commit_row (length history + 1) commit)));
      entries =
          subst (IsPermutation (map (entry_row (length history + 1)) kept.repo.staged ++ entry_rows 1 history)) (sym entries)
          (IsPermutation-append_comm (map (entry_row (length history + 1)) kept.repo.staged) (entry_rows 1 history));
      answers = IsPermutation-refl (map answer_row kept.answers);
    }

pub committing_handed : (message text : List ℕ) (n : ℕ) (files : List File) (kept : Kept) → text ≡ message → n ≡ length kept.repo.history + 1 → files ≡ kept.repo.staged
    → IsSame (without_fixes (with_entries (map (entry_row n) files) (tables.with_commit (record { n = pos n; message = text }) (tables_of kept)))) (tables_of (committing message kept))
committing_handed message text n files kept text_is n_is files_is =
    subst (λ (m : ℕ). IsSame (without_fixes (with_entries (map (entry_row m) files) (tables.with_commit (record { n = pos m; message = text }) (tables_of kept))))
    (tables_of (committing message kept))) (sym n_is)
    (subst (λ (p : List ℕ). IsSame (without_fixes (with_entries (map (entry_row (length kept.repo.history + 1)) files)
    (tables.with_commit (record { n = pos (length kept.repo.history + 1); message = p }) (tables_of kept)))) (tables_of (committing message kept))) (sym text_is)
    (subst (λ (l : List File). IsSame (without_fixes (with_entries (map (entry_row (length kept.repo.history + 1)) l)
    (tables.with_commit (record { n = pos (length kept.repo.history + 1); message = message }) (tables_of kept)))) (tables_of (committing message kept))) (sym files_is)
    (committing_tables message kept)))

-- ---- fixes

pub setting_handed : (changes fixes : List Change) (news : List (List ℕ)) (kept : Kept) → fixes ≡ staged_changes changes kept.repo.staged
    → news ≡ drop (length kept.contents) (with_changes (staged_changes changes kept.repo.staged) kept.contents)
    → IsSame (with_fix_rows (map fix_row fixes) (with_blobs news (tables_of kept))) (tables_of (setting changes kept))
setting_handed changes fixes news kept fixes_is news_is =
    let taken = staged_changes changes kept.repo.staged in
    subst (λ (l : List Change). IsSame (with_fix_rows (map fix_row l) (with_blobs news (tables_of kept))) (tables_of (setting changes kept))) (sym fixes_is)
    (subst (λ (l : List (List ℕ)). IsSame (with_fix_rows (map fix_row taken) (with_blobs l (tables_of kept))) (tables_of (setting changes kept))) (sym news_is)
    (same_blobs (with_fix_rows (map fix_row taken) (with_blobs (drop (length kept.contents) (with_changes taken kept.contents)) (tables_of kept))) (map blob_row (with_changes taken kept.contents))
    (blobs_after kept.contents (with_changes taken kept.contents) (changes_before taken kept.contents (with_changes taken kept.contents) refl))))

pub forgotten_changes : (changes : List Change) (kept mid now : Kept) (count : ℕ) → count ≡ length kept.contents → mid ≡ record kept { contents = with_changes changes kept.contents }
    → now ≡ record mid { contents = take count mid.contents } → now ≡ kept
forgotten_changes changes kept mid now count count_is mid_is is =
    is ∙ ap₂ (λ (n : ℕ) (k : Kept). record k { contents = take n k.contents }) count_is mid_is
    ∙ ap (λ (l : List (List ℕ)). record kept { contents = l }) (changes_before changes kept.contents (with_changes changes kept.contents) refl)
