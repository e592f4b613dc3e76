-- The rows of the staged files when those of the fixed paths alone are written again.
use Rattle.std.proofs.Common.{◌≡◌, ℕ, ◌+◌, ◌<◌, true, false, not, List, [], ◌∷◌, ◌++◌, map, filter, length, take, get_or, Option, None, Some, Ok, if◌then◌else◌, IsPermutation, refl, sym, ap, subst, ◌∙◌}
use Rattle.std.specs.Str.{bytes_eq}
use Rattle.std.specs.Cmp.Lexicographic.{bytes_decides}
use Rattle.std.proofs.lemmas.List.{take_more, map-append}
use Rattle.std.proofs.lemmas.List.Sorted.{IsPermutation-refl, IsPermutation-cons, IsPermutation-trans, IsPermutation-middle, IsPermutation-sym}
use Rattle.repo_store.proofs.Kit.{IsPermutation-filter}
use Rattle.sqlite_trees.specs.declared.store.Store.{Ghosts}
use Rattle.sqlite.specs.Held.{Held}
use Rattle.hook_base.specs.declared.change.Change.{Change}
use Rattle.hook_base.specs.declared.file.File.{File}
use Rattle.hook_base.specs.declared.file.FileEntry.{FileEntry}
use Rattle.hook_base.specs.Rising.{IsBelowAll}
use Rattle.hook_base.specs.RisingLemmas.{below_differs}
use Rattle.hook_base.specs.Trees.{IsRising, IsRisingChanges, path_of, entry_of, remove_file, rewrite_file, with_bytes, apply_at, apply_changes}
use Rattle.hook_base.specs.TreeLemmas.{remove_file-later, IsRising-apply_at}
use Rattle.store_tables.specs.declared.rows.StagedRow.{StagedRow}
use Rattle.store_tables.specs.Steps.{IsStep}
use Rattle.store_tables.specs.Tables.{Tables, without_fixes}
use Rattle.repo_store.specs.declared.shared.SharedFix.{SharedFix}
use Rattle.repo_store.specs.Accepted.{HaveSameFixed, all_rewritten, rewritten, with_entry_at}
use Rattle.repo_store.specs.Kept.{Kept, accepting}
use Rattle.repo_store.specs.Lists.{fix_of}
use Rattle.repo_store.specs.Rows.{staged_row, with_staged_rows, tables_of}
use Rattle.repo_store.specs.Sound.{IsSound}
use Rattle.repo_store.proofs.CallLemmas.{step_then}
use Rattle.repo_store.proofs.ListLemmas.{others_staged}
use Rattle.repo_store.proofs.SameLemmas.{IsSame, same_staged, step_same}

-- ---- one path

-- where a path's file was changed or taken out, the others are the same
others_kept : (path : List ℕ) (now : Option (List ℕ)) (files : List File) → remove_file path (apply_at path now files) ≡ remove_file path files
others_kept path now [] = elim now as (λ n. remove_file path (apply_at path n []) ≡ []) [ None ↦ refl | Some bytes ↦ refl ]
others_kept path None (file ∷ files) =
    elim (bytes_eq path file.path) as (λ b. (bytes_eq path file.path ≡ b)
    → remove_file path (if b then remove_file path files else file ∷ remove_file path files) ≡ (if b then remove_file path files else file ∷ remove_file path files)) [
      | true ↦ λ h. others_kept path None files
      | false ↦ λ h. rw h (ap (λ (l : List File). file ∷ l) (others_kept path None files))
    ] refl
others_kept path (Some bytes) (file ∷ files) =
    elim (bytes_eq path file.path) as (λ b. (bytes_eq path file.path ≡ b)
    → remove_file path ((if b then with_bytes bytes file else file) ∷ rewrite_file path bytes files) ≡ (if b then remove_file path files else file ∷ remove_file path files)) [
      | true ↦ λ h. rw h (others_kept path (Some bytes) files)
      | false ↦ λ h. rw h (ap (λ (l : List File). file ∷ l) (others_kept path (Some bytes) files))
    ] refl

-- an entry stands anywhere among the rows
entry_moves : (path : List ℕ) (entry : Option FileEntry) (row : StagedRow) (rows : List StagedRow) → IsPermutation (with_entry_at path entry (row ∷ rows)) (row ∷ with_entry_at path entry rows)
entry_moves path None row rows = IsPermutation-refl (row ∷ rows)
entry_moves path (Some entry) row rows = IsPermutation-sym _ _ (IsPermutation-middle (row ∷ []) (staged_row (record { path = path; entry = entry })) rows)

-- a file that is taken out and put back
whole : (path : List ℕ) (files : List File) → IsRising files → IsPermutation (with_entry_at path (entry_of path files) (map staged_row (remove_file path files))) (map staged_row files)
whole path [] rising = IsPermutation-refl []
whole path (file ∷ files) rising =
    elim (bytes_eq path file.path) as (λ b. (bytes_eq path file.path ≡ b)
    → IsPermutation (with_entry_at path (if b then Some file.entry else entry_of path files) (map staged_row (if b then remove_file path files else file ∷ remove_file path files)))
    (map staged_row (file ∷ files))) [
      | true ↦ λ h.
          let same : path ≡ file.path = (bytes_decides path file.path).0 h in
          let later : IsBelowAll path_of path files = subst (λ (p : List ℕ). IsBelowAll path_of p files) (sym same) rising.0 in
          subst (λ (l : List File). IsPermutation (staged_row (record { path = path; entry = file.entry }) ∷ map staged_row l) (map staged_row (file ∷ files)))
          (sym (remove_file-later path files later))
          (subst (λ (p : List ℕ). IsPermutation (staged_row (record { path = p; entry = file.entry }) ∷ map staged_row files) (map staged_row (file ∷ files))) (sym same)
          (IsPermutation-refl (map staged_row (file ∷ files))))
      | false ↦ λ h.
          IsPermutation-trans _ _ _ (entry_moves path (entry_of path files) (staged_row file) (map staged_row (remove_file path files)))
          (IsPermutation-cons (staged_row file) _ _ (whole path files rising.1))
    ] refl

-- ---- other paths

pub other_entry : (path at : List ℕ) (now : Option (List ℕ)) (files : List File) → bytes_eq path at ≡ false → entry_of path (apply_at at now files) ≡ entry_of path files
other_entry path at None [] differs = refl
other_entry path at (Some bytes) [] differs = refl
other_entry path at None (file ∷ files) differs =
    elim (bytes_eq at file.path) as (λ b. (bytes_eq at file.path ≡ b) → entry_of path (if b then remove_file at files else file ∷ remove_file at files) ≡ entry_of path (file ∷ files)) [
      | true ↦ λ h.
          let apart : bytes_eq path file.path ≡ false = subst (λ (p : List ℕ). bytes_eq path p ≡ false) ((bytes_decides at file.path).0 h) differs in
          rw apart (other_entry path at None files differs)
      | false ↦ λ h. ap (λ (o : Option FileEntry). if bytes_eq path file.path then Some file.entry else o) (other_entry path at None files differs)
    ] refl
other_entry path at (Some bytes) (file ∷ files) differs =
    elim (bytes_eq at file.path) as (λ b. (bytes_eq at file.path ≡ b) → entry_of path ((if b then with_bytes bytes file else file) ∷ rewrite_file at bytes files) ≡ entry_of path (file ∷ files)) [
      | true ↦ λ h.
          let apart : bytes_eq path file.path ≡ false = subst (λ (p : List ℕ). bytes_eq path p ≡ false) ((bytes_decides at file.path).0 h) differs in
          rw apart (other_entry path at (Some bytes) files differs)
      | false ↦ λ h. ap (λ (o : Option FileEntry). if bytes_eq path file.path then Some file.entry else o) (other_entry path at (Some bytes) files differs)
    ] refl

abbrev change_path : Change → List ℕ
change_path change = change.path

pub earlier_entry : (path : List ℕ) (changes : List Change) (files : List File) → IsBelowAll change_path path changes → entry_of path (apply_changes changes files) ≡ entry_of path files
earlier_entry path [] files below = refl
earlier_entry path (change ∷ changes) files below =
    earlier_entry path changes (apply_at change.path change.now files) below.1 ∙ other_entry path change.path change.now files (below_differs path change.path below.0)

-- ---- all paths

entry_permuted : (path : List ℕ) (entry : Option FileEntry) (xs ys : List StagedRow) → IsPermutation xs ys → IsPermutation (with_entry_at path entry xs) (with_entry_at path entry ys)
entry_permuted path None xs ys same = same
entry_permuted path (Some entry) xs ys same = IsPermutation-cons (staged_row (record { path = path; entry = entry })) xs ys same

all_permuted : (files : List File) (fixes : List Change) (xs ys : List StagedRow) → IsPermutation xs ys → IsPermutation (all_rewritten files fixes xs) (all_rewritten files fixes ys)
all_permuted files [] xs ys same = same
all_permuted files (fix ∷ fixes) xs ys same =
    all_permuted files fixes (rewritten files fix.path xs) (rewritten files fix.path ys)
    (entry_permuted fix.path (entry_of fix.path files) _ _ (IsPermutation-filter (λ (row : StagedRow). not (bytes_eq row.path fix.path)) xs ys same))

-- one fix: its path's row is that of the files that all fixes leave
one_rewritten : (fix : Change) (fixes : List Change) (files : List File) → IsRising files → IsBelowAll change_path fix.path fixes
    → IsPermutation (rewritten (apply_changes (fix ∷ fixes) files) fix.path (map staged_row files)) (map staged_row (apply_at fix.path fix.now files))
one_rewritten fix fixes files rising below =
    let after = apply_at fix.path fix.now files in
    let entry = earlier_entry fix.path fixes after below in
    let rows : filter (λ (row : StagedRow). not (bytes_eq row.path fix.path)) (map staged_row files) ≡ map staged_row (remove_file fix.path after) =
    others_staged fix.path files ∙ ap (map staged_row) (sym (others_kept fix.path fix.now files)) in
    subst (λ (o : Option FileEntry). IsPermutation (with_entry_at fix.path o (filter (λ (row : StagedRow). not (bytes_eq row.path fix.path)) (map staged_row files))) (map staged_row after))
    (sym entry)
    (subst (λ (l : List StagedRow). IsPermutation (with_entry_at fix.path (entry_of fix.path after) l) (map staged_row after)) (sym rows)
    (whole fix.path after (IsRising-apply_at fix.path fix.now files rising)))

accepted_rows : (fixes : List Change) (files : List File) → IsRising files → IsRisingChanges fixes
    → IsPermutation (all_rewritten (apply_changes fixes files) fixes (map staged_row files)) (map staged_row (apply_changes fixes files))
accepted_rows [] files rising up = IsPermutation-refl (map staged_row files)
accepted_rows (fix ∷ fixes) files rising up =
    let after = apply_at fix.path fix.now files in
    IsPermutation-trans _ _ _
    (all_permuted (apply_changes fixes after) fixes (rewritten (apply_changes fixes after) fix.path (map staged_row files)) (map staged_row after) (one_rewritten fix fixes files rising up.0))
    (accepted_rows fixes after (IsRising-apply_at fix.path fix.now files rising) up.1)

-- files that have the same at the paths of the fixes serve as well
alike_rewritten : (fixes : List Change) (files others : List File) (rows : List StagedRow) → HaveSameFixed fixes files others → all_rewritten files fixes rows ≡ all_rewritten others fixes rows
alike_rewritten [] files others rows same = refl
alike_rewritten (fix ∷ fixes) files others rows same =
    ap (λ (o : Option FileEntry). all_rewritten files fixes (with_entry_at fix.path o (filter (λ (row : StagedRow). not (bytes_eq row.path fix.path)) rows))) same.0
    ∙ alike_rewritten fixes files others (rewritten others fix.path rows) same.1

-- what the code hands over makes of the tables those of the accepted fixes
pub accepting_handed : (files : List File) (fixes : List Change) (kept : Kept) → IsSound kept.repo → HaveSameFixed kept.repo.fixes files (apply_changes kept.repo.fixes kept.repo.staged)
    → fixes ≡ kept.repo.fixes
    → IsSame (with_staged_rows (all_rewritten files fixes (tables_of kept).staged) (without_fixes (tables_of kept))) (tables_of (accepting kept))
accepting_handed files fixes kept sound files_same fixes_is =
    let staged = map staged_row kept.repo.staged in
    subst (λ (l : List Change). IsSame (with_staged_rows (all_rewritten files l staged) (without_fixes (tables_of kept))) (tables_of (accepting kept))) (sym fixes_is)
    (subst (λ (l : List StagedRow). IsSame (with_staged_rows l (without_fixes (tables_of kept))) (tables_of (accepting kept)))
    (sym (alike_rewritten kept.repo.fixes files (apply_changes kept.repo.fixes kept.repo.staged) staged files_same))
    (same_staged (with_staged_rows (all_rewritten (apply_changes kept.repo.fixes kept.repo.staged) kept.repo.fixes staged) (without_fixes (tables_of kept)))
    (map staged_row (apply_changes kept.repo.fixes kept.repo.staged))
    (accepted_rows kept.repo.fixes kept.repo.staged sound.staged_rise sound.fixes_rise)))

-- ---- one fix more, at a step of the loop

last_rewritten : (files : List File) (fixes : List Change) (fix : Change) (rows : List StagedRow)
    → all_rewritten files (fixes ++ fix ∷ []) rows ≡ rewritten files fix.path (all_rewritten files fixes rows)
last_rewritten files [] fix rows = refl
last_rewritten files (first ∷ fixes) fix rows = last_rewritten files fixes fix (rewritten files first.path rows)

abbrev pub Rewrites : {S : Type 0} → Ghosts S → Held S → Held S → List File → List SharedFix → Type 0
Rewrites g old new files fixes = IsStep {A = Unit {0}} g old new (Ok tt) (λ t. with_staged_rows (all_rewritten files (map fix_of fixes) t.staged) (without_fixes t))

pub rewrites_more : {S : Type 0} (g : Ghosts S) (old mid new : Held S) (files : List File) (fixes : List SharedFix) (i : ℕ) (fix : SharedFix) → i < length fixes → fix ≡ get_or fixes i fix
    → Rewrites g old mid files (take i fixes) → IsStep {A = Unit {0}} g mid new (Ok tt) (λ t. with_staged_rows (rewritten files fix.path t.staged) t) → Rewrites g old new files (take (i + 1) fixes)
rewrites_more g old mid new files fixes i fix within is one two =
    let before : Tables → Tables = λ t. with_staged_rows (all_rewritten files (map fix_of (take i fixes)) t.staged) (without_fixes t) in
    let put : Tables → Tables = λ t. with_staged_rows (rewritten files fix.path t.staged) t in
    let both = step_then g old mid new (Ok tt) before put one two in
    let more : map fix_of (take (i + 1) fixes) ≡ map fix_of (take i fixes) ++ fix_of fix ∷ [] =
    ap (map fix_of) (take_more fixes i fix within ∙ ap (λ (f : SharedFix). take i fixes ++ f ∷ []) (sym is)) ∙ map-append fix_of (take i fixes) (fix ∷ []) in
    step_same g old new (Ok tt) (λ t. put (before t)) (λ t. with_staged_rows (all_rewritten files (map fix_of (take (i + 1) fixes)) t.staged) (without_fixes t))
    (λ t.
    let rows : rewritten files fix.path (all_rewritten files (map fix_of (take i fixes)) t.staged) ≡ all_rewritten files (map fix_of (take (i + 1) fixes)) t.staged =
    sym (last_rewritten files (map fix_of (take i fixes)) (fix_of fix) t.staged) ∙ ap (λ (l : List Change). all_rewritten files l t.staged) (sym more) in
    same_staged (put (before t)) (all_rewritten files (map fix_of (take (i + 1) fixes)) t.staged)
    (subst (λ (l : List StagedRow). IsPermutation (rewritten files fix.path (all_rewritten files (map fix_of (take i fixes)) t.staged)) l) rows
    (IsPermutation-refl (rewritten files fix.path (all_rewritten files (map fix_of (take i fixes)) t.staged)))))
    both
