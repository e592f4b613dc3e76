-- An edit of a tree puts other files at some of its paths. What doesn't look at these commutes with it.
use Rattle.std.proofs.Common.{◌≡◌, ◌∙◌, ap, ap₂, sym, subst, refl, inl, inr, ℕ, Bool, true, false, List, [], ◌∷◌, ◌++◌, map, Option, None, Some}
use Rattle.std.specs.Prelude.{◌⊎◌, not, ◌&&◌, ◌||◌, if◌then◌else◌, filter, is_some}
use Rattle.std.specs.List.{AllByRecursion as Each, list_any}
use Rattle.std.specs.Str.{bytes_eq}
use Rattle.std.specs.Cmp.Lexicographic.{bytes_decides}
use Rattle.std.proofs.lemmas.Bool.{and_parts, not-false, or_parts}
use Rattle.hook_base.specs.Trees.{IsRising, apply_at, apply_changes, entry_of, path_of, remove_file, rewrite_file, with_bytes}
use Rattle.hook_base.specs.RisingLemmas.{bytes_differ, bytes_same}
use Rattle.hook_base.specs.TreeLemmas.{entry_of-first, entry_of-later}
use Rattle.hook_base.specs.declared.change.Change.{Change}
use Rattle.hook_base.specs.declared.file.File.{File}
use Rattle.hook_base.specs.declared.file.FileEntry.{FileEntry}
use Rattle.builtin_hooks.specs.GrepAnswer.{searched_entry_text, grep_output}
use Rattle.builtin_hooks.specs.Search.{Search}
use Rattle.child_port.specs.Seen.{is_seen_path, seen_of}
use Rattle.path_select.specs.Candidates.{is_candidate, passes}
use Rattle.path_select.specs.Patterns.{is_found}
use Rattle.path_select.specs.Selection.{RuleTexts, fits_hook, found_in, is_selected, selected}
use Rattle.hook_run.specs.PartsEnding.{has_changed, is_modified, is_modified_row, is_tracked}

-- what stands at a path in place of the file that does
abbrev pub Edit : Type 0
Edit = List ℕ → Option FileEntry

abbrev pub entry_or : Option FileEntry → FileEntry → FileEntry
entry_or None entry = entry
entry_or (Some other) entry = other

abbrev row_or : Option FileEntry → File → File
row_or other row = record { path = row.path; entry = entry_or other row.entry }

abbrev pub edited_row : Edit → File → File
edited_row edit row = row_or (edit row.path) row

abbrev pub edited : Edit → List File → List File
edited edit tree = map (edited_row edit) tree

-- what an edited tree holds where the tree holds this
abbrev pub entry_edited : Option FileEntry → Option FileEntry → Option FileEntry
entry_edited other None = None
entry_edited other (Some entry) = Some (entry_or other entry)

-- ---- what a tree holds

pub not-there : (found : Option FileEntry) → found ≡ None → is_some found ≡ true → ⊥
not-there None none some = cc
not-there (Some entry) none some = cc

pub entry-kept : (found : Option FileEntry) → entry_edited None found ≡ found
entry-kept None = refl
entry-kept (Some entry) = refl

still-there : (path : List ℕ) (row : File) (rows : List File) → is_some (entry_of path rows) ≡ true → is_some (entry_of path (row ∷ rows)) ≡ true
still-there path row rows there =
    elim (bytes_eq path row.path) as (λ b. is_some (if b then Some row.entry else entry_of path rows) ≡ true) [ true ↦ refl | false ↦ there ]

-- ---- changes of other files

removed-elsewhere : (path at : List ℕ) (tree : List File) → bytes_eq path at ≡ false → entry_of path (remove_file at tree) ≡ entry_of path tree
removed-elsewhere path at [] differs = refl
removed-elsewhere path at (row ∷ rows) differs =
    elim (bytes_eq at row.path) as (λ b. bytes_eq at row.path ≡ b → entry_of path (if b then remove_file at rows else row ∷ remove_file at rows) ≡ entry_of path (row ∷ rows)) [
      | true ↦ λ e.
          let differs_here : bytes_eq path row.path ≡ false = ap (bytes_eq path) (sym ((bytes_decides at row.path).0 e)) ∙ differs in
          rw differs_here (removed-elsewhere path at rows differs)
      | false ↦ λ e. ap (λ (found : Option FileEntry). if bytes_eq path row.path then Some row.entry else found) (removed-elsewhere path at rows differs)
    ] refl

rewritten-elsewhere : (path at bytes : List ℕ) (tree : List File) → bytes_eq path at ≡ false → entry_of path (rewrite_file at bytes tree) ≡ entry_of path tree
rewritten-elsewhere path at bytes [] differs = refl
rewritten-elsewhere path at bytes (row ∷ rows) differs =
    elim (bytes_eq at row.path) as (λ b. bytes_eq at row.path ≡ b → entry_of path ((if b then with_bytes bytes row else row) ∷ rewrite_file at bytes rows) ≡ entry_of path (row ∷ rows)) [
      | true ↦ λ e.
          let differs_here : bytes_eq path row.path ≡ false = ap (bytes_eq path) (sym ((bytes_decides at row.path).0 e)) ∙ differs in
          rw differs_here (rewritten-elsewhere path at bytes rows differs)
      | false ↦ λ e. ap (λ (found : Option FileEntry). if bytes_eq path row.path then Some row.entry else found) (rewritten-elsewhere path at bytes rows differs)
    ] refl

changed-elsewhere : (path at : List ℕ) (now : Option (List ℕ)) (tree : List File) → bytes_eq path at ≡ false → entry_of path (apply_at at now tree) ≡ entry_of path tree
changed-elsewhere path at None tree differs = removed-elsewhere path at tree differs
changed-elsewhere path at (Some bytes) tree differs = rewritten-elsewhere path at bytes tree differs

pub changes-elsewhere : (path : List ℕ) (changes : List Change) (tree : List File) → Each (λ change. bytes_eq path change.path ≡ false) changes
    → entry_of path (apply_changes changes tree) ≡ entry_of path tree
changes-elsewhere path [] tree each = refl
changes-elsewhere path (change ∷ changes) tree each =
    changes-elsewhere path changes (apply_at change.path change.now tree) each.1 ∙ changed-elsewhere path change.path change.now tree each.0

-- what no child has seen is none of the changes that don't stray
pub keeps-to-seen : (P : List ℕ → Type 0) (seen : List File) (changes : List Change) → ((path : List ℕ) → is_some (entry_of path seen) ≡ true → P path)
    → list_any (λ change. not (is_some (entry_of change.path seen))) changes ≡ false → Each (λ change. P change.path) changes
keeps-to-seen P seen [] all none = tt
keeps-to-seen P seen (change ∷ changes) all none =
    let parts = or_parts (not (is_some (entry_of change.path seen))) (list_any (λ (one : Change). not (is_some (entry_of one.path seen))) changes) none in
    (all change.path (not-false (is_some (entry_of change.path seen)) parts.0), keeps-to-seen P seen changes all parts.1)

pub unseen-elsewhere : (path : List ℕ) (seen : List File) → entry_of path seen ≡ None → (at : List ℕ) → is_some (entry_of at seen) ≡ true → bytes_eq path at ≡ false
unseen-elsewhere path seen none at there =
    bytes_differ path at (λ same. not-there (entry_of path seen) none (subst (λ (p : List ℕ). is_some (entry_of p seen) ≡ true) (sym same) there))

-- each row of a tree is what the tree holds at its path

held-later : (path : List ℕ) (row : File) (rows : List File) (entry : FileEntry) → entry_of row.path rows ≡ None → entry_of path rows ≡ Some entry → entry_of path (row ∷ rows) ≡ Some entry
held-later path row rows entry none found =
    elim (bytes_eq path row.path) as (λ b. bytes_eq path row.path ≡ b → (if b then Some row.entry else entry_of path rows) ≡ Some entry) [
      | true ↦ λ e. absurd (not-there (entry_of path rows) (ap (λ (p : List ℕ). entry_of p rows) ((bytes_decides path row.path).0 e) ∙ none) (ap is_some found))
      | false ↦ λ e. found
    ] refl

held-within : (tree rows : List File) → IsRising rows → ((path : List ℕ) (entry : FileEntry) → entry_of path rows ≡ Some entry → entry_of path tree ≡ Some entry)
    → Each (λ row. entry_of row.path tree ≡ Some row.entry) rows
held-within tree [] rising within = tt
held-within tree (row ∷ rows) rising within = (
  within row.path row.entry (entry_of-first row.path row rows refl),
  held-within tree rows rising.1 (λ path entry found. within path entry (held-later path row rows entry (entry_of-later row.path rows rising.0) found)),
)

each-held : (tree : List File) → IsRising tree → Each (λ row. entry_of row.path tree ≡ Some row.entry) tree
each-held tree rising = held-within tree tree rising (λ path entry found. found)

-- ---- selection

selected-candidate : (rules : RuleTexts) (candidates : List (List ℕ)) (row : File) → is_selected rules candidates row ≡ true → is_candidate candidates row.path ≡ true
unfolding is_selected
selected-candidate rules candidates row is =
    (and_parts (is_candidate candidates row.path) (passes rules.top_files rules.top_exclude row.path && fits_hook rules row) is).0

pub selected-candidates : (rules : RuleTexts) (candidates : List (List ℕ)) (tree : List File) → Each (λ path. is_candidate candidates path ≡ true) (selected rules candidates tree)
selected-candidates rules candidates [] = tt
selected-candidates rules candidates (row ∷ rows) =
    let rest = selected-candidates rules candidates rows in
    elim (is_selected rules candidates row) as (λ b. is_selected rules candidates row ≡ b
    → Each (λ path. is_candidate candidates path ≡ true) (map path_of (if b then row ∷ filter (is_selected rules candidates) rows else filter (is_selected rules candidates) rows))) [
      | true ↦ λ e. (selected-candidate rules candidates row e, rest)
      | false ↦ λ e. rest
    ] refl

-- ---- edited trees

module _ (edit : Edit) where
  pub same-paths : (tree : List File) → map path_of (edited edit tree) ≡ map path_of tree
  same-paths [] = refl
  same-paths (row ∷ rows) = ap (λ (paths : List (List ℕ)). row.path ∷ paths) (same-paths rows)

  pub entry-edited : (path : List ℕ) (tree : List File) → entry_of path (edited edit tree) ≡ entry_edited (edit path) (entry_of path tree)
  entry-edited path [] = refl
  entry-edited path (row ∷ rows) =
      elim (bytes_eq path row.path) as (λ b. bytes_eq path row.path ≡ b
      → (if b then Some (entry_or (edit row.path) row.entry) else entry_of path (edited edit rows)) ≡ entry_edited (edit path) (if b then Some row.entry else entry_of path rows)) [
        | true ↦ λ e. ap (λ (p : List ℕ). Some (entry_or (edit p) row.entry)) (sym ((bytes_decides path row.path).0 e))
        | false ↦ λ e. entry-edited path rows
      ] refl

  pub entry-unedited : (path : List ℕ) (tree : List File) → edit path ≡ None → entry_of path (edited edit tree) ≡ entry_of path tree
  entry-unedited path tree none =
      entry-edited path tree ∙ ap (λ (other : Option FileEntry). entry_edited other (entry_of path tree)) none ∙ entry-kept (entry_of path tree)

  row-unedited : (row : File) → edit row.path ≡ None → edited_row edit row ≡ row
  row-unedited row none = ap (λ (other : Option FileEntry). row_or other row) none

  -- a tree is the same where none of its files is edited
  pub tree-unedited : (tree : List File) → ((path : List ℕ) → is_some (entry_of path tree) ≡ true → edit path ≡ None) → edited edit tree ≡ tree
  tree-unedited [] kept = refl
  tree-unedited (row ∷ rows) kept =
      ap₂ (λ (first : File) (rest : List File). first ∷ rest)
      (row-unedited row (kept row.path (ap is_some (entry_of-first row.path row rows refl))))
      (tree-unedited rows (λ path there. kept path (still-there path row rows there)))

  -- ---- their changes

  removed : (path : List ℕ) (tree : List File) → remove_file path (edited edit tree) ≡ edited edit (remove_file path tree)
  removed path [] = refl
  removed path (row ∷ rows) =
      elim (bytes_eq path row.path) as (λ b. (if b then remove_file path (edited edit rows) else edited_row edit row ∷ remove_file path (edited edit rows))
      ≡ edited edit (if b then remove_file path rows else row ∷ remove_file path rows)) [
        | true ↦ removed path rows
        | false ↦ ap (λ (rest : List File). edited_row edit row ∷ rest) (removed path rows)
      ]

  rewritten-row : (bytes : List ℕ) (row : File) → edit row.path ≡ None → with_bytes bytes (edited_row edit row) ≡ edited_row edit (with_bytes bytes row)
  rewritten-row bytes row none = subst (λ (other : Option FileEntry). with_bytes bytes (row_or other row) ≡ row_or other (with_bytes bytes row)) (sym none) refl

  rewritten : (path bytes : List ℕ) (tree : List File) → edit path ≡ None → rewrite_file path bytes (edited edit tree) ≡ edited edit (rewrite_file path bytes tree)
  rewritten path bytes [] none = refl
  rewritten path bytes (row ∷ rows) none =
      ap₂ (λ (first : File) (rest : List File). first ∷ rest)
      (elim (bytes_eq path row.path) as (λ b. bytes_eq path row.path ≡ b
      → (if b then with_bytes bytes (edited_row edit row) else edited_row edit row) ≡ edited_row edit (if b then with_bytes bytes row else row)) [
        | true ↦ λ e. rewritten-row bytes row (subst (λ (p : List ℕ). edit p ≡ None) ((bytes_decides path row.path).0 e) none)
        | false ↦ λ e. refl
      ] refl)
      (rewritten path bytes rows none)

  changed : (path : List ℕ) (now : Option (List ℕ)) (tree : List File) → edit path ≡ None → apply_at path now (edited edit tree) ≡ edited edit (apply_at path now tree)
  changed path None tree none = removed path tree
  changed path (Some bytes) tree none = rewritten path bytes tree none

  pub changes-commute : (changes : List Change) (tree : List File) → Each (λ change. edit change.path ≡ None) changes
      → apply_changes changes (edited edit tree) ≡ edited edit (apply_changes changes tree)
  changes-commute [] tree each = refl
  changes-commute (change ∷ changes) tree each =
      ap (apply_changes changes) (changed change.path change.now tree each.0) ∙ changes-commute changes (apply_at change.path change.now tree) each.1

  -- ---- what is seen of them

  seen-where : (keeps : List ℕ → Bool) (tree : List File) → filter (λ row. keeps row.path) (edited edit tree) ≡ edited edit (filter (λ row. keeps row.path) tree)
  seen-where keeps [] = refl
  seen-where keeps (row ∷ rows) =
      elim (keeps row.path) as (λ b. (if b then edited_row edit row ∷ filter (λ (one : File). keeps one.path) (edited edit rows) else filter (λ (one : File). keeps one.path) (edited edit rows))
      ≡ edited edit (if b then row ∷ filter (λ (one : File). keeps one.path) rows else filter (λ (one : File). keeps one.path) rows)) [
        | true ↦ ap (λ (rest : List File). edited_row edit row ∷ rest) (seen-where keeps rows)
        | false ↦ seen-where keeps rows
      ]

  pub seen-commutes : (words extra : List (List ℕ)) (whole : Bool) (tree : List File) → seen_of words extra whole (edited edit tree) ≡ edited edit (seen_of words extra whole tree)
  seen-commutes words extra true tree = refl
  seen-commutes words extra false tree = seen-where (is_seen_path words extra) tree

  -- ---- what is selected of them

  selected-row : (rules : RuleTexts) (candidates : List (List ℕ)) (row : File) → (edit row.path ≡ None) ⊎ (is_candidate candidates row.path ≡ false)
      → is_selected rules candidates (edited_row edit row) ≡ is_selected rules candidates row
  unfolding is_selected
  selected-row rules candidates row (inl none) = ap (is_selected rules candidates) (row-unedited row none)
  selected-row rules candidates row (inr apart) = rw apart

  pub selected-same : (rules : RuleTexts) (candidates : List (List ℕ)) (tree : List File) → ((path : List ℕ) → (edit path ≡ None) ⊎ (is_candidate candidates path ≡ false))
      → selected rules candidates (edited edit tree) ≡ selected rules candidates tree
  selected-same rules candidates [] apart = refl
  selected-same rules candidates (row ∷ rows) apart =
      let rest = selected-same rules candidates rows apart in
      let kept = filter (is_selected rules candidates) rows in
      let kept_edited = filter (is_selected rules candidates) (edited edit rows) in
      ap (λ (b : Bool). map path_of (if b then edited_row edit row ∷ kept_edited else kept_edited)) (selected-row rules candidates row (apart row.path))
      ∙ (elim (is_selected rules candidates row) as (λ b. map path_of (if b then edited_row edit row ∷ kept_edited else kept_edited) ≡ map path_of (if b then row ∷ kept else kept)) [
        | true ↦ ap (λ (paths : List (List ℕ)). row.path ∷ paths) rest
        | false ↦ rest
      ])

  -- a pattern is found in the same paths
  pub found-same : (pattern : List ℕ) (tree : List File) → found_in pattern (edited edit tree) ≡ found_in pattern tree
  found-same pattern [] = refl
  found-same pattern (row ∷ rows) =
      let rest = found-same pattern rows in
      let kept = filter (λ (one : File). is_found pattern one.path) rows in
      let kept_edited = filter (λ (one : File). is_found pattern one.path) (edited edit rows) in
      elim (is_found pattern row.path) as (λ b. map path_of (if b then edited_row edit row ∷ kept_edited else kept_edited) ≡ map path_of (if b then row ∷ kept else kept)) [
        | true ↦ ap (λ (paths : List (List ℕ)). row.path ∷ paths) rest
        | false ↦ rest
      ]

  pub output-same : (search : Search) (names : List (List ℕ)) (tree : List File) → Each (λ name. edit name ≡ None) names → grep_output search names (edited edit tree) ≡ grep_output search names tree
  output-same search [] tree each = refl
  output-same search (name ∷ names) tree each =
      ap₂ (λ (first rest : List ℕ). first ++ rest) (ap (searched_entry_text search name) (entry-unedited name tree each.0)) (output-same search names tree each.1)

  -- ---- which of their files are modified

  unchanged : (row : File) → has_changed row (Some row.entry) ≡ false
  unchanged row = ap not (bytes_same row.entry.bytes row.entry.bytes refl)

  modified-row : (after : List File) (row : File) → (edit row.path ≡ None) ⊎ (entry_of row.path after ≡ Some row.entry)
      → is_modified_row (edited edit after) (edited_row edit row) ≡ is_modified_row after row
  modified-row after row (inl none) =
      ap₂ (λ (one : File) (found : Option FileEntry). is_tracked one && has_changed one found) (row-unedited row none) (entry-unedited row.path after none)
  modified-row after row (inr same) =
      ap (λ (found : Option FileEntry). is_tracked row && has_changed (edited_row edit row) found) (entry-edited row.path after ∙ ap (entry_edited (edit row.path)) same)
      ∙ ap (λ (b : Bool). is_tracked row && b) (unchanged (edited_row edit row) ∙ sym (unchanged row))
      ∙ ap (λ (found : Option FileEntry). is_tracked row && has_changed row found) (sym same)

  modified-rows : (after rows : List File) → Each (λ row. (edit row.path ≡ None) ⊎ (entry_of row.path after ≡ Some row.entry)) rows
      → list_any (is_modified_row (edited edit after)) (edited edit rows) ≡ list_any (is_modified_row after) rows
  modified-rows after [] each = refl
  modified-rows after (row ∷ rows) each =
      ap₂ (λ (first rest : Bool). first || rest) (modified-row after row each.0) (modified-rows after rows each.1)

  either-kept : (before after rows : List File) → ((path : List ℕ) → (edit path ≡ None) ⊎ (entry_of path after ≡ entry_of path before)) → Each (λ row. entry_of row.path before ≡ Some row.entry) rows
      → Each (λ row. (edit row.path ≡ None) ⊎ (entry_of row.path after ≡ Some row.entry)) rows
  either-kept before after [] kept held = tt
  either-kept before after (row ∷ rows) kept held = (
    elim (kept row.path) [ inl none ↦ inl none | inr same ↦ inr (same ∙ held.0) ],
    either-kept before after rows kept held.1,
  )

  pub modified-same : (before after : List File) → IsRising before → ((path : List ℕ) → (edit path ≡ None) ⊎ (entry_of path after ≡ entry_of path before))
      → is_modified (edited edit before) (edited edit after) ≡ is_modified before after
  modified-same before after rising kept = modified-rows after before (either-kept before after before kept (each-held before rising))
