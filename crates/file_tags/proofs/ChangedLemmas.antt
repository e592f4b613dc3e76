-- Lemmas: the rows that a tree holds at the paths of an older one, and what changes leave as it was.
use Rattle.std.proofs.Common.{◌≡◌, ℕ, Bool, true, false, List, [], ◌∷◌, ◌++◌, Option, None, Some, refl, ap, sym, ◌∙◌, inl, inr}
use Rattle.std.specs.Prelude.{◌||◌, if◌then◌else◌}
use Rattle.std.specs.Str.{bytes_eq}
use Rattle.hook_base.specs.declared.change.Change.{Change}
use Rattle.hook_base.specs.declared.file.File.{File}
use Rattle.hook_base.specs.declared.file.FileEntry.{FileEntry}
use Rattle.std.specs.Cmp.Lexicographic.{bytes_decides}
use Rattle.hook_base.specs.Rising.{IsBelow, IsBelowAll}
use Rattle.hook_base.specs.RisingLemmas.{below_all_later, bytes_differ, path_cases}
use Rattle.hook_base.specs.Trees.{IsRising, apply_at, apply_changes, entry_of, path_of, remove_file, rewrite_file, with_bytes}
use Rattle.hook_base.specs.TreeLemmas.{entry_of-first, entry_of-later, entry_of-rest, same_rows}
use Rattle.file_tags.specs.ChangedFiles.{IsChangedAt, is_among, paths_named, row_with}

-- ---- what changes leave as it was

or_false : (a b : Bool) → (a || b) ≡ false → (a ≡ false) × (b ≡ false)
or_false true b h = absurd (cc)
or_false false b h = (refl, h)

-- paths that aren't the same as a third differ from one that is
differs_from_same : (path at other : List ℕ) → bytes_eq at path ≡ false → bytes_eq at other ≡ true → bytes_eq path other ≡ false
differs_from_same path at other differs same =
    let is : at ≡ other = (bytes_decides at other).0 same in
    bytes_differ path other (λ e. let again = (bytes_decides at path).1 (is ∙ sym e) in cc)

module _ (path at : List ℕ) (differs : bytes_eq at path ≡ false) where
  removed_elsewhere : (rows : List File) → entry_of path (remove_file at rows) ≡ entry_of path rows
  removed_elsewhere [] = refl
  removed_elsewhere (row ∷ rows) =
      elim (bytes_eq at row.path) as (λ b. bytes_eq at row.path ≡ b → entry_of path (if b then remove_file at rows else row ∷ remove_file at rows) ≡ entry_of path (row ∷ rows)) [
        | true ↦ λ e. rw (differs_from_same path at row.path differs e) (removed_elsewhere rows)
        | false ↦ λ e. ap (λ (rest : Option FileEntry). if bytes_eq path row.path then Some row.entry else rest) (removed_elsewhere rows)
      ] refl

  rewritten_elsewhere : (bytes : List ℕ) (rows : List File) → entry_of path (rewrite_file at bytes rows) ≡ entry_of path rows
  rewritten_elsewhere bytes [] = refl
  rewritten_elsewhere bytes (row ∷ rows) =
      elim (bytes_eq at row.path) as (λ b. bytes_eq at row.path ≡ b → entry_of path ((if b then with_bytes bytes row else row) ∷ rewrite_file at bytes rows) ≡ entry_of path (row ∷ rows)) [
        | true ↦ λ e. rw (differs_from_same path at row.path differs e) (rewritten_elsewhere bytes rows)
        | false ↦ λ e. ap (λ (rest : Option FileEntry). if bytes_eq path row.path then Some row.entry else rest) (rewritten_elsewhere bytes rows)
      ] refl

  applied_elsewhere : (now : Option (List ℕ)) (rows : List File) → entry_of path (apply_at at now rows) ≡ entry_of path rows
  applied_elsewhere None rows = removed_elsewhere rows
  applied_elsewhere (Some bytes) rows = rewritten_elsewhere bytes rows

elsewhere_same : (changes : List Change) (rows : List File) (path : List ℕ) → is_among (paths_named changes) path ≡ false → entry_of path (apply_changes changes rows) ≡ entry_of path rows
elsewhere_same [] rows path none = refl
elsewhere_same (change ∷ changes) rows path none =
    let parts = or_false (bytes_eq change.path path) (is_among (paths_named changes) path) none in
    elsewhere_same changes (apply_at change.path change.now rows) path parts.1 ∙ applied_elsewhere path change.path parts.0 change.now rows

-- ---- what isn't there stays away

absent_parts : (b : Bool) (entry : FileEntry) (rest : Option FileEntry) → (if b then Some entry else rest) ≡ None → (b ≡ false) × (rest ≡ None)
absent_parts true entry rest h = absurd (cc)
absent_parts false entry rest h = (refl, h)

removed_absent : (path at : List ℕ) (rows : List File) → entry_of path rows ≡ None → entry_of path (remove_file at rows) ≡ None
removed_absent path at [] none = refl
removed_absent path at (row ∷ rows) none =
    let parts = absent_parts (bytes_eq path row.path) row.entry (entry_of path rows) none in
    elim (bytes_eq at row.path) as (λ b. entry_of path (if b then remove_file at rows else row ∷ remove_file at rows) ≡ None) [
      | true ↦ removed_absent path at rows parts.1
      | false ↦ rw parts.0 (removed_absent path at rows parts.1)
    ]

rewritten_absent : (path at bytes : List ℕ) (rows : List File) → entry_of path rows ≡ None → entry_of path (rewrite_file at bytes rows) ≡ None
rewritten_absent path at bytes [] none = refl
rewritten_absent path at bytes (row ∷ rows) none =
    let parts = absent_parts (bytes_eq path row.path) row.entry (entry_of path rows) none in
    elim (bytes_eq at row.path) as (λ b. entry_of path ((if b then with_bytes bytes row else row) ∷ rewrite_file at bytes rows) ≡ None) [
      | true ↦ rw parts.0 (rewritten_absent path at bytes rows parts.1)
      | false ↦ rw parts.0 (rewritten_absent path at bytes rows parts.1)
    ]

applied_absent : (path at : List ℕ) (now : Option (List ℕ)) (rows : List File) → entry_of path rows ≡ None → entry_of path (apply_at at now rows) ≡ None
applied_absent path at None rows none = removed_absent path at rows none
applied_absent path at (Some bytes) rows none = rewritten_absent path at bytes rows none

absent_stays : (changes : List Change) (rows : List File) (path : List ℕ) → entry_of path rows ≡ None → entry_of path (apply_changes changes rows) ≡ None
absent_stays [] rows path none = none
absent_stays (change ∷ changes) rows path none =
    absent_stays changes (apply_at change.path change.now rows) path (applied_absent path change.path change.now rows none)

pub changed_at : (changes : List Change) (paths : List (List ℕ)) (old new : List File) → new ≡ apply_changes changes old → ((path : List ℕ) → is_among paths path ≡ is_among (paths_named changes) path)
    → IsChangedAt paths old new
changed_at changes paths old new applied same = record {
  elsewhere = λ path none. ap (entry_of path) applied ∙ elsewhere_same changes old path (sym (same path) ∙ none);
  absent = λ path none. ap (entry_of path) applied ∙ absent_stays changes old path none;
}

-- ---- the rows that the new tree holds at the paths of the old one

abbrev pub rows_in : List File → List File → List File
rows_in new [] = []
rows_in new (row ∷ rows) = row_with row.path (entry_of row.path new) ++ rows_in new rows

below_row_with : (path at : List ℕ) (entry : Option FileEntry) (rows : List File) → IsBelow path at → IsBelowAll path_of path rows → IsBelowAll path_of path (row_with at entry ++ rows)
below_row_with path at None rows below all = all
below_row_with path at (Some entry) rows below all = (below, all)

below_rows_in : (new : List File) (path : List ℕ) (rows : List File) → IsBelowAll path_of path rows → IsBelowAll path_of path (rows_in new rows)
below_rows_in new path [] all = tt
below_rows_in new path (row ∷ rows) all =
    below_row_with path row.path (entry_of row.path new) (rows_in new rows) all.0 (below_rows_in new path rows all.1)

rising_row_with : (path : List ℕ) (entry : Option FileEntry) (rows : List File) → IsBelowAll path_of path rows → IsRising rows → IsRising (row_with path entry ++ rows)
rising_row_with path None rows all rising = rising
rising_row_with path (Some entry) rows all rising = (all, rising)

rising_rows_in : (new rows : List File) → IsRising rows → IsRising (rows_in new rows)
rising_rows_in new [] rising = tt
rising_rows_in new (row ∷ rows) rising =
    rising_row_with row.path (entry_of row.path new) (rows_in new rows) (below_rows_in new row.path rows rising.0) (rising_rows_in new rows rising.1)

at_row_with : (path : List ℕ) (entry : Option FileEntry) (rows : List File) → IsBelowAll path_of path rows → entry_of path (row_with path entry ++ rows) ≡ entry
at_row_with path None rows all = entry_of-later path rows all
at_row_with path (Some entry) rows all = entry_of-first path (record { path = path; entry = entry }) rows refl

behind_row_with : (path at : List ℕ) (entry : Option FileEntry) (rows : List File) → IsBelow at path → entry_of path (row_with at entry ++ rows) ≡ entry_of path rows
behind_row_with path at None rows below = refl
behind_row_with path at (Some entry) rows below = entry_of-rest path (record { path = at; entry = entry }) rows below

-- the second where there is the first
abbrev where_held : Option FileEntry → Option FileEntry → Option FileEntry
where_held None entry = None
where_held (Some held) entry = entry

entry_in : (new : List File) (path : List ℕ) (rows : List File) → IsRising rows → entry_of path (rows_in new rows) ≡ where_held (entry_of path rows) (entry_of path new)
entry_in new path [] rising = refl
entry_in new path (row ∷ rows) rising =
    elim (path_cases path row.path) [
      | inl (inl below) ↦
          let all : IsBelowAll path_of path (row ∷ rows) = (below, below_all_later path_of path row.path rows below rising.0) in
          entry_of-later path (rows_in new (row ∷ rows)) (below_rows_in new path (row ∷ rows) all)
          ∙ sym (ap (λ (held : Option FileEntry). where_held held (entry_of path new)) (entry_of-later path (row ∷ rows) all))
      | inl (inr same) ↦
          let here : entry_of row.path (rows_in new (row ∷ rows)) ≡ entry_of row.path new =
          at_row_with row.path (entry_of row.path new) (rows_in new rows) (below_rows_in new row.path rows rising.0) in
          ap (λ (p : List ℕ). entry_of p (rows_in new (row ∷ rows))) same
          ∙ here
          ∙ ap (λ (p : List ℕ). entry_of p new) (sym same)
          ∙ sym (ap (λ (held : Option FileEntry). where_held held (entry_of path new)) (entry_of-first path row rows same))
      | inr above ↦
          behind_row_with path row.path (entry_of row.path new) (rows_in new rows) above
          ∙ entry_in new path rows rising.1
          ∙ sym (ap (λ (held : Option FileEntry). where_held held (entry_of path new)) (entry_of-rest path row rows above))
    ]

all_held : (old new : List File) (path : List ℕ) → (entry_of path old ≡ None → entry_of path new ≡ None) → (held : Option FileEntry) → entry_of path old ≡ held
    → where_held held (entry_of path new) ≡ entry_of path new
all_held old new path absent None is = sym (absent is)
all_held old new path absent (Some entry) is = refl

-- these are all rows of the new tree, where it holds nothing elsewhere
pub rows_in_all : (paths : List (List ℕ)) (old new : List File) → IsRising old → IsRising new → IsChangedAt paths old new → rows_in new old ≡ new
rows_in_all paths old new rising_old rising_new changed =
    same_rows (rows_in new old) new (rising_rows_in new old rising_old) rising_new (λ path. entry_in new path old rising_old ∙ all_held old new path (changed.absent path) (entry_of path old) refl)
