-- The place of a path among held files, and what a file put there makes of them.
use Rattle.hook_base.specs.declared.change.Change.{Change}
use Rattle.std.proofs.Common.{◌≡◌, ℕ, zero, suc, ◌+◌, ◌<◌, ◌≤◌, List, [], ◌∷◌, ◌++◌, map, length, take, drop, get_or, set, true, false, IsTrue, Result, Ok, Err, MatchResult, OnErr, is_ok, if◌then◌else◌, sym, ap, ap₂, ◌∙◌, arith, is_some, refl, Option, None, Some, option_map, slice_get}
use Rattle.std.specs.List.{insert, remove, drop-map, HoldsAt}
use Rattle.std.specs.List.Sorted.{IsNonDecreasingBy, IsBinarySearchResult}
use Rattle.std.specs.Str.{bytes_eq}
use Rattle.std.specs.Ordering.{is_lt, ordering_index}
use Rattle.std.specs.declared.cmp.Ordering.{Ordering}
use Rattle.std.specs.declared.cmp.Ordering.TheVariants.{Less, Equal, Greater}
use Rattle.std.specs.Cmp.Lexicographic.{nat_list_cmp_total}
use Rattle.std.proofs.lemmas.Bool.{leb-true, le-leb}
use Rattle.std.proofs.lemmas.List.{map-append, map-set, length-map, take-map, length-set}
use Rattle.std.proofs.lemmas.List.Edits.{length-insert}
use Rattle.std.proofs.lemmas.List.Sums.{sum_by-insert, sum_by-cons, sum_by-remove}
use Rattle.std.proofs.lemmas.List.Sorted.{searchable_from_sorted}
use lib.ListN.{get_or-map}
use lib.Dec.{leb}
use Rattle.hook_base.specs.declared.file.File.{File}
use Rattle.hook_base.specs.declared.file.Mode.TheVariants.{Plain}
use Rattle.hook_base.specs.Rising.{IsBelowAll, IsRisingBy, path_cmp}
use Rattle.hook_base.specs.RisingLemmas.{above_differs, below_from_greater, bytes_same, greater_from_below, path_tied, path_itself, rising_pair}
use Rattle.hook_base.specs.Places.{IsAt, IsGap}
use Rattle.hook_base.specs.Trees.{IsRising, path_of, put_row, remove_file, entry_of, rewrite_file, with_bytes, apply_at, apply_changes}
use Rattle.hook_base.specs.TreeLemmas.{put_row-at, put_row-gap, gap_within, at_within, entry_of-at, entry_of-gap, remove_file-at}
use Rattle.hook_base.proofs.PlaceLemmas.{found}
use Rattle.repo_store.specs.Shared.{FileParts}
use Rattle.store_faults.specs.Limits.{Fits, path_bytes, most_files, most_tree_path_bytes}
use Rattle.repo_store.specs.Lists.{entry_in, file_of}

abbrev path_in : FileParts → List ℕ
path_in file = file.path

below_held : (path : List ℕ) (files : List FileParts) → IsBelowAll path_of path (map file_of files) → IsBelowAll path_in path files
below_held path [] all = tt
below_held path (file ∷ files) all = (all.0, below_held path files all.1)

held_rise : (files : List FileParts) → IsRising (map file_of files) → IsRisingBy path_in files
held_rise [] rising = tt
held_rise (file ∷ files) rising = (below_held file.path files rising.0, held_rise files rising.1)

module _ (path : List ℕ) where
  abbrev pub side : FileParts → Ordering
  side file = path_cmp file.path path

  sides_rise : (files : List FileParts) → IsRising (map file_of files) → IsNonDecreasingBy (λ y. ordering_index (side y)) files
  sides_rise files rising =
      searchable_from_sorted nat_list_cmp_total path_in files path
      (λ k d low high. ap is_lt (greater_from_below (get_or files k d).path (get_or files (k + 1) d).path (rising_pair path_in files k (k + 1) d d (omega arith) high (held_rise files rising))))

  at_equal : (files : List FileParts) (k : ℕ) → k < length files → IsRising (map file_of files) → HoldsAt (λ y. side y ≡ Equal) files k → IsAt path (map file_of files) k
  at_equal [] k within rising equal = absurd (omega arith)
  at_equal (file ∷ files) k within rising equal =
      let all = file ∷ files in
      let inside : k < length (map file_of all) = omega (arith, length-map all file_of) in
      let same : path ≡ (get_or all k file).path = sym (path_tied (get_or all k file).path path (equal file)) in
      found path (map file_of all) k (file_of file) inside rising (same ∙ ap (λ (r : File). r.path) (sym (get_or-map file_of all k file)))

  gap_between : (files : List FileParts) (k : ℕ) → k ≤ length files → ((j : ℕ) (d : FileParts) → 0 ≤ j → j < k → side (get_or files j d) ≡ Less)
      → ((j : ℕ) (d : FileParts) → k ≤ j → j < length files → side (get_or files j d) ≡ Greater)
      → IsGap path (map file_of files) k
  gap_between [] zero within before after = tt
  gap_between [] (suc k) within before after = absurd (omega arith)
  gap_between (file ∷ files) zero within before after = (
    below_from_greater path file.path (after 0 file (omega arith) (omega arith)),
    gap_between files zero (omega arith) (λ j d low high. absurd (omega arith))
        (λ j d low high. after (suc j) d (omega arith) (omega arith)),
  )
  gap_between (file ∷ files) (suc k) within before after = (
    record { is_less = before 0 file (omega arith) (omega arith) },
    gap_between files k (omega arith) (λ j d low high. before (suc j) d (omega arith) (omega arith))
        (λ j d low high. after (suc j) d (omega arith) (omega arith)),
  )

  -- what the search by halves says
  pub placed : (files : List FileParts) (r : Result ℕ ℕ) → IsRising (map file_of files) → MatchResult r (λ k. k < length files) (λ k. k ≤ length files) → IsBinarySearchResult side files r
      → MatchResult r (IsAt path (map file_of files)) (IsGap path (map file_of files))
  placed files (Ok k) rising within it = at_equal files k within rising it
  placed files (Err k) rising within it = let parts = it (sides_rise files rising) in gap_between files k within parts.0 parts.1

-- ---- what the files come to

abbrev path_length : File → ℕ
path_length file = length file.path

pub bytes_at : (new : File) (rows : List File) (k : ℕ) → IsAt new.path rows k → path_bytes (put_row new rows) ≡ path_bytes rows
bytes_at new [] k at = absurd at
bytes_at new (row ∷ rows) zero at =
    rw (path_itself new.path row.path at) (sum_by-cons path_length new rows ∙ ap (λ (p : List ℕ). length p + path_bytes rows) at ∙ sym (sum_by-cons path_length row rows))
bytes_at new (row ∷ rows) (suc k) at =
    rw (greater_from_below row.path new.path at.0) (sum_by-cons path_length row (put_row new rows) ∙ ap (λ n. length row.path + n) (bytes_at new rows k at.1) ∙ sym (sum_by-cons path_length row rows))

pub fits_at : (new : File) (rows : List File) (k : ℕ) → IsAt new.path rows k → Fits rows → Fits (put_row new rows)
fits_at new rows k at fits =
    let same = ap length (put_row-at new rows k at) ∙ length-set rows k new in
    let bytes = bytes_at new rows k at in
    let files_fit = fits.files_fit in
    let paths_fit = fits.paths_fit in
    record { files_fit = rw same files_fit; paths_fit = rw bytes paths_fit }

module _ (new : File) (rows : List File) (k : ℕ) (gap : IsGap new.path rows k) where
  one_more : length (put_row new rows) ≡ length rows + 1
  one_more = ap length (put_row-gap new rows k gap) ∙ length-insert rows k new (let within = gap_within new.path rows k gap in omega arith)

  pub more_bytes : path_bytes (put_row new rows) ≡ path_bytes rows + length new.path
  more_bytes = ap path_bytes (put_row-gap new rows k gap) ∙ sum_by-insert (λ (file : File). length file.path) rows k new

  pub fits_gap : (bytes : ℕ) → bytes ≡ path_bytes rows + length new.path → length rows < most_files
      → (IsTrue (leb bytes most_tree_path_bytes) → Fits (put_row new rows)) × (Fits (put_row new rows) → IsTrue (leb bytes most_tree_path_bytes))
  fits_gap bytes is room = (
    λ small. let most = leb-true bytes most_tree_path_bytes small in record { files_fit = omega (arith, one_more); paths_fit = omega (arith, more_bytes) },
    λ fits. le-leb bytes most_tree_path_bytes (let paths_fit = fits.paths_fit in omega (arith, more_bytes)),
  )

  pub full_gap : most_files ≤ length rows → Fits (put_row new rows) → ⊥
  full_gap full fits = let files_fit = fits.files_fit in omega (arith, one_more)

at_path : (path : List ℕ) (rows : List File) (k : ℕ) (d : File) → IsAt path rows k → path ≡ (get_or rows k d).path
at_path path [] k d at = absurd at
at_path path (row ∷ rows) zero d at = at
at_path path (row ∷ rows) (suc k) d at = at_path path rows k d at.1

pub less_bytes : (path : List ℕ) (rows : List File) (k : ℕ) (d : File) → IsRising rows → IsAt path rows k → path_bytes rows ≡ path_bytes (remove_file path rows) + length path
less_bytes path rows k d rising at =
    let total = sum_by-remove path_length rows k d (at_within path rows k at) in
    let rest = ap path_bytes (remove_file-at path rows k rising at) in
    let one = ap length (at_path path rows k d at) in
    omega arith

-- the files of the other paths fit where all do
pub fits_removed : (path : List ℕ) (rows : List File) → Fits rows → Fits (remove_file path rows)
fits_removed path rows fits =
    let less = removed path rows in
    let files_fit = fits.files_fit in
    let paths_fit = fits.paths_fit in
    record { files_fit = omega arith; paths_fit = omega arith }
  where
    removed : (path : List ℕ) (rows : List File) → (length (remove_file path rows) ≤ length rows) × (path_bytes (remove_file path rows) ≤ path_bytes rows)
    removed path [] = (omega arith, omega arith)
    removed path (row ∷ rows) =
        let rest = removed path rows in
        elim (bytes_eq path row.path) as (λ b. (length (if b then remove_file path rows else row ∷ remove_file path rows) ≤ suc (length rows))
        × (path_bytes (if b then remove_file path rows else row ∷ remove_file path rows) ≤ path_bytes (row ∷ rows))) [
          | true ↦ (omega arith, omega (arith, sum_by-cons path_length row rows))
          | false ↦ (omega arith, omega (arith, sum_by-cons path_length row rows, sum_by-cons path_length row (remove_file path rows)))
        ]

-- ---- put among held files

pub held_set : (files : List FileParts) (k : ℕ) (new : FileParts) → IsAt new.path (map file_of files) k → map file_of (set files k new) ≡ put_row (file_of new) (map file_of files)
held_set files k new at = map-set file_of files k new ∙ sym (put_row-at (file_of new) (map file_of files) k at)

pub held_insert : (files : List FileParts) (k : ℕ) (new : FileParts) → IsGap new.path (map file_of files) k → map file_of (insert files k new) ≡ put_row (file_of new) (map file_of files)
held_insert files k new gap =
    map-append file_of (take k files) (new ∷ drop k files) ∙ ap₂ (λ (a b : List File). a ++ (file_of new ∷ b)) (sym (take-map file_of k files)) (sym (drop-map file_of k files))
    ∙ sym (put_row-gap (file_of new) (map file_of files) k gap)

pub held_remove : (files : List FileParts) (k : ℕ) (path : List ℕ) → IsRising (map file_of files) → IsAt path (map file_of files) k
    → map file_of (remove files k) ≡ remove_file path (map file_of files)
held_remove files k path rising at =
    map-append file_of (take k files) (drop (suc k) files) ∙ ap₂ (λ (a b : List File). a ++ b) (sym (take-map file_of k files)) (sym (drop-map file_of (suc k) files))
    ∙ sym (remove_file-at path (map file_of files) k rising at)

-- what fails for want of room alone does not fail where there is room
pub made_room : {T E X : Type 0} (r : Result T E) (n most : ℕ) (x a b : X) → OnErr r (most ≤ n) → n < most → x ≡ (if is_ok r then a else b) → x ≡ a
made_room (Ok y) n most x a b full room is = is
made_room (Err y) n most x a b full room is = absurd (omega arith)

pub has_placed : (path : List ℕ) (rows : List File) (r : Result ℕ ℕ) → MatchResult r (IsAt path rows) (IsGap path rows) → is_ok r ≡ is_some (entry_of path rows)
has_placed path rows (Ok k) at = rw (entry_of-at path rows k (record { path = []; entry = record { mode = Plain; bytes = [] } }) at) refl
has_placed path rows (Err k) gap = rw (entry_of-gap path rows k gap) refl

pub found_at : (path : List ℕ) (files : List FileParts) (k : ℕ) → IsAt path (map file_of files) k → option_map entry_in (slice_get files k) ≡ entry_of path (map file_of files)
found_at path [] k at = absurd at
found_at path (file ∷ files) zero at = rw (bytes_same path file.path at) refl
found_at path (file ∷ files) (suc k) at = rw (above_differs path file.path at.0) (found_at path files k at.1)

-- ---- a fix among held files

fits_rewritten : (path bytes : List ℕ) (rows : List File) → (length (rewrite_file path bytes rows) ≡ length rows) × (path_bytes (rewrite_file path bytes rows) ≡ path_bytes rows)
fits_rewritten path bytes [] = (refl, refl)
fits_rewritten path bytes (row ∷ rows) =
    let rest = fits_rewritten path bytes rows in
    let new : File = if bytes_eq path row.path then with_bytes bytes row else row in
    let one : length new.path ≡ length row.path = elim (bytes_eq path row.path) as (λ b. length (if b then with_bytes bytes row else row).path ≡ length row.path) [ true ↦ refl | false ↦ refl ] in
    (ap suc rest.0, sum_by-cons path_length new (rewrite_file path bytes rows) ∙ ap₂ (λ (a b : ℕ). a + b) one rest.1 ∙ sym (sum_by-cons path_length row rows))

fits_applied_one : (path : List ℕ) (now : Option (List ℕ)) (rows : List File) → Fits rows → Fits (apply_at path now rows)
fits_applied_one path None rows fits = fits_removed path rows fits
fits_applied_one path (Some bytes) rows fits =
    let same = fits_rewritten path bytes rows in
    let count = same.0 in
    let total = same.1 in
    let files_fit = fits.files_fit in
    let paths_fit = fits.paths_fit in
    record { files_fit = omega arith; paths_fit = omega arith }

pub fits_applied : (changes : List Change) (rows : List File) → Fits rows → Fits (apply_changes changes rows)
fits_applied [] rows fits = fits
fits_applied (change ∷ changes) rows fits = fits_applied changes (apply_at change.path change.now rows) (fits_applied_one change.path change.now rows fits)
