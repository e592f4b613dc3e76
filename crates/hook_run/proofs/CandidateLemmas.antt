-- The files of a tree at candidates' paths: how they are put together, what changes make of them, and what is selected of them.
use Rattle.std.proofs.Common.{◌≡◌, ◌∙◌, ap, sym, subst, refl, inl, inr, ℕ, ◌+◌, ◌<◌, Bool, true, false, ◌&&◌, if◌then◌else◌, List, [], ◌∷◌, ◌++◌, Bor, length, get_or, take, map, filter, Option, None, Some}
use Rattle.std.specs.Prelude.{◌||◌}
use Rattle.std.specs.Str.{bytes_eq}
use Rattle.std.proofs.lemmas.List.{take_more, map-append}
use Rattle.hook_base.specs.declared.change.Change.{Change}
use Rattle.hook_base.specs.declared.file.File.{File}
use Rattle.hook_base.specs.declared.file.FileEntry.{FileEntry}
use Rattle.hook_base.specs.Rising.{IsBelow, IsBelowAll}
use Rattle.hook_base.specs.RisingLemmas.{above_differs, below_all_filter, below_all_later, below_differs, bytes_same, greater_from_below, path_cases, path_itself}
use Rattle.hook_base.specs.Trees.{IsRising, apply_at, apply_changes, entry_of, path_of, put_file, put_found, put_row, remove_file, rewrite_file, with_bytes}
use Rattle.hook_base.specs.TreeLemmas.{entry_of-first, entry_of-later, entry_of-rest}
use Rattle.child_port.specs.Outcomes.{after_outcome}
use Rattle.child_port.specs.declared.answer.Outcome.{Outcome}
use Rattle.child_port.specs.declared.answer.Outcome.TheVariants.{Done, Failed}
use Rattle.path_select.specs.Candidates.{ArePassing, is_candidate, passes, paths_of}
use Rattle.path_select.specs.Selection.{RuleTexts, fits_hook, selected_among}
use Rattle.hook_run.specs.CandidateFiles.{files_at}
use mathlib.Core.Path.{fun_ext}

-- ---- one path more

-- lists of the same candidates have the same files
pub files-same : (candidates others : List (List ℕ)) (tree : List File) → ((path : List ℕ) → is_candidate candidates path ≡ is_candidate others path) → files_at candidates tree ≡ files_at others tree
files-same candidates others tree same =
    ap (λ test. filter test tree) (fun_ext (λ (file : File). same file.path))

or-assoc : (a b c : Bool) → (a || (b || c)) ≡ ((a || b) || c)
or-assoc true b c = refl
or-assoc false b c = refl

candidate-more : (paths : List (List ℕ)) (path other : List ℕ) → is_candidate (paths ++ path ∷ []) other ≡ (is_candidate paths other || bytes_eq path other)
candidate-more [] path other = elim (bytes_eq path other) as (λ b. (b || false) ≡ b) [ true ↦ refl | false ↦ refl ]
candidate-more (first ∷ paths) path other =
    ap (λ rest. bytes_eq first other || rest) (candidate-more paths path other) ∙ or-assoc (bytes_eq first other) (is_candidate paths other) (bytes_eq path other)

or-true : (b : Bool) → (b || true) ≡ true
or-true true = refl
or-true false = refl

or-false : (b : Bool) → (b || false) ≡ b
or-false true = refl
or-false false = refl

module _ (paths : List (List ℕ)) (path : List ℕ) where
  abbrev more : List (List ℕ)
  more = paths ++ path ∷ []

  other-path : (other : List ℕ) → bytes_eq path other ≡ false → is_candidate more other ≡ is_candidate paths other
  other-path other differs = candidate-more paths path other ∙ ap (λ b. is_candidate paths other || b) differs ∙ or-false (is_candidate paths other)

  this-path : (other : List ℕ) → bytes_eq path other ≡ true → is_candidate more other ≡ true
  this-path other same = candidate-more paths path other ∙ ap (λ b. is_candidate paths other || b) same ∙ or-true (is_candidate paths other)

  -- a path before all rows adds none of them
  later-rows : (rows : List File) → IsBelowAll path_of path rows → files_at more rows ≡ files_at paths rows
  later-rows [] below = refl
  later-rows (row ∷ rows) below = rw (other-path row.path (below_differs path row.path below.0), later-rows rows below.1) refl

  put-before : (row : File) (rows : List File) → IsBelowAll path_of row.path rows → put_row row rows ≡ row ∷ rows
  put-before row [] below = refl
  put-before row (next ∷ rows) below = rw below.0.is_less refl

  put-again : (row : File) (rows : List File) (kept : Bool) → IsBelowAll path_of row.path rows → put_row row (if kept then row ∷ rows else rows) ≡ row ∷ rows
  put-again row rows true below = rw (path_itself row.path row.path refl) refl
  put-again row rows false below = put-before row rows below

  put-behind : (row : File) (rows : List File) (found : Option FileEntry) (kept : Bool) → IsBelow row.path path
      → put_found path found (if kept then row ∷ rows else rows) ≡ (if kept then row ∷ put_found path found rows else put_found path found rows)
  put-behind row rows None kept above = refl
  put-behind row rows (Some entry) true above = rw (greater_from_below row.path path above) refl
  put-behind row rows (Some entry) false above = refl

  put-here : (row : File) (rows : List File) → path ≡ row.path → IsRising (row ∷ rows) → put_found path (entry_of path (row ∷ rows)) (files_at paths (row ∷ rows)) ≡ files_at more (row ∷ rows)
  put-here row rows same rising =
      let after : IsBelowAll path_of path rows = subst (λ (p : List ℕ). IsBelowAll path_of p rows) (sym same) rising.0 in
      let with_row : files_at more (row ∷ rows) ≡ row ∷ files_at paths rows = rw (this-path row.path (bytes_same path row.path same), later-rows rows after) refl in
      ap (λ (found : Option FileEntry). put_found path found (files_at paths (row ∷ rows))) (entry_of-first path row rows same)
      ∙ ap (λ (p : List ℕ). put_file p row.entry (files_at paths (row ∷ rows))) same
      ∙ put-again row (files_at paths rows) (is_candidate paths row.path) (below_all_filter path_of row.path (λ (file : File). is_candidate paths file.path) rows rising.0)
      ∙ sym with_row

  put-one : (rows : List File) → IsRising rows → put_found path (entry_of path rows) (files_at paths rows) ≡ files_at more rows
  put-one [] rising = refl
  put-one (row ∷ rows) rising =
      elim (path_cases path row.path) [
        | inl (inl below) ↦
            let all : IsBelowAll path_of path (row ∷ rows) = (below, below_all_later path_of path row.path rows below rising.0) in
            ap (λ (found : Option FileEntry). put_found path found (files_at paths (row ∷ rows))) (entry_of-later path (row ∷ rows) all) ∙ sym (later-rows (row ∷ rows) all)
        | inl (inr same) ↦ put-here row rows same rising
        | inr above ↦
            ap (λ (found : Option FileEntry). put_found path found (files_at paths (row ∷ rows))) (entry_of-rest path row rows above)
            ∙ put-behind row (files_at paths rows) (entry_of path rows) (is_candidate paths row.path) above
            ∙ ap (λ (rest : List File). if is_candidate paths row.path then row ∷ rest else rest) (put-one rows rising.1)
            ∙ ap (λ (b : Bool). if b then row ∷ files_at more rows else files_at more rows) (sym (other-path row.path (above_differs path row.path above)))
      ]

module _ (paths : List (Bor (List ℕ))) (k : ℕ) (path : Bor (List ℕ)) (within : k < length paths) (at : path ≡ get_or paths k path) where
  paths-more : paths_of (take (k + 1) paths) ≡ paths_of (take k paths) ++ path.now ∷ []
  paths-more =
      ap paths_of (take_more paths k path within)
      ∙ map-append (λ (one : Bor (List ℕ)). one.now) (take k paths) (get_or paths k path ∷ [])
      ∙ ap (λ (one : Bor (List ℕ)). paths_of (take k paths) ++ one.now ∷ []) (sym at)

  pub files-more : (tree : List File) → IsRising tree → put_found path.now (entry_of path.now tree) (files_at (paths_of (take k paths)) tree) ≡ files_at (paths_of (take (k + 1) paths)) tree
  files-more tree rising =
      put-one (paths_of (take k paths)) path.now tree rising ∙ ap (λ (some : List (List ℕ)). files_at some tree) (sym paths-more)

pub files-of_nothing : (tree : List File) → [] ≡ files_at [] tree
files-of_nothing [] = refl
files-of_nothing (row ∷ rows) = files-of_nothing rows

-- ---- changes

module _ (candidates : List (List ℕ)) (path : List ℕ) where
  gone : (row : File) (rows : List File) (kept : Bool) → bytes_eq path row.path ≡ true → remove_file path (if kept then row ∷ rows else rows) ≡ remove_file path rows
  gone row rows true same = rw same refl
  gone row rows false same = refl

  stays : (row : File) (rows : List File) (kept : Bool) → bytes_eq path row.path ≡ false
      → remove_file path (if kept then row ∷ rows else rows) ≡ (if kept then row ∷ remove_file path rows else remove_file path rows)
  stays row rows true differs = rw differs refl
  stays row rows false differs = refl

  removed : (rows : List File) → files_at candidates (remove_file path rows) ≡ remove_file path (files_at candidates rows)
  removed [] = refl
  removed (row ∷ rows) =
      elim (bytes_eq path row.path) as (λ b. bytes_eq path row.path ≡ b
      → files_at candidates (if b then remove_file path rows else row ∷ remove_file path rows) ≡ remove_file path (files_at candidates (row ∷ rows))) [
        | true ↦ λ e. removed rows ∙ sym (gone row (files_at candidates rows) (is_candidate candidates row.path) e)
        | false ↦ λ e.
            ap (λ (rest : List File). if is_candidate candidates row.path then row ∷ rest else rest) (removed rows)
            ∙ sym (stays row (files_at candidates rows) (is_candidate candidates row.path) e)
      ] refl

  module _ (bytes : List ℕ) where
    abbrev rewritten_if : Bool → File → File
    rewritten_if is row = if is then with_bytes bytes row else row

    path-stays : (is : Bool) (row : File) → (rewritten_if is row).path ≡ row.path
    path-stays true row = refl
    path-stays false row = refl

    rewritten-first : (row : File) (rows : List File) (kept : Bool) → rewrite_file path bytes (if kept then row ∷ rows else rows)
        ≡ (if kept then rewritten_if (bytes_eq path row.path) row ∷ rewrite_file path bytes rows else rewrite_file path bytes rows)
    rewritten-first row rows true = refl
    rewritten-first row rows false = refl

    rewritten : (rows : List File) → files_at candidates (rewrite_file path bytes rows) ≡ rewrite_file path bytes (files_at candidates rows)
    rewritten [] = refl
    rewritten (row ∷ rows) =
        let now = rewritten_if (bytes_eq path row.path) row in
        ap (λ (p : List ℕ). if is_candidate candidates p then now ∷ files_at candidates (rewrite_file path bytes rows) else files_at candidates (rewrite_file path bytes rows))
        (path-stays (bytes_eq path row.path) row)
        ∙ ap (λ (rest : List File). if is_candidate candidates row.path then now ∷ rest else rest) (rewritten rows)
        ∙ sym (rewritten-first row (files_at candidates rows) (is_candidate candidates row.path))

  changed-once : (now : Option (List ℕ)) (rows : List File) → files_at candidates (apply_at path now rows) ≡ apply_at path now (files_at candidates rows)
  changed-once None rows = removed rows
  changed-once (Some bytes) rows = rewritten bytes rows

files-changed : (candidates : List (List ℕ)) (changes : List Change) (tree : List File) → files_at candidates (apply_changes changes tree) ≡ apply_changes changes (files_at candidates tree)
files-changed candidates [] tree = refl
files-changed candidates (change ∷ changes) tree =
    files-changed candidates changes (apply_at change.path change.now tree) ∙ ap (apply_changes changes) (changed-once candidates change.path change.now tree)

-- what an outcome leaves of the files is what stands at the candidates' paths in the tree that it leaves
pub files-told : (candidates : List (List ℕ)) (tree files : List File) (outcome : Outcome) → files ≡ files_at candidates tree
    → after_outcome files outcome ≡ files_at candidates (after_outcome tree outcome)
files-told candidates tree files (Done answer) held = ap (apply_changes answer.changes) held ∙ sym (files-changed candidates answer.changes tree)
files-told candidates tree files (Failed fault) held = held

-- ---- what is selected

and-false : (b : Bool) → (b && false) ≡ false
and-false true = refl
and-false false = refl

module _ (rules : RuleTexts) (files exclude : List ℕ) (candidates among : List (List ℕ)) (passing : ArePassing files exclude candidates among) where
  abbrev keeps : File → Bool
  keeps row = is_candidate among row.path && fits_hook rules row

  kept-of_files : (rows : List File) → filter keeps (files_at candidates rows) ≡ filter keeps rows
  kept-of_files [] = refl
  kept-of_files (row ∷ rows) =
      elim (is_candidate candidates row.path) as (λ b. is_candidate candidates row.path ≡ b
      → filter keeps (if b then row ∷ files_at candidates rows else files_at candidates rows) ≡ filter keeps (row ∷ rows)) [
        | true ↦ λ e. ap (λ (rest : List File). if keeps row then row ∷ rest else rest) (kept-of_files rows)
        | false ↦ λ e.
            let none : is_candidate among row.path ≡ false = passing.exact row.path ∙ ap (λ (b : Bool). passes files exclude row.path && b) e ∙ and-false (passes files exclude row.path) in
            let left : filter keeps (row ∷ rows) ≡ filter keeps rows = rw none refl in
            kept-of_files rows ∙ sym left
      ] refl

  -- what is selected among candidates that pass is selected of the candidates' files
  pub selected-of_files : (tree : List File) → selected_among rules among (files_at candidates tree) ≡ selected_among rules among tree
  selected-of_files tree = ap (map path_of) (kept-of_files tree)
