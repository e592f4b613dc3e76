-- Lemmas: candidates looked up in a tree one by one are the files of the tree that are candidates.
use Rattle.std.proofs.Common.{◌≡◌, ℕ, Bool, true, false, ◌&&◌, if◌then◌else◌, List, [], ◌∷◌, map, filter, refl, ap, sym, ◌∙◌, inl, inr, subst}
use Rattle.hook_base.specs.declared.file.File.{File}
use Rattle.hook_base.specs.Rising.{IsBelowAll}
use Rattle.hook_base.specs.RisingLemmas.{below_all_later, below_differs, above_differs, bytes_same, path_cases}
use Rattle.hook_base.specs.Trees.{IsRising, path_of}
use Rattle.hook_base.specs.TreeLemmas.{entry_of-first, entry_of-later}
use Rattle.path_select.specs.Candidates.{AreRisingPaths, is_candidate}
use Rattle.path_select.specs.Chosen.{fits_at, fits_entry}
use Rattle.path_select.specs.Selection.{RuleTexts, fits_hook, selected_among}

abbrev itself : List ℕ → List ℕ
itself path = path

-- a path before all others is none of them
no_candidate : (path : List ℕ) (paths : List (List ℕ)) → IsBelowAll itself path paths → is_candidate paths path ≡ false
no_candidate path [] below = refl
no_candidate path (other ∷ paths) below = rw (above_differs other path below.0) (no_candidate path paths below.1)

with_path : (rules : RuleTexts) (path : List ℕ) (row : File) → path ≡ row.path → fits_hook rules (record { path = path; entry = row.entry }) ≡ fits_hook rules row
with_path rules path row same = ap (λ (p : List ℕ). fits_hook rules (record { path = p; entry = row.entry })) same

module _ (rules : RuleTexts) where
  abbrev keeps : List (List ℕ) → File → Bool
  keeps paths row = is_candidate paths row.path && fits_hook rules row

  none_among : (tree : List File) → selected_among rules [] tree ≡ []
  none_among [] = refl
  none_among (row ∷ rows) = none_among rows

  none_there : (paths : List (List ℕ)) → filter (fits_at rules []) paths ≡ []
  none_there [] = refl
  none_there (path ∷ paths) = none_there paths

  -- a path before all rows keeps none of them
  without_first : (path : List ℕ) (paths : List (List ℕ)) (rows : List File) → IsBelowAll path_of path rows → filter (keeps (path ∷ paths)) rows ≡ filter (keeps paths) rows
  without_first path paths [] below = refl
  without_first path paths (row ∷ rows) below =
      rw (below_differs path row.path below.0, without_first path paths rows below.1) refl

  -- a row before all paths isn't that of any
  later_paths : (row : File) (rows : List File) (paths : List (List ℕ)) → IsBelowAll itself row.path paths → filter (fits_at rules (row ∷ rows)) paths ≡ filter (fits_at rules rows) paths
  later_paths row rows [] below = refl
  later_paths row rows (path ∷ paths) below =
      rw (above_differs path row.path below.0, later_paths row rows paths below.1) refl

  same_row : (path : List ℕ) (paths : List (List ℕ)) (row : File) (rows : List File) → path ≡ row.path → IsBelowAll itself path paths → IsBelowAll path_of row.path rows
      → filter (fits_at rules rows) paths ≡ selected_among rules paths rows → filter (fits_at rules (row ∷ rows)) (path ∷ paths) ≡ selected_among rules (path ∷ paths) (row ∷ rows)
  same_row path paths row rows same up rising rest =
      let before : IsBelowAll itself row.path paths = subst (λ (p : List ℕ). IsBelowAll itself p paths) same up in
      let after : IsBelowAll path_of path rows = subst (λ (p : List ℕ). IsBelowAll path_of p rows) (sym same) rising in
      let fits = ap (fits_entry rules path) (entry_of-first path row rows same) ∙ with_path rules path row same in
      rw (fits, later_paths row rows paths before, rest, bytes_same path row.path same, without_first path paths rows after)
      (elim (fits_hook rules row) as (λ b. (if b then path ∷ selected_among rules paths rows else selected_among rules paths rows)
      ≡ map path_of (if b then row ∷ filter (keeps paths) rows else filter (keeps paths) rows)) [
        | true ↦ ap (λ (p : List ℕ). p ∷ selected_among rules paths rows) same
        | false ↦ refl
      ])

  pub looked_up : (paths : List (List ℕ)) (rows : List File) → AreRisingPaths paths → IsRising rows → filter (fits_at rules rows) paths ≡ selected_among rules paths rows
  looked_up [] rows up rising = sym (none_among rows)
  looked_up (path ∷ paths) [] up rising = none_there (path ∷ paths)
  looked_up (path ∷ paths) (row ∷ rows) up rising =
      elim (path_cases path row.path) [
        | inl (inl below) ↦
            let all : IsBelowAll path_of path (row ∷ rows) = (below, below_all_later path_of path row.path rows below rising.0) in
            let absent = ap (fits_entry rules path) (entry_of-later path (row ∷ rows) all) in
            rw absent (looked_up paths (row ∷ rows) up.1 rising ∙ ap (map path_of) (sym (without_first path paths (row ∷ rows) all)))
        | inl (inr same) ↦ same_row path paths row rows same up.0 rising.0 (looked_up paths rows up.1 rising.1)
        | inr above ↦
            let before : IsBelowAll itself row.path (path ∷ paths) = (above, below_all_later itself row.path path paths above up.0) in
            rw (later_paths row rows (path ∷ paths) before, no_candidate row.path (path ∷ paths) before) (looked_up (path ∷ paths) rows up rising.1)
      ]
