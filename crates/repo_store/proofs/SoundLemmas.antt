-- Each change leaves a sound repository.
use Rattle.std.proofs.Common.{ℕ, ◌<◌, List, [], ◌∷◌, ◌++◌, length, arith, length-append, Bool, true, false, filter, None, is_some, if◌then◌else◌, inl, inr, refl, sym, ap, subst, ◌∙◌, ◌≤◌, ◌≡◌}
use Rattle.std.specs.List.{AllByRecursion}
use Rattle.hook_base.specs.declared.file.FileEntry.{FileEntry}
use Rattle.hook_base.specs.Trees.{IsRising, IsRisingChanges, path_of, entry_of, put_file}
use Rattle.hook_base.specs.TreeLemmas.{IsRising-put_row, IsRising-remove_file, entry_of-rest, entry_of-later, IsRising-apply_changes}
use Rattle.hook_base.specs.declared.file.File.{File}
use Rattle.hook_base.specs.declared.change.Change.{Change}
use Rattle.hook_base.specs.Rising.{IsBelowAll}
use Rattle.hook_base.specs.RisingLemmas.{path_cases, below_all_later, IsRisingBy-filter}
use Rattle.store_faults.specs.Limits.{Fits, most_commits, most_files}
use Rattle.repo_store.specs.Repository.{Commit, Repository, empty, with_staged_file, without_staged_file, with_new_commit, staged_changes, accepted}
use Rattle.repo_store.specs.Sound.{IsSound}
use Rattle.repo_store.proofs.PlaceLemmas.{fits_removed, fits_applied}

pub sound_empty : IsSound empty
sound_empty = record { staged_rise = tt; staged_fit = record { files_fit = omega arith; paths_fit = omega arith }; fixes_rise = tt; fixes_fit = omega arith; trees_rise = tt; numbered = omega arith }

pub sound_staged : (path : List ℕ) (entry : FileEntry) (repo : Repository) → IsSound repo → Fits (put_file path entry repo.staged) → IsSound (with_staged_file path entry repo)
sound_staged path entry repo sound fits = record {
  staged_rise = IsRising-put_row (record { path = path; entry = entry }) repo.staged sound.staged_rise;
  staged_fit = fits;
  fixes_rise = tt;
  fixes_fit = omega arith;
  trees_rise = sound.trees_rise;
  numbered = sound.numbered;
}

pub sound_unstaged : (path : List ℕ) (repo : Repository) → IsSound repo → IsSound (without_staged_file path repo)
sound_unstaged path repo sound = record {
  staged_rise = IsRising-remove_file path repo.staged sound.staged_rise;
  staged_fit = fits_removed path repo.staged sound.staged_fit;
  fixes_rise = tt;
  fixes_fit = omega arith;
  trees_rise = sound.trees_rise;
  numbered = sound.numbered;
}

all_pushed : (history : List Commit) (commit : Commit) → AllByRecursion (λ (c : Commit). IsRising c.tree) history → IsRising commit.tree
    → AllByRecursion (λ (c : Commit). IsRising c.tree) (history ++ commit ∷ [])
all_pushed [] commit all one = (one, tt)
all_pushed (first ∷ history) commit all one = (all.0, all_pushed history commit all.1 one)

pub sound_committed : (message : List ℕ) (repo : Repository) → IsSound repo → length repo.history < most_commits → IsSound (with_new_commit message repo)
sound_committed message repo sound room =
    let commit : Commit = record { message = message; tree = repo.staged } in
    record {
      staged_rise = sound.staged_rise;
      staged_fit = sound.staged_fit;
      fixes_rise = tt;
      fixes_fit = omega arith;
      trees_rise = all_pushed repo.history commit sound.trees_rise sound.staged_rise;
      numbered = omega (arith, length-append repo.history (commit ∷ []));
    }

-- ---- fixes

abbrev change_path : Change → List ℕ
change_path change = change.path

pub all_kept : {X : Type 0} (p : X → Bool) (xs : List X) → AllByRecursion (λ x. p x ≡ true) (filter p xs)
all_kept p [] = tt
all_kept {X} p (x ∷ xs) =
    elim (p x) as (λ b. p x ≡ b → AllByRecursion (λ (y : X). p y ≡ true) (if b then x ∷ filter p xs else filter p xs)) [ true ↦ λ e. (e, all_kept p xs) | false ↦ λ e. all_kept p xs ] refl

abbrev pub AreStaged : List Change → List File → Type 0
AreStaged changes rows = AllByRecursion (λ (change : Change). is_some (entry_of change.path rows) ≡ true) changes

staged_later : (row : File) (rows : List File) (changes : List Change) → IsBelowAll change_path row.path changes → AreStaged changes (row ∷ rows) → AreStaged changes rows
staged_later row rows [] below all = tt
staged_later row rows (change ∷ changes) below all = (ap is_some (sym (entry_of-rest change.path row rows below.0)) ∙ all.0, staged_later row rows changes below.1 all.1)

-- changes of staged files that rise are no more than the files
pub few : (changes : List Change) (rows : List File) → IsRisingChanges changes → IsRising rows → AreStaged changes rows → length changes ≤ length rows
few [] rows up rising all = omega arith
few (change ∷ changes) [] up rising all = absurd (let never : false ≡ true = all.0 in cc)
few (change ∷ changes) (row ∷ rows) up rising all =
    elim (path_cases change.path row.path) [
      | inl (inl below) ↦
          let none : entry_of change.path (row ∷ rows) ≡ None = entry_of-later change.path (row ∷ rows) (below, below_all_later path_of change.path row.path rows below rising.0) in
          absurd (let never : false ≡ true = sym (ap is_some none) ∙ all.0 in cc)
      | inl (inr same) ↦
          let rest = few changes rows up.1 rising.1 (staged_later row rows changes (subst (λ (p : List ℕ). IsBelowAll change_path p changes) same up.0) all.1) in omega arith
      | inr above ↦
          let rest = few (change ∷ changes) rows up rising.1 (staged_later row rows (change ∷ changes) (above, below_all_later change_path row.path change.path changes above up.0) all) in omega arith
    ]

pub fixes_fit : (changes : List Change) (repo : Repository) → IsSound repo → IsRisingChanges changes → length (staged_changes changes repo.staged) ≤ most_files
fixes_fit changes repo sound rising =
    let tests : Change → Bool = λ change. is_some (entry_of change.path repo.staged) in
    let up = IsRisingBy-filter change_path tests changes rising in
    let fewer = few (staged_changes changes repo.staged) repo.staged up sound.staged_rise (all_kept tests changes) in
    let most = sound.staged_fit.files_fit in
    omega arith

pub fixes_rise : (changes : List Change) (repo : Repository) → IsRisingChanges changes → IsRisingChanges (staged_changes changes repo.staged)
fixes_rise changes repo rising = IsRisingBy-filter change_path (λ change. is_some (entry_of change.path repo.staged)) changes rising

pub sound_accepted : (repo : Repository) → IsSound repo → IsSound (accepted repo)
sound_accepted repo sound = record {
  staged_rise = IsRising-apply_changes repo.fixes repo.staged sound.staged_rise;
  staged_fit = fits_applied repo.fixes repo.staged sound.staged_fit;
  fixes_rise = tt;
  fixes_fit = omega arith;
  trees_rise = sound.trees_rise;
  numbered = sound.numbered;
}
