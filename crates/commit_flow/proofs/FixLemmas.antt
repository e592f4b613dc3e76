-- The changes of staged files are all fixes.
use Rattle.std.proofs.Common.{◌≡◌, ◌∙◌, ap, refl, ℕ, Bool, true, false, List, [], ◌∷◌, ◌++◌, Option, None, Some}
use Rattle.std.proofs.lemmas.List.Elements.{filter-append}
use Rattle.std.specs.Prelude.{filter, is_some, if◌then◌else◌}
use Rattle.std.specs.Str.{bytes_eq}
use Rattle.hook_base.specs.declared.change.Change.{Change}
use Rattle.hook_base.specs.declared.file.File.{File}
use Rattle.hook_base.specs.declared.file.FileEntry.{FileEntry}
use Rattle.hook_base.specs.RisingLemmas.{bytes_same}
use Rattle.hook_base.specs.Trees.{change_to, changes_between, entry_of}
use Rattle.repo_store.specs.Kept.{Kept, setting}
use Rattle.repo_store.specs.Repository.{staged_changes}
use Rattle.commit_flow.specs.Runs.{fixing}

abbrev is_there : List File → List ℕ → Bool
is_there files path = is_some (entry_of path files)

abbrev AreThere : List File → List File → Type 0
AreThere files [] = Unit {0}
AreThere files (row ∷ rows) = (is_there files row.path ≡ true) × AreThere files rows

there_behind : (path : List ℕ) (row : File) (rows : List File) → is_there rows path ≡ true → is_there (row ∷ rows) path ≡ true
there_behind path row rows there = elim (bytes_eq path row.path) as (λ b. is_some (if b then Some row.entry else entry_of path rows) ≡ true) [ true ↦ refl | false ↦ there ]

all_behind : (row : File) (files rows : List File) → AreThere files rows → AreThere (row ∷ files) rows
all_behind row files [] all = tt
all_behind row files (other ∷ rows) all = (there_behind other.path row files all.0, all_behind row files rows all.1)

there_first : (row : File) (rows : List File) → is_there (row ∷ rows) row.path ≡ true
there_first row rows = rw (bytes_same row.path row.path refl) refl

all_there : (files : List File) → AreThere files files
all_there [] = tt
all_there (row ∷ rows) = (there_first row rows, all_behind row rows rows (all_there rows))

module _ (files : List File) where
  abbrev keeps : Change → Bool
  keeps change = is_there files change.path

  kept_change : (row : File) (now : Option FileEntry) → is_there files row.path ≡ true → filter keeps (change_to row now) ≡ change_to row now
  kept_change row None there = rw there refl
  kept_change row (Some entry) there =
      elim (bytes_eq row.entry.bytes entry.bytes) as (λ b. filter keeps (if b then [] else (record { path = row.path; now = Some entry.bytes } ∷ []))
      ≡ (if b then [] else (record { path = row.path; now = Some entry.bytes } ∷ []))) [
        | true ↦ refl
        | false ↦ rw there refl
      ]

  kept_changes : (rows after : List File) → AreThere files rows → filter keeps (changes_between rows after) ≡ changes_between rows after
  kept_changes [] after all = refl
  kept_changes (row ∷ rows) after all =
      let first = change_to row (entry_of row.path after) in
      let rest = changes_between rows after in
      filter-append keeps first rest
      ∙ ap (λ (l : List Change). l ++ filter keeps rest) (kept_change row (entry_of row.path after) all.0)
      ∙ ap (λ (l : List Change). first ++ l) (kept_changes rows after all.1)

pub changes_are_staged : (staged after : List File) → staged_changes (changes_between staged after) staged ≡ changes_between staged after
changes_are_staged staged after = kept_changes staged staged after (all_there staged)

pub setting_is_fixing : (kept : Kept) (changes : List Change) → staged_changes changes kept.repo.staged ≡ changes → (setting changes kept).repo ≡ fixing changes kept.repo
setting_is_fixing kept changes staged = ap (λ (fixes : List Change). record kept.repo { fixes = fixes }) staged
