-- What is chosen of candidates, looked up in the tree one by one, and when their tags needn't be made. This
-- serves private functions only.
use Rattle.std.specs.Prelude.{◌≡◌, ℕ, Bool, false, IsTrue, List, [], Option, None, Some, codes}
use Rattle.std.specs.List.{list_all}
use Rattle.std.specs.Str.{bytes_eq}
use Rattle.hook_base.specs.declared.file.File.{File}
use Rattle.hook_base.specs.declared.file.FileEntry.{FileEntry}
use Rattle.hook_base.specs.Trees.{entry_of}
use Rattle.path_select.specs.Selection.{RuleTexts, fits_hook}

-- there is a file at the path, and it fits the hook
abbrev pub fits_entry : RuleTexts → List ℕ → Option FileEntry → Bool
fits_entry rules path None = false
fits_entry rules path (Some entry) = fits_hook rules (record { path = path; entry = entry })

abbrev pub fits_at : RuleTexts → List File → List ℕ → Bool
fits_at rules tree path = fits_entry rules path (entry_of path tree)

-- each of the tags is the one that every file has
abbrev pub every_file_has : List (List ℕ) → Bool
every_file_has tags = list_all (λ tag. bytes_eq tag (codes "file")) tags

-- the hook asks for nothing but what every file has
pub record AsksForNone (rules : RuleTexts) : Type 0 where
  pub all_have : IsTrue (every_file_has rules.types)
  pub no_choice : rules.types_or ≡ []
  pub none_excluded : rules.exclude_types ≡ []
