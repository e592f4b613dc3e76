-- Which files of a tree a hook gets. (docs/REFERENCE.md, "Patterns and selection".)
use Rattle.std.specs.Prelude.{ℕ, Bool, true, not, ◌&&◌, List, [], ◌∷◌, codes, map, filter}
use Rattle.std.specs.List.{list_any, list_all}
use Rattle.hook_base.specs.declared.file.File.{File}
use Rattle.hook_base.specs.Trees.{path_of}
use Rattle.file_tags.specs.FileTags.{has_tag, tags_of_file}
use Rattle.path_select.specs.Candidates.{is_candidate, passes}
use Rattle.path_select.specs.Patterns.{is_found}
use Rattle.path_select.specs.declared.rules.Rules.{Rules}

-- what decides: the texts of the patterns of the whole configuration and of the hook, and the hook's tags
pub record RuleTexts : Type 0 where
  pub top_files : List ℕ
  pub top_exclude : List ℕ
  pub files : List ℕ
  pub exclude : List ℕ
  pub types : List (List ℕ)
  pub types_or : List (List ℕ)
  pub exclude_types : List (List ℕ)

abbrev pub texts_of_rules : Rules → RuleTexts
texts_of_rules rules = record {
  top_files = rules.top_files.now;
  top_exclude = rules.top_exclude.now;
  files = rules.files.now;
  exclude = rules.exclude.now;
  types = rules.types.now;
  types_or = rules.types_or.now;
  exclude_types = rules.exclude_types.now;
}

abbrev pub has_all : List (List ℕ) → List (List ℕ) → Bool
has_all wanted tags = list_all (λ tag. has_tag tag tags) wanted

abbrev pub has_one : List (List ℕ) → List (List ℕ) → Bool
has_one wanted tags = list_any (λ tag. has_tag tag tags) wanted

abbrev pub has_one_if_any : List (List ℕ) → List (List ℕ) → Bool
has_one_if_any [] tags = true
has_one_if_any (first ∷ others) tags = has_one (first ∷ others) tags

-- the tags have all of `types`, one of `types_or` if that list isn't empty, none of `exclude_types`
-- (pre-commit.com, "Filtering files with types")
abbrev pub fits_types : RuleTexts → List (List ℕ) → Bool
fits_types rules tags =
    has_all rules.types tags && (has_one_if_any rules.types_or tags && not (has_one rules.exclude_types tags))

-- the file fits the hook's own patterns and tags
abbrev pub fits_hook : RuleTexts → File → Bool
fits_hook rules row = passes rules.files rules.exclude row.path && fits_types rules (tags_of_file row.path row.entry)

-- a file is selected: it is a candidate, passes the patterns of the whole configuration, and fits the hook
unfoldable pub is_selected : RuleTexts → List (List ℕ) → File → Bool
is_selected rules candidates row =
    is_candidate candidates row.path && (passes rules.top_files rules.top_exclude row.path && fits_hook rules row)

-- the selected files of the tree, in its order
abbrev pub selected_rows : RuleTexts → List (List ℕ) → List File → List File
selected_rows rules candidates tree = filter (is_selected rules candidates) tree

abbrev pub selected : RuleTexts → List (List ℕ) → List File → List (List ℕ)
selected rules candidates tree = map path_of (selected_rows rules candidates tree)

-- the same among paths that have passed the patterns of the whole configuration
abbrev pub selected_among : RuleTexts → List (List ℕ) → List File → List (List ℕ)
selected_among rules among tree = map path_of (filter (λ row. is_candidate among row.path && fits_hook rules row) tree)

-- the rules of one pattern alone: all others are the default ones of a configuration, and no tags are asked
-- for
abbrev pub rules_of_pattern : List ℕ → RuleTexts
rules_of_pattern pattern = record {
  top_files = codes "";
  top_exclude = codes "^$";
  files = pattern;
  exclude = codes "^$";
  types = [];
  types_or = [];
  exclude_types = [];
}

-- the paths of the tree's files in which one pattern is found, in its order, whatever the files are
abbrev pub found_in : List ℕ → List File → List (List ℕ)
found_in pattern tree = map path_of (filter (λ row. is_found pattern row.path) tree)
