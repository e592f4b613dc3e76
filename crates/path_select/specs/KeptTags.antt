-- Whether a file fits a hook by tags that are kept. This serves private functions only.
use Rattle.std.specs.Prelude.{ℕ, Bool, false, ◌&&◌, List, Option, None, Some}
use Rattle.std.specs.Option.{option_map}
use Rattle.hook_base.specs.declared.file.File.{File}
use Rattle.hook_base.specs.Trees.{entry_of}
use Rattle.file_tags.specs.FileTags.{tags_of_file}
use Rattle.path_select.specs.Candidates.{passes}
use Rattle.path_select.specs.Selection.{RuleTexts, fits_types}

-- the tags of the file at a path, none if the tree has no such file
abbrev pub tags_at : List File → List ℕ → Option (List (List ℕ))
tags_at tree path = option_map (tags_of_file path) (entry_of path tree)

-- there are tags, the path passes the hook's patterns, and the tags are those that it asks for
abbrev pub fits_tags : RuleTexts → List ℕ → Option (List (List ℕ)) → Bool
fits_tags rules path None = false
fits_tags rules path (Some tags) = passes rules.files rules.exclude path && fits_types rules tags
