-- The tags of the files of a tree.
use Rattle.std.specs.Prelude.{ℕ, List, map}
use Rattle.hook_base.specs.declared.file.File.{File}
use Rattle.file_tags.specs.FileTags.{tags_of_file}

unfoldable pub tags_of_row : File → List (List ℕ)
tags_of_row row = tags_of_file row.path row.entry

-- the tags of each file, in the order of the tree's rows
abbrev pub tags_of_tree : List File → List (List (List ℕ))
tags_of_tree = map tags_of_row
