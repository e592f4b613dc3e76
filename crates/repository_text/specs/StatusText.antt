-- What `status` prints: how the staged files differ from those of the last commit.
use Rattle.std.specs.Prelude.{ℕ, Bool, ◌&&◌, if◌then◌else◌, List, [], ◌∷◌, ◌++◌, codes, map, Option, None, Some}
use Rattle.std.specs.List.{flat_map}
use Rattle.std.specs.Str.{bytes_eq}
use Rattle.std.specs.declared.cmp.Ordering.{Ordering}
use Rattle.std.specs.declared.cmp.Ordering.TheVariants.{Less, Equal, Greater}
use Rattle.hook_base.specs.declared.file.File.{File}
use Rattle.hook_base.specs.declared.file.FileEntry.{FileEntry}
use Rattle.hook_base.specs.Rising.{path_cmp}
use Rattle.hook_base.specs.SameFiles.{is_same_mode}
use Rattle.hook_base.specs.Trees.{entry_of, path_of}
use Rattle.report_text.specs.Report.{line}

abbrev pub is_same_entry : FileEntry → FileEntry → Bool
is_same_entry entry other = is_same_mode entry.mode other.mode && bytes_eq entry.bytes other.bytes

-- a path's line, from what is staged there and what the last commit has there: added, deleted or modified,
-- with the letters of git-diff(1), "--diff-filter"
abbrev pub change_line : List ℕ → Option FileEntry → Option FileEntry → List ℕ
change_line path None None = []
change_line path (Some staged) None = line (codes "A " ++ path)
change_line path None (Some last) = line (codes "D " ++ path)
change_line path (Some staged) (Some last) = if is_same_entry staged last then [] else line (codes "M " ++ path)

-- ---- the paths of two trees, each once, in rising order. `laws` says that they rise, that they are those of
-- either tree, and that no other list is so

abbrev pub path_itself : List ℕ → List ℕ
path_itself path = path

-- the paths from here on, if one tree goes on with `path` and the other with `other`
abbrev pub in_order : Ordering → List ℕ → List ℕ → List (List ℕ) → List (List ℕ) → List (List ℕ) → List (List ℕ)
in_order Less path other after_path after_both after_other = path ∷ after_path
in_order Equal path other after_path after_both after_other = path ∷ after_both
in_order Greater path other after_path after_both after_other = other ∷ after_other

-- the paths from `path` on, merged with those of the other tree; `paths_after` merges the rest of its own
-- tree with rows
abbrev pub paths_from : List ℕ → (List File → List (List ℕ)) → List File → List (List ℕ)
paths_from path paths_after [] = path ∷ paths_after []
paths_from path paths_after (row ∷ rows) =
    in_order (path_cmp path row.path) path row.path (paths_after (row ∷ rows)) (paths_after rows)
    (paths_from path paths_after rows)

abbrev pub paths_of_both : List File → List File → List (List ℕ)
paths_of_both [] others = map path_of others
paths_of_both (row ∷ rows) others = paths_from row.path (paths_of_both rows) others

-- ---- the whole text

abbrev pub change_line_at : List File → List File → List ℕ → List ℕ
change_line_at staged last path = change_line path (entry_of path staged) (entry_of path last)

-- from the staged files and those of the last commit
abbrev pub status_text : List File → List File → List ℕ
status_text staged last = flat_map (change_line_at staged last) (paths_of_both staged last)
