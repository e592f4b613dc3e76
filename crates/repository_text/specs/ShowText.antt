-- What `show` prints of a commit: its message, an empty line, and its paths.
use Rattle.std.specs.Prelude.{ℕ, ◌==◌, if◌then◌else◌, List, [], ◌∷◌, ◌++◌}
use Rattle.std.specs.List.{flat_map}
use Rattle.hook_base.specs.declared.file.File.{File}
use Rattle.report_text.specs.Report.{line}
use Rattle.repo_store.specs.Repository.{Commit}

-- the text with a line feed at its end, unless it is empty or has one there
abbrev pub with_line_feed_at_end : List ℕ → List ℕ
with_line_feed_at_end [] = []
with_line_feed_at_end (byte ∷ []) = if byte == 10 then byte ∷ [] else line (byte ∷ [])
with_line_feed_at_end (byte ∷ next ∷ more) = byte ∷ with_line_feed_at_end (next ∷ more)

abbrev pub path_line : File → List ℕ
path_line file = line file.path

abbrev pub show_text : Commit → List ℕ
show_text commit = with_line_feed_at_end commit.message ++ line [] ++ flat_map path_line commit.tree
