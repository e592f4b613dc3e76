-- Which files of a tree the child of a command has seen, and which answers change others.
use Rattle.std.specs.Prelude.{ℕ, Bool, not, ◌||◌, nat_eq, is_some, if◌then◌else◌, List, drop, codes}
use Rattle.std.specs.List.{filter, list_any, starts_with}
use Rattle.std.specs.Str.{bytes_eq}
use Rattle.child_port.specs.declared.answer.Answer.{Answer}
use Rattle.hook_base.specs.declared.file.File.{File}
use Rattle.hook_base.specs.Trees.{entry_of}

-- a word of a command without one leading `./`
abbrev pub plain_word : List ℕ → List ℕ
plain_word word = if starts_with nat_eq word (codes "./") then drop 2 word else word

-- the path is one of the extra ones, or a word of the command without one leading `./`
abbrev pub is_seen_path : List (List ℕ) → List (List ℕ) → List ℕ → Bool
is_seen_path words extra path =
    list_any (λ other. bytes_eq other path) extra || list_any (λ word. bytes_eq (plain_word word) path) words

-- the files of the tree that the child of a command with these words has seen; all of them if it sees the
-- whole tree
abbrev pub seen_of : List (List ℕ) → List (List ℕ) → Bool → List File → List File
seen_of words extra whole tree = if whole then tree else filter (λ row. is_seen_path words extra row.path) tree

-- the changes of the answer name a file that isn't seen, whatever became of it
abbrev pub is_stray : Answer → List File → Bool
is_stray answer seen = list_any (λ change. not (is_some (entry_of change.path seen))) answer.changes
