-- The command of a hook: the words of its entry and arguments (`pre_commit.lang_base.hook_cmd`) as they are,
-- or the words that start a script. The script is a file of the tree that the first word names.
use Rattle.std.specs.Prelude.{ℕ, Bool, ◌||◌, if◌then◌else◌, List, [], ◌∷◌, ◌++◌, Option, None, Some, codes}
use Rattle.std.specs.List.{list_any}
use Rattle.child_port.specs.Seen.{plain_word}
use Rattle.file_tags.specs.Shebangs.{shebang_of}
use Rattle.hook_base.specs.Paths.{is_slash}
use Rattle.hook_base.specs.Trees.{entry_of}
use Rattle.hook_base.specs.declared.file.File.{File}
use Rattle.hook_base.specs.declared.file.FileEntry.{FileEntry}

-- what starts a script: the words of its first line after `#!`, or `sh` if it has none
abbrev pub starter_of : List (List ℕ) → List (List ℕ)
starter_of [] = codes "sh" ∷ []
starter_of (word ∷ words) = word ∷ words

-- the command of these words; `held` is the file of the tree that the first word names, if there is one
abbrev pub command_with : Bool → List ℕ → List (List ℕ) → Option FileEntry → List (List ℕ)
command_with is_script first rest (Some entry) =
    if is_script || list_any is_slash first
    then starter_of (shebang_of entry.bytes) ++ plain_word first ∷ rest
    else first ∷ rest
command_with is_script first rest None =
    if is_script then (codes "./" ++ plain_word first) ∷ rest else first ∷ rest

-- The command of a hook on the tree, without names (docs/REFERENCE.md, "The command of a hook"). A hook of
-- the language `script` names a script by its first word. A hook of the language `system` may do so if that
-- word has a slash. An entry has at least one word.
abbrev pub command_of : Bool → List (List ℕ) → List File → List (List ℕ)
command_of is_script [] tree = []
command_of is_script (first ∷ rest) tree = command_with is_script first rest (entry_of (plain_word first) tree)
