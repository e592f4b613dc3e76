-- Names of files: those that a file lists, which are paths of a tree, and how messages show one.
use Rattle.std.specs.Prelude.{ℕ, ◌==◌, Bool, if◌then◌else◌, List, [], ◌∷◌, ◌++◌, Option, None, Some, codes}
use Rattle.std.specs.List.{slice_split}
use Rattle.std.specs.Str.{bytes_eq}
use Rattle.hook_base.specs.Paths.{path_fault}
use Rattle.hook_base.specs.declared.path_fault.PathFault.{PathFault}
use Rattle.named_files.specs.Words.{has_no_bytes}

abbrev pub is_nul : ℕ → Bool
is_nul byte = byte == 0

-- the names, and then the last one unless it is empty
abbrev pub with_last : List (List ℕ) → List ℕ → List (List ℕ)
with_last names last = if has_no_bytes last then names else names ++ last ∷ []

-- the names without the last one, if that is empty
abbrev pub without_empty_end : List (List ℕ) → List (List ℕ)
without_empty_end [] = []
without_empty_end (name ∷ []) = if has_no_bytes name then [] else name ∷ []
without_empty_end (name ∷ next ∷ names) = name ∷ without_empty_end (next ∷ names)

-- the names in a text, each ended by a NUL byte, which the last one may lack
abbrev pub listed_names : List ℕ → List (List ℕ)
listed_names text = without_empty_end (slice_split is_nul text)

abbrev pub name_without : Option PathFault → List ℕ → Option (List ℕ)
name_without None name = Some name
name_without (Some fault) name = None

-- the path that a name is, if it is one
abbrev pub path_named : List ℕ → Option (List ℕ)
path_named name = name_without (path_fault name) name

-- the word for standard input (POSIX.1-2017, XBD section 12.2, Guideline 13)
abbrev pub is_standard_input : List ℕ → Bool
is_standard_input word = bytes_eq word (codes "-")

-- a name in messages
abbrev pub shown_name : List ℕ → List ℕ
shown_name name = if is_standard_input name then codes "<stdin>" else name
