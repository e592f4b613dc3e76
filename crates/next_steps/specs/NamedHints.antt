-- Hints that name a file or a folder. A name that a shell wouldn't take as it is, is shown as a word for it.
use Rattle.std.specs.Prelude.{ℕ, List, ◌++◌, codes}
use Rattle.next_steps.specs.CommandWords.{word_or}

abbrev pub folder_hint : List ℕ → List ℕ
folder_hint folder = codes "hint: the repository is in " ++ folder ++ codes ": cd " ++ folder

abbrev pub explain_hint : List ℕ → List ℕ
explain_hint file =
    codes "hint: hookhost explain " ++ word_or file (codes "CONFIG") ++ codes " says what is wrong and where"

abbrev pub undone_hint : List ℕ → List ℕ
undone_hint path =
    codes "hint: this undoes the fix of " ++ path
    ++ codes ": to take it over, hookhost run, then hookhost cat --fixed " ++ word_or path (codes "PATH")
    ++ codes " > " ++ word_or path (codes "PATH")
