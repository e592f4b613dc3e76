-- For private functions of the module `status` only: how the walk over two trees goes on.
use Rattle.std.specs.Prelude.{ℕ, ◌+◌, Bool, true, false, List, [], ◌∷◌, codes, drop}
use Rattle.hook_base.specs.declared.file.File.{File}
use Rattle.repository_text.specs.declared.status.Next.{Next}
use Rattle.repository_text.specs.declared.status.Next.TheVariants.{Over, Staged, Last, Both}
use Rattle.repository_text.specs.StatusText.{paths_of_both}

-- the paths from the next one on, when the first tree is walked up to `staged` and the second up to `last`
abbrev pub paths_from_next : List File → List File → ℕ → ℕ → Next → List (List ℕ)
paths_from_next files others staged last Over = []
paths_from_next files others staged last (Staged path) =
    path.now ∷ paths_of_both (drop (staged + 1) files) (drop last others)
paths_from_next files others staged last (Last path) =
    path.now ∷ paths_of_both (drop staged files) (drop (last + 1) others)
paths_from_next files others staged last (Both path) =
    path.now ∷ paths_of_both (drop (staged + 1) files) (drop (last + 1) others)

-- the mark that the line of a path that differs begins with
abbrev pub mark_of : Bool → Bool → List ℕ
mark_of true false = codes "A "
mark_of false true = codes "D "
mark_of true true = codes "M "
mark_of false false = codes "M "
