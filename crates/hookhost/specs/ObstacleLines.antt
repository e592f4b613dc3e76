-- What is said of what was in the way of children.
use Rattle.std.specs.Prelude.{ℕ, List, ◌++◌, codes}
use Rattle.text_output.specs.QuotedPaths.{told_path}

abbrev pub error_after : List ℕ → List ℕ
error_after error = codes ": " ++ error ++ codes "\n"

-- the words before, the place, and the system's error there
abbrev pub obstacle_line : List ℕ → List ℕ → List ℕ → List ℕ
obstacle_line before place error = before ++ told_path place ++ error_after error
