-- What `memory` and `forget` print: how many results are cached, with a limit how many are left, and how many
-- were removed.
use Rattle.std.specs.Prelude.{ℕ, List, ◌++◌, codes}
use Rattle.std.specs.Fmt.{decimal}
use Rattle.report_text.specs.Report.{line}

abbrev pub remembered_text : ℕ → List ℕ
remembered_text number = line (codes "remembered: " ++ decimal number)

abbrev pub forgotten_text : ℕ → List ℕ
forgotten_text number = line (codes "forgotten: " ++ decimal number)
