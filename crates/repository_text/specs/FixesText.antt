-- What `fixes` prints, a line for each fix, and what `accept` prints of their number.
use Rattle.std.specs.Prelude.{ℕ, List, ◌++◌, codes, Option, None, Some}
use Rattle.std.specs.List.{flat_map}
use Rattle.std.specs.Fmt.{decimal}
use Rattle.hook_base.specs.declared.change.Change.{Change}
use Rattle.report_text.specs.Report.{line}

-- what a fix does to its file: it changes the bytes, or it deletes the file
abbrev pub fix_mark : Option (List ℕ) → List ℕ
fix_mark (Some bytes) = codes "M "
fix_mark None = codes "D "

abbrev pub fix_line : Change → List ℕ
fix_line fix = line (fix_mark fix.now ++ fix.path)

abbrev pub fixes_text : List Change → List ℕ
fixes_text = flat_map fix_line

abbrev pub accepted_text : ℕ → List ℕ
accepted_text number = line (codes "accepted: " ++ decimal number)
