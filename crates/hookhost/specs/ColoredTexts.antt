-- A report in colors: the word at the end of a line that says how a hook ended.
use Rattle.std.specs.Prelude.{ℕ, ◌-◌, ◌==◌, Bool, true, false, if◌then◌else◌, List, [], ◌∷◌, ◌++◌, Option, None, Some, codes, drop, length, take}
use Rattle.std.specs.List.{ends_with, slice_split}
use Rattle.std.specs.Str.{bytes_eq}
use Rattle.command_line.specs.declared.line.ColorChoice.{ColorChoice}
use Rattle.command_line.specs.declared.line.ColorChoice.TheVariants.{Always, Never, Auto}

-- whether colors are wanted, by the text of `PRE_COMMIT_COLOR`
abbrev pub colors_by : List ℕ → Option Bool
colors_by when =
    if bytes_eq when (codes "always") then Some true else (if bytes_eq when (codes "never") then Some false else None)

-- by a choice, and otherwise by that text
abbrev pub wanted_colors : ColorChoice → List ℕ → Option Bool
wanted_colors Always when = Some true
wanted_colors Never when = Some false
wanted_colors Auto when = colors_by when

abbrev pub is_report_line_feed : ℕ → Bool
is_report_line_feed byte = byte == 10

abbrev pub line_ends_with : List ℕ → List ℕ → Bool
line_ends_with ending line = ends_with (λ a b. a == b) line ending

-- these parameters of SGR, which sets colors (ECMA-48, section 8.3.117)
abbrev pub color_of : List ℕ → List ℕ
color_of parameters = 27 ∷ 91 ∷ (parameters ++ 109 ∷ [])

-- the line with its last bytes, so many, in the color
abbrev pub with_color : List ℕ → ℕ → List ℕ → List ℕ
with_color color word line =
    take (length line - word) line ++ color ++ drop (length line - word) line ++ color_of []

-- the colors are pre-commit's: green, red, turquoise and yellow behind the word
abbrev pub colored_line : List ℕ → List ℕ
colored_line line =
    if line_ends_with (codes ".Passed") line then with_color (color_of (codes "42")) 6 line
    else (if line_ends_with (codes ".Failed") line then with_color (color_of (codes "41")) 6 line
    else (if line_ends_with (codes "(no files to check)Skipped") line then with_color (color_of (codes "46;30")) 7 line
    else (if line_ends_with (codes ".Skipped") line then with_color (color_of (codes "43;30")) 7 line else line)))

abbrev pub next_line : Bool → List ℕ → List ℕ
next_line true line = colored_line line
next_line false line = 10 ∷ colored_line line

-- the lines, the first of them as it is, each further one after a line feed
abbrev pub colored_lines : Bool → List (List ℕ) → List ℕ
colored_lines is_first [] = []
colored_lines is_first (line ∷ lines) = next_line is_first line ++ colored_lines false lines

abbrev pub colored_text : List ℕ → List ℕ
colored_text text = colored_lines true (slice_split is_report_line_feed text)
