-- What a terminal shows while a child runs: one line with its command, cut to the terminal's width.
use Rattle.std.specs.Prelude.{ℕ, ◌-◌, ◌<◌, ◌^◌, nat_le, false, unwrap_or, is_some, if◌then◌else◌, List, [], ◌∷◌, ◌++◌, codes, chars, encode_utf8_all}
use Rattle.std.specs.List.{flat_map}
use Rattle.std.specs.Fmt.{decimal}
use Rattle.std.specs.Str.Parse.{IsNumeral, digits_value, without_leading_plus}
use Rattle.unicode_width.specs.Width.{char_width}
use Rattle.child_display.specs.declared.shown_hook.ShownHook.{ShownHook}

-- a character as it is shown: a control character, such as a line feed or an escape, is a question mark
abbrev pub shown_char : ℕ → ℕ
shown_char c = if is_some (char_width false c) then c else 63

-- the columns that a character takes as it is shown
abbrev pub columns_of_char : ℕ → ℕ
columns_of_char c = unwrap_or (char_width false c) 1

-- the characters as they are shown, up to the first that no longer fits into the columns
abbrev pub cut_to : ℕ → List ℕ → List ℕ
cut_to columns [] = []
cut_to columns (c ∷ cs) =
    if nat_le (columns_of_char c) columns then shown_char c ∷ cut_to (columns - columns_of_char c) cs else []

-- how many children were started before, in brackets, and each word of the command after a blank
abbrev pub command_text : List (List ℕ) → ℕ → List ℕ
command_text words before = codes "[" ++ decimal before ++ codes "]" ++ flat_map (λ word. 32 ∷ word) words

-- the same number, and the hook: its place among so many, and its name
abbrev pub hook_head : ShownHook → ℕ → List ℕ
hook_head hook before =
    codes "[" ++ decimal before ++ codes "] " ++ decimal hook.place ++ codes "/" ++ decimal hook.stage_hooks ++ codes
    " " ++ hook.name ++ codes ":"

-- that head, and each word of the command after a blank
abbrev pub shown_hook_text : ShownHook → List (List ℕ) → ℕ → List ℕ
shown_hook_text hook words before = hook_head hook before ++ flat_map (λ word. 32 ∷ word) words

-- DEC's private mode 7 (DECAWM), reset: text that is wider than the terminal doesn't go on in its next line
abbrev pub wrapping_off : List ℕ
wrapping_off = 27 ∷ codes "[?7l"

abbrev pub wrapping_on : List ℕ
wrapping_on = 27 ∷ codes "[?7h"

-- a text cut to the terminal's columns, with wrapping off meanwhile, so that nothing begins another line
abbrev pub line_of_text : List ℕ → ℕ → List ℕ
line_of_text text columns = wrapping_off ++ encode_utf8_all (cut_to columns (chars text)) ++ wrapping_on

-- the line of a child
abbrev pub line_of_child : List (List ℕ) → ℕ → ℕ → List ℕ
line_of_child words before columns = line_of_text (command_text words before) columns

-- the line of a child of this hook
abbrev pub line_of_hook : ShownHook → List (List ℕ) → ℕ → ℕ → List ℕ
line_of_hook hook words before columns = line_of_text (shown_hook_text hook words before) columns

-- the cursor goes to the line's beginning, and everything from there on is erased (ECMA-48, section 8.3.41,
-- EL)
abbrev pub clearing : List ℕ
clearing = 13 ∷ 27 ∷ codes "[K"

-- the number that a text says, with or without a plus
abbrev pub number_said : List ℕ → ℕ
number_said text = digits_value 10 (without_leading_plus text)

-- a text says how many columns a terminal has: a number from 1 to 65,535, since ioctl_tty(2) has 16 bits for
-- it
pub record SaysColumns (text : List ℕ) : Type 0 where
  pub numeral : IsNumeral 10 (without_leading_plus text)
  pub some : 0 < number_said text
  pub within : number_said text < 2 ^ 16

-- the width that is assumed if none is given
abbrev pub usual_columns : ℕ
usual_columns = 80
