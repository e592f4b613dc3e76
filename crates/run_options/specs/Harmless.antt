-- Words that let a tool read nothing but what its row says. (docs/REFERENCE.md, "Known tools".)
use Rattle.std.specs.Prelude.{ℕ, Bool, true, false, not, ◌==◌, ◌||◌, ◌&&◌, nat_le, if◌then◌else◌, List, [], ◌∷◌, codes, count_by, length, slice_get, ◌+◌, ◌-◌, Option, Some, None, drop, position, take}
use Rattle.std.specs.Char.{is_ascii_alphabetic, is_ascii_digit, is_ascii_lowercase, is_ascii_uppercase}
use Rattle.std.specs.List.{list_all, list_any}
use Rattle.std.specs.Str.{bytes_eq}
use Rattle.run_options.specs.declared.tools.ToolKind.{ToolKind}
use Rattle.run_options.specs.declared.tools.ToolKind.TheVariants.{Options, Grep, Sed, Any}

abbrev pub is_dash : ℕ → Bool
is_dash byte = byte == 45

abbrev pub is_equals : ℕ → Bool
is_equals byte = byte == 61

-- ---- options that name no file

abbrev pub is_name_byte : ℕ → Bool
is_name_byte byte = is_ascii_lowercase byte || is_ascii_digit byte || is_dash byte

abbrev pub is_option_name : List ℕ → Bool
is_option_name [] = false
is_option_name (byte ∷ bytes) = list_all is_name_byte (byte ∷ bytes)

abbrev pub is_value_byte : ℕ → Bool
is_value_byte byte = is_ascii_uppercase byte || is_ascii_digit byte || byte == 44

-- numbers and codes of messages, with commas between them: capital letters alone might name a file
abbrev pub is_option_value : List ℕ → Bool
is_option_value text = list_any is_ascii_digit text && list_all is_value_byte text

-- a name, or if the text has `=`, a name before the first one and a value after it
abbrev pub is_option_cut_at : Option ℕ → List ℕ → Bool
is_option_cut_at None text = is_option_name text
is_option_cut_at (Some end) text = is_option_name (take end text) && is_option_value (drop (end + 1) text)

-- what follows `--`
abbrev pub is_long_option : List ℕ → Bool
is_long_option text = is_option_cut_at (position is_equals text) text

-- what follows `-`: a letter, maybe with a number, or a second dash and a long option
abbrev pub is_option_text : List ℕ → Bool
is_option_text [] = false
is_option_text (first ∷ rest) =
    if is_dash first then is_long_option rest else is_ascii_alphabetic first && list_all is_ascii_digit rest

abbrev pub is_option : List ℕ → Bool
is_option [] = false
is_option (first ∷ text) = is_dash first && is_option_text text

-- ---- words of `grep` and `sed`

abbrev pub has_byte : List ℕ → ℕ → Bool
has_byte bytes sought = list_any (λ byte. byte == sought) bytes

-- some letters, each of them among those known
abbrev pub are_letters_of : List ℕ → List ℕ → Bool
are_letters_of known [] = false
are_letters_of known (letter ∷ letters) = list_all (has_byte known) (letter ∷ letters)

-- a word that is no option
abbrev pub is_operand : List ℕ → Bool
is_operand [] = true
is_operand (first ∷ rest) = not (is_dash first)

-- none of these takes a word, names a file or goes into folders (grep(1))
abbrev pub grep_letters : List ℕ
grep_letters = codes "abcEFGhHiIlLnoPqsvwxyzZ"

abbrev pub grep_options : List (List ℕ)
grep_options =
    codes "--count"
    ∷ codes "--extended-regexp"
    ∷ codes "--fixed-strings"
    ∷ codes "--ignore-case"
    ∷ codes "--invert-match"
    ∷ codes "--line-number"
    ∷ codes "--quiet"
    ∷ codes "--word-regexp"
    ∷ []

abbrev pub is_long_grep_option : List ℕ → Bool
is_long_grep_option word = list_any (λ option. bytes_eq option word) grep_options

abbrev pub is_grep_option : List ℕ → List ℕ → Bool
is_grep_option word letters = is_long_grep_option word || are_letters_of grep_letters letters

abbrev pub is_of_grep : List ℕ → Bool
is_of_grep [] = true
is_of_grep (first ∷ rest) = if is_dash first then is_grep_option (first ∷ rest) rest else true

-- at most one word is no option: it is the pattern, and a second one might name a folder
abbrev pub are_of_grep : List (List ℕ) → Bool
are_of_grep words = list_all is_of_grep words && nat_le (count_by is_operand words) 1

-- none of these takes a word, or letters after it (sed(1))
abbrev pub sed_letters : List ℕ
sed_letters = codes "nrEsuz"

-- the letters of the commands and flags that read a file, write one, print its name or run a command (sed(1))
abbrev pub sed_commands : List ℕ
sed_commands = codes "eFrRwW"

-- no letter of the script is one of these
abbrev pub is_script : List ℕ → Bool
is_script script = not (list_any (has_byte sed_commands) script)

-- letters after `e` are a script, and those after `i` are the suffix of a backup file's name (sed(1))
abbrev pub is_sed_option : List ℕ → List ℕ → Bool
is_sed_option word letters =
    bytes_eq word (codes "-e") || bytes_eq word (codes "-i") || are_letters_of sed_letters letters

abbrev pub is_of_sed : List ℕ → Bool
is_of_sed [] = true
is_of_sed (first ∷ rest) = if is_dash first then is_sed_option (first ∷ rest) rest else is_script (first ∷ rest)

abbrev pub is_some_operand : Option (List ℕ) → Bool
is_some_operand None = false
is_some_operand (Some word) = is_operand word

abbrev pub end_in_operand : List (List ℕ) → Bool
end_in_operand words = is_some_operand (slice_get words (length words - 1))

-- the last word is a script, as otherwise the first file name after it might be taken for one
abbrev pub are_of_sed : List (List ℕ) → Bool
are_of_sed words = list_all is_of_sed words && end_in_operand words

-- ---- by the kind of tool

abbrev pub are_harmless : ToolKind → List (List ℕ) → Bool
are_harmless Options words = list_all is_option words
are_harmless Grep words = are_of_grep words
are_harmless Sed words = are_of_sed words
are_harmless Any words = true
