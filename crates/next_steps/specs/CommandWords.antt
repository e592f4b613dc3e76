-- Names as words of a command that a hint shows, to be copied into a shell.
use Rattle.std.specs.Prelude.{ℕ, ◌==◌, ◌&&◌, ◌||◌, Bool, false, nat_le, if◌then◌else◌, List, [], ◌∷◌, not}
use Rattle.std.specs.List.{list_all}

abbrev pub is_between : ℕ → ℕ → ℕ → Bool
is_between least greatest byte = nat_le least byte && nat_le byte greatest

-- a byte that a shell takes as it is (POSIX.1-2017, XCU section 2.2): a digit, a letter, or one of `.`, `/`,
-- `_`, `+` and `-`
abbrev pub is_plain : ℕ → Bool
is_plain byte =
    is_between 48 57 byte || (is_between 65 90 byte || (is_between 97 122 byte
    || (byte == 46 || (byte == 47 || (byte == 95 || (byte == 43 || byte == 45))))))

-- what begins with `-` is an option
abbrev pub begins_word : List ℕ → Bool
begins_word [] = false
begins_word (byte ∷ bytes) = not (byte == 45)

-- a name that a shell and the command line take as it is
abbrev pub is_shown_word : List ℕ → Bool
is_shown_word name = begins_word name && list_all is_plain name

abbrev pub word_or : List ℕ → List ℕ → List ℕ
word_or name instead = if is_shown_word name then name else instead
