-- Names and lines of text, as lists of bytes, and where they are cut.
use Rattle.std.specs.Prelude.{ℕ, Bool, ◌==◌, ◌||◌, if◌then◌else◌, List, [], ◌∷◌, ◌++◌, map}
use Rattle.std.specs.List.{list_any}

abbrev pub is_dot : ℕ → Bool
is_dot byte = byte == 46

abbrev pub is_path_slash : ℕ → Bool
is_path_slash byte = byte == 47

abbrev pub is_line_feed : ℕ → Bool
is_line_feed byte = byte == 10

abbrev pub is_space_byte : ℕ → Bool
is_space_byte byte = byte == 32

abbrev pub is_tab : ℕ → Bool
is_tab byte = byte == 9

abbrev pub is_shebang_blank : ℕ → Bool
is_shebang_blank byte = is_space_byte byte || is_tab byte

-- what follows the last byte that passes, or all bytes if none passes
abbrev pub last_part : (ℕ → Bool) → List ℕ → List ℕ
last_part passes [] = []
last_part passes (byte ∷ bytes) =
    if list_any passes bytes then last_part passes bytes else (if passes byte then bytes else byte ∷ bytes)

-- what comes before each dot, the longest first
abbrev pub before_dots : List ℕ → List (List ℕ)
before_dots [] = []
before_dots (byte ∷ bytes) =
    map (λ before. byte ∷ before) (before_dots bytes) ++ (if is_dot byte then [] ∷ [] else [])

-- What follows the last dot that has another character somewhere before it, or nothing if there is no such
-- dot. (The extension of Python 3.11's os.path.splitext, without its dot.)
abbrev pub extension_of : List ℕ → List ℕ
extension_of [] = []
extension_of (byte ∷ bytes) =
    if is_dot byte then extension_of bytes else (if list_any is_dot bytes then last_part is_dot bytes else [])
