-- A path within a line: in double quotes, with the escapes of C, if its own bytes would end the line or
-- mislead. This is what Git writes if `core.quotePath` is `false` (git-config(1), "core.quotePath").
use Rattle.std.specs.Prelude.{ℕ, ◌+◌, ◌/◌, ◌%◌, ◌==◌, ◌||◌, Bool, List, [], ◌∷◌, ◌++◌, Option, None, Some, if◌then◌else◌, nat_lt}
use Rattle.std.specs.List.{flat_map, list_any}

abbrev pub is_ascii_control : ℕ → Bool
is_ascii_control byte = nat_lt byte 32 || byte == 127

-- the byte that follows a backslash for this one. For 7 to 13 it is one of the letters a, b, t, n, v, f, r,
-- and for a double quote or a backslash the byte itself
abbrev pub escape_of : ℕ → Option ℕ
escape_of byte =
    if byte == 7 then Some 97
    else (if byte == 8 then Some 98
    else (if byte == 9 then Some 116
    else (if byte == 10 then Some 110
    else (if byte == 11 then Some 118
    else (if byte == 12 then Some 102
    else (if byte == 13 then Some 114
    else (if byte == 34 then Some 34
    else (if byte == 92 then Some 92 else None))))))))

-- a backslash and the byte in three octal digits
abbrev pub octal : ℕ → List ℕ
octal byte = 92 ∷ (48 + byte / 64) ∷ (48 + byte / 8 % 8) ∷ (48 + byte % 8) ∷ []

-- a byte without a letter as its escape
abbrev pub plain_or_octal : ℕ → List ℕ
plain_or_octal byte = if is_ascii_control byte then octal byte else byte ∷ []

abbrev pub escaped_by : Option ℕ → ℕ → List ℕ
escaped_by (Some escape) byte = 92 ∷ escape ∷ []
escaped_by None byte = plain_or_octal byte

-- a byte within double quotes
abbrev pub escaped_byte : ℕ → List ℕ
escaped_byte byte = escaped_by (escape_of byte) byte

-- a path with this byte needs quotes
abbrev pub wants_quotes : ℕ → Bool
wants_quotes byte = is_ascii_control byte || (byte == 34 || byte == 92)

-- the path as it is printed
abbrev pub told_path : List ℕ → List ℕ
told_path path = if list_any wants_quotes path then 34 ∷ (flat_map escaped_byte path ++ 34 ∷ []) else path
