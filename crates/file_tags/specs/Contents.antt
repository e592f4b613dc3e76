-- Whether bytes look like text (identify 2.5's is_text).
use Rattle.std.specs.Prelude.{ℕ, Bool, ◌==◌, ◌||◌, ◌&&◌, nat_le, List, take}
use Rattle.std.specs.List.{list_all}

-- how many bytes at the file's start are examined
abbrev pub looked_at : ℕ
looked_at = 1_024

-- bell to carriage return, escape, a printable ASCII character, or a byte above ASCII
abbrev pub is_text_byte : ℕ → Bool
is_text_byte byte =
    (nat_le 7 byte && nat_le byte 13) || byte == 27 || (nat_le 32 byte && nat_le byte 126) || nat_le 128 byte

abbrev pub is_text : List ℕ → Bool
is_text bytes = list_all is_text_byte (take looked_at bytes)
