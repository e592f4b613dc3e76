-- What a file shows while a cut to a length is due, or while none is.
use Rattle.std.specs.Prelude.{ℕ, ◌≤◌, List, take, Option, Some, None, ⊤}
use Rattle.sqlite_disk.specs.Disk.{Cut}

-- the bytes that a read returns
abbrev pub shown_bytes : Option ℕ → List ℕ → List ℕ
shown_bytes None file = file
shown_bytes (Some n) file = take n file

-- the contents that a crash may leave: the cut may be lost, or done in part
abbrev pub MayLeaveDue : Option ℕ → (List ℕ → Type 0) → List ℕ → Type 0
MayLeaveDue None outcomes c = outcomes c
MayLeaveDue (Some n) outcomes c = (d : List ℕ) × outcomes d × Cut n d c

-- a range that ends there doesn't pass the cut
abbrev pub EndsWithin : Option ℕ → ℕ → Type 0
EndsWithin None end = ⊤
EndsWithin (Some n) end = end ≤ n

-- a lower bound on the length that it shows, from one on the bytes that it has
abbrev pub shown_len : Option ℕ → ℕ → ℕ
shown_len None known = known
shown_len (Some n) known = n

-- how many bytes it is known to have while a cut is due
abbrev pub uncut_len : Option ℕ → ℕ → Option ℕ
uncut_len None known = None
uncut_len (Some n) known = Some known
