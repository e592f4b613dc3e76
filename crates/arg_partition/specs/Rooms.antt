-- The room that is left in a command, as the code computes it. This serves private functions alone.
use Rattle.std.specs.Prelude.{◌≡◌, ℕ, ◌+◌, Bool, true, false, nat_le, List, [], ◌∷◌, ◌++◌, length, sum_by, Option, MatchOption}
use Rattle.arg_partition.specs.declared.room.Room.{Room}
use Rattle.arg_partition.specs.Parts.{command_length}

-- the bytes that words take; `true` if other words come before them
abbrev pub taken : Bool → List (List ℕ) → ℕ
taken true words = sum_by (λ word. 1 + length word) words
taken false words = command_length words

abbrev pub fits_room : Room → List (List ℕ) → Bool
fits_room room words = nat_le (taken room.begun words) room.left

-- whether the command has a word once these are added
abbrev pub begun_behind : Bool → List (List ℕ) → Bool
begun_behind begun [] = begun
begun_behind begun (word ∷ words) = true

-- what these words leave of a room
pub record LeavesRoom (whole : Room) (words : List (List ℕ)) (rest : Room) : Type 0 where
  pub left : rest.left + taken whole.begun words ≡ whole.left
  pub begun : rest.begun ≡ begun_behind whole.begun words

-- what one more word leaves of a room; nothing if it doesn't fit
abbrev pub Takes : Room → List ℕ → Option Room → Type 0
Takes room word after =
    (whole : Room) (words : List (List ℕ)) → LeavesRoom whole words room →
    MatchOption after (fits_room whole (words ++ word ∷ []) ≡ false)
    (λ rest. (LeavesRoom whole (words ++ word ∷ []) rest) × (fits_room whole (words ++ word ∷ []) ≡ true))
