-- Rooms: what words leave of them.
use Rattle.std.proofs.Common.{◌≡◌, ℕ, ◌+◌, ◌<◌, Bool, true, false, not, is_some, MatchOption, take, drop, get_or, List, [], ◌∷◌, ◌++◌, Option, Some, None, length, position, sym, ap, refl, arith, subst}
use Rattle.std.proofs.lemmas.List.{take_more, take-append-drop}
use Rattle.std.proofs.lemmas.Bool.Decides.{nat_tests}
use Rattle.std.proofs.lemmas.List.Sums.{sum_by-append}
use mathlib.Core.Path.{fun_ext}
use Rattle.arg_partition.specs.declared.room.Room.{Room}
use Rattle.arg_partition.specs.Parts.{fits, too_long_at}
use Rattle.arg_partition.specs.Rooms.{LeavesRoom, Takes, begun_behind, fits_room, taken}

pub Leaves-nil : (room : Room) → LeavesRoom room [] room
Leaves-nil room =
    elim room.begun as (λ begun. LeavesRoom (record { left = room.left; begun = begun }) [] (record { left = room.left; begun = begun })) [
      | true ↦ record { left = omega arith; begun = refl }
      | false ↦ record { left = omega arith; begun = refl }
    ]

pub fits_alone : (room : Room) (name : List ℕ) (after : Option Room) → Takes room name after → is_some after ≡ fits_room room (name ∷ [])
fits_alone room name None takes = sym (takes room [] (Leaves-nil room))
fits_alone room name (Some rest) takes = sym (takes room [] (Leaves-nil room)).1

-- the bytes of words and names
pub taken-append : (begun : Bool) (words names : List (List ℕ)) → taken begun (words ++ names) ≡ taken begun words + taken (begun_behind begun words) names
taken-append true [] names = omega arith
taken-append true (word ∷ words) names = sum_by-append (λ (other : List ℕ). 1 + length other) (word ∷ words) names
taken-append false [] names = omega arith
taken-append false (word ∷ words) names = omega (arith, sum_by-append (λ (other : List ℕ). 1 + length other) words names)

-- what fits the room that words leave fits after them
pub fits_left : (whole rest : Room) (words names : List (List ℕ)) → LeavesRoom whole words rest → fits_room rest names ≡ fits_room whole (words ++ names)
fits_left whole rest words names leaves =
    let sum = taken-append whole.begun words names in
    let begun = ap (λ before. taken before names) leaves.begun in
    let left = leaves.left in
    grind (arith, nat_tests)

-- words that don't fit don't fit with more after them
pub misfit_more : (room : Room) (words more : List (List ℕ)) → fits_room room words ≡ false → fits_room room (words ++ more) ≡ false
misfit_more room words more misfit =
    let sum = taken-append room.begun words more in
    grind (arith, nat_tests)

-- one word more of those that fit so far
pub one_more : (whole room : Room) (words : List (List ℕ)) (at : ℕ) (word : List ℕ) (after : Option Room) → at < length words → word ≡ get_or words at word → LeavesRoom whole (take at words) room
    → Takes room word after → MatchOption after (fits_room whole words ≡ false) (λ rest. LeavesRoom whole (take (at + 1) words) rest)
one_more whole room words at word None within is leaves takes =
    let more = take_more words at word within in
    let here : fits_room whole (take (at + 1) words) ≡ false = rw (more, ← is) (takes whole (take at words) leaves) in
    subst (λ all. fits_room whole all ≡ false) (take-append-drop (at + 1) words) (misfit_more whole (take (at + 1) words) (drop (at + 1) words) here)
one_more whole room words at word (Some rest) within is leaves takes =
    let more = take_more words at word within in
    rw (more, ← is) (takes whole (take at words) leaves).0

-- what fits after the words is what fits the room that they leave
pub fits_behind : (limit : ℕ) (words : List (List ℕ)) (room : Room) → LeavesRoom (record { left = limit; begun = false }) words room → fits_room room ≡ fits words limit
fits_behind limit words room leaves =
    fun_ext (λ (names : List (List ℕ)). fits_left (record { left = limit; begun = false }) room words names leaves)

-- without names everything fits a room
pub misfit_in : (room : Room) (names : List (List ℕ)) → position (λ one. not (fits_room room (one ∷ []))) names ≡ too_long_at (fits_room room) names
misfit_in room [] =
    elim room.begun as (λ begun. position (λ one. not (fits_room (record { left = room.left; begun = begun }) (one ∷ []))) [] ≡ too_long_at (fits_room (record { left = room.left; begun = begun })) []) [
      | true ↦ grind (arith, nat_tests)
      | false ↦ grind (arith, nat_tests)
    ]
misfit_in room (name ∷ names) = refl
