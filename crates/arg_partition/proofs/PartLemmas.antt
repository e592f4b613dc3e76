-- Parts: when the names from one index to another are one, and that parts adjoin.
use Rattle.std.proofs.Common.{◌≡◌, ℕ, ◌+◌, ◌-◌, ◌<◌, ◌≤◌, ◌&&◌, Bool, true, false, List, [], ◌∷◌, ◌++◌, None, length, get_or, nat_le, slice_range, All, inl, inr, sym, ap, ◌∙◌, refl, subst, arith}
use Rattle.std.proofs.lemmas.Bool.{cases_order}
use Rattle.std.proofs.lemmas.Bool.Decides.{nat_tests}
use Rattle.std.proofs.lemmas.List.{get_or_default}
use Rattle.std.proofs.lemmas.List.Elements.{All-push}
use Rattle.arg_partition.specs.declared.cut.Cut.{Cut}
use Rattle.arg_partition.specs.declared.room.Room.{Room}
use Rattle.arg_partition.specs.Parts.{Adjoin, IsPart, can_be_part, too_long_at}
use Rattle.arg_partition.specs.Rooms.{LeavesRoom, fits_room}
use Rattle.arg_partition.specs.SomePartsLemmas.{each_fits, range-more, range-none}

-- ---- names of a range

-- one name more, by the name that stands after the range
pub range-push : (names : List (List ℕ)) (start end : ℕ) (name : List ℕ) → start ≤ end → end < length names → name ≡ get_or names end name
    → slice_range names start (end + 1) ≡ slice_range names start end ++ name ∷ []
range-push names start end name forward within is =
    range-more names start end forward within ∙ ap (λ last. slice_range names start end ++ last ∷ []) (sym (is ∙ get_or_default names end name [] within))

-- ---- names that fit

pub fits_so_far : (whole rest : Room) (words : List (List ℕ)) → LeavesRoom whole words rest → fits_room whole words ≡ true
fits_so_far whole rest words leaves = let left = leaves.left in grind (arith, nat_tests)

-- ---- one part

pub can_be : (room rest : Room) (names : List (List ℕ)) (most start end : ℕ) → end - start ≤ most → LeavesRoom room (slice_range names start end) rest
    → can_be_part (fits_room room) most names start end ≡ true
can_be room rest names most start end few leaves =
    let fit = fits_so_far room rest (slice_range names start end) leaves in
    grind (arith, nat_tests)

-- it has as many names as it may
pub too_many : (room : Room) (names : List (List ℕ)) (most start end : ℕ) → start ≤ end → most ≤ end - start → can_be_part (fits_room room) most names start (end + 1) ≡ false
too_many room names most start end forward many = grind (arith, nat_tests)

and_false : (a : Bool) → (a && false) ≡ false
and_false true = refl
and_false false = refl

-- the next name doesn't fit
pub too_long : (room : Room) (names : List (List ℕ)) (most start end : ℕ) (name : List ℕ) → start ≤ end → end < length names → name ≡ get_or names end name
    → fits_room room (slice_range names start end ++ name ∷ []) ≡ false → can_be_part (fits_room room) most names start (end + 1) ≡ false
too_long room names most start end name forward within is misfit =
    ap (λ all. nat_le ((end + 1) - start) most && fits_room room all) (range-push names start end name forward within is)
    ∙ (ap (λ fit. nat_le ((end + 1) - start) most && fit) misfit ∙ and_false (nat_le ((end + 1) - start) most))

-- the first name of a part fits
pub goes_on : (room : Room) (names : List (List ℕ)) (start end : ℕ) (name : List ℕ) → too_long_at (fits_room room) names ≡ None → start ≤ end → end < length names → name ≡ get_or names end name
    → fits_room room (slice_range names start end ++ name ∷ []) ≡ false → start < end
goes_on room names start end name none forward within is misfit =
    elim (cases_order start end) [
      | inl same ↦
          let fit : fits_room room (name ∷ []) ≡ true =
          subst (λ one. fits_room room (one ∷ []) ≡ true) (sym (is ∙ get_or_default names end name [] within)) (each_fits (fits_room room) names end none within) in
          let empty : slice_range names start end ≡ [] = rw same (range-none names end) in
          let unfit : fits_room room (name ∷ []) ≡ false = rw empty at misfit in
          cc
      | inr order ↦ elim order [ inl before ↦ before | inr after ↦ absurd (omega arith) ]
    ]

-- ---- cuts that adjoin

pub Adjoin-push : (start end next : ℕ) (cuts : List Cut) → Adjoin start cuts end → Adjoin start (cuts ++ record { start = end; end = next } ∷ []) next
Adjoin-push start end next [] adjoin = (sym adjoin, refl)
Adjoin-push start end next (cut ∷ cuts) adjoin = (adjoin.0, Adjoin-push cut.end end next cuts adjoin.1)

pub parts-push : (room : Room) (names : List (List ℕ)) (most start end : ℕ) (cuts : List Cut) → Adjoin 0 cuts start → All (IsPart (fits_room room) most names) cuts
    → IsPart (fits_room room) most names (record { start = start; end = end })
    → Adjoin 0 (cuts ++ record { start = start; end = end } ∷ []) end × All (IsPart (fits_room room) most names) (cuts ++ record { start = start; end = end } ∷ [])
parts-push room names most start end cuts adjoin parts part =
    (Adjoin-push 0 start end cuts adjoin, All-push (IsPart (fits_room room) most names) cuts (record { start = start; end = end }) parts part)
