-- Lemmas: a command whose names each fit has parts.
use Rattle.std.proofs.Common.{◌≡◌, ◌∙◌, ℕ, ◌+◌, ◌-◌, ◌<◌, ◌≤◌, Bool, true, false, not, zero, suc, if◌then◌else◌, List, [], ◌∷◌, ◌++◌, Option, None, Some, length, take, drop, get_or, nat_le, position, slice_range, All, inl, inr, ap, refl, arith}
use Rattle.std.proofs.lemmas.Bool.{cases_order}
use Rattle.std.proofs.lemmas.Bool.Decides.{nat_tests}
use Rattle.std.proofs.lemmas.List.{take_more, get_or-drop, length-drop}
use Rattle.std.proofs.lemmas.List.Elements.{All-cons, All-nil}
use Rattle.std.proofs.lemmas.List.Sums.{fails_before_first}
use Rattle.std.specs.List.{position_or_len}
use Rattle.arg_partition.specs.declared.cut.Cut.{Cut}
use Rattle.arg_partition.specs.Parts.{Adjoin, AreParts, IsPart, can_be_part, fits, too_long_at}

-- ---- names of a range

pub range-none : (names : List (List ℕ)) (at : ℕ) → slice_range names at at ≡ []
range-none names at = let none : at - at ≡ 0 = omega arith in rw none refl

pub range-more : (names : List (List ℕ)) (start end : ℕ) → start ≤ end → end < length names
    → slice_range names start (end + 1) ≡ slice_range names start end ++ get_or names end [] ∷ []
range-more names start end forward within =
    let longer : (end + 1) - start ≡ (end - start) + 1 = omega arith in
    let inside : end - start < length (drop start names) = rw (length-drop start names) (omega arith) in
    let here : start + (end - start) ≡ end = omega arith in
    rw longer (take_more (drop start names) (end - start) [] inside
    ∙ ap (λ name. take (end - start) (drop start names) ++ name ∷ [])
    (get_or-drop start names (end - start) [] ∙ ap (λ at. get_or names at []) here))

range-one : (names : List (List ℕ)) (at : ℕ) → at < length names
    → slice_range names at (at + 1) ≡ get_or names at [] ∷ []
range-one names at within =
    range-more names at at (omega arith) within ∙ ap (λ before. before ++ get_or names at [] ∷ []) (range-none names at)

-- ---- names that each fit

none_before : (p : List ℕ → Bool) (names : List (List ℕ)) → position p names ≡ None
    → length names ≤ position_or_len p names
none_before p names none = grind (arith, nat_tests)

not_false : (a : Bool) → not a ≡ false → a ≡ true
not_false true e = refl
not_false false e = cc

pub each_fits : (fits : List (List ℕ) → Bool) (names : List (List ℕ)) (at : ℕ) → too_long_at fits names ≡ None
    → at < length names → fits (get_or names at [] ∷ []) ≡ true
each_fits fits [] at none within = absurd (omega arith)
each_fits fits (name ∷ names) at none within =
    let p : List ℕ → Bool = λ one. not (fits (one ∷ [])) in
    let before : at < position_or_len p (name ∷ names) = let all = none_before p (name ∷ names) none in omega arith in
    not_false (fits (get_or (name ∷ names) at [] ∷ [])) (fails_before_first p (name ∷ names) at [] before)

-- one name is few enough, and fits
one_can : (fits : List (List ℕ) → Bool) (most : ℕ) (names : List (List ℕ)) (at : ℕ) → 1 ≤ most
    → too_long_at fits names ≡ None → at < length names → can_be_part fits most names at (at + 1) ≡ true
one_can fits most names at some none within =
    let few : nat_le ((at + 1) - at) most ≡ true = grind (arith, nat_tests) in
    let fit : fits (slice_range names at (at + 1)) ≡ true =
    rw (range-one names at within) (each_fits fits names at none within) in
    rw (few, fit) refl

-- ---- one part, with as many names as it can have

-- a part that begins at `start`
record SomePart (fits : List (List ℕ) → Bool) (most : ℕ) (names : List (List ℕ)) (start : ℕ) : Type 0 where
  end : ℕ
  part : IsPart fits most names (record { start = start; end = end })
  forward : start < end
  within : end ≤ length names

-- the part takes names until the next doesn't fit; `left` names may still be added
part_from : (fits : List (List ℕ) → Bool) (most : ℕ) (names : List (List ℕ)) (start end left : ℕ) → start < end
    → end + left ≡ length names → can_be_part fits most names start end ≡ true → SomePart fits most names start
part_from fits most names start end zero forward all can = record {
  end = end;
  part = record { can_be = can; named = λ _. forward; full = λ before. absurd (omega arith) };
  forward = forward;
  within = omega arith;
}
part_from fits most names start end (suc left) forward all can =
    elim (can_be_part fits most names start (end + 1)) as (λ more. can_be_part fits most names start (end + 1) ≡ more
    → SomePart fits most names start) [
      | true ↦ λ longer. part_from fits most names start (end + 1) left (omega arith) (omega arith) longer
      | false ↦ λ full. record {
        end = end;
        part = record { can_be = can; named = λ _. forward; full = λ _. full };
        forward = forward;
        within = omega arith;
      }
    ] refl

-- ---- all parts

-- parts of the names from `start` on
record SomePartsFrom (fits : List (List ℕ) → Bool) (most : ℕ) (names : List (List ℕ)) (start : ℕ) : Type 0 where
  cuts : List Cut
  adjoin : Adjoin start cuts (length names)
  parts : All (IsPart fits most names) cuts

-- there is at most one part for each of the names that are left
parts_from : (fits : List (List ℕ) → Bool) (most : ℕ) (names : List (List ℕ)) (start left : ℕ) → 1 ≤ most
    → too_long_at fits names ≡ None → start ≤ length names → length names ≤ start + left
    → SomePartsFrom fits most names start
parts_from fits most names start zero some none within few =
    record { cuts = []; adjoin = omega arith; parts = All-nil (IsPart fits most names) }
parts_from fits most names start (suc left) some none within few =
    elim (cases_order start (length names)) [
      | inl done ↦ record { cuts = []; adjoin = done; parts = All-nil (IsPart fits most names) }
      | inr order ↦ elim order [
        | inl before ↦
            let first =
            part_from fits most names start (start + 1) (length names - (start + 1)) (omega arith) (omega arith)
            (one_can fits most names start some none before) in
            let forward = first.forward in
            let rest = parts_from fits most names first.end left some none first.within (omega arith) in
            record {
              cuts = record { start = start; end = first.end } ∷ rest.cuts;
              adjoin = (refl, rest.adjoin);
              parts =
                  All-cons (IsPart fits most names) (record { start = start; end = first.end }) rest.cuts first.part
                  rest.parts;
            }
        | inr after ↦ absurd (omega arith)
      ]
    ]

abbrev nothing_fits : Bool → Option ℕ
nothing_fits fit = if fit then None else Some 0

fits_none : (fit : Bool) → nothing_fits fit ≡ None → fit ≡ true
fits_none true none = refl
fits_none false none = cc

nothing_can : (fits : List (List ℕ) → Bool) (most : ℕ) → too_long_at fits [] ≡ None
    → can_be_part fits most [] 0 0 ≡ true
nothing_can fits most none =
    let few : nat_le (0 - 0) most ≡ true = grind (arith, nat_tests) in
    let fit : fits (slice_range [] 0 0) ≡ true = fits_none (fits []) none in
    rw (few, fit) refl

abbrev nothing : Cut
nothing = record { start = 0; end = 0 }

only_part : (fits : List (List ℕ) → Bool) (most : ℕ) → too_long_at fits [] ≡ None → IsPart fits most [] nothing
only_part fits most none =
    record {
      can_be = nothing_can fits most none;
      named = λ before. absurd (omega arith);
      full = λ before. absurd
          (omega arith);
    }

pub parts-exist : (words names : List (List ℕ)) (limit most : ℕ) → 1 ≤ most
    → too_long_at (fits words limit) names ≡ None → (cuts : List Cut) × AreParts (fits words limit) most names cuts
parts-exist words [] limit most some none = (
  nothing ∷ [],
  record {
    adjoin = (refl, refl);
    parts =
        All-cons (IsPart (fits words limit) most []) nothing [] (only_part (fits words limit) most none)
        (All-nil (IsPart (fits words limit) most []));
    alone = λ _. refl;
  },
)
parts-exist words (name ∷ names) limit most some none =
    let parts =
    parts_from (fits words limit) most (name ∷ names) 0 (length (name ∷ names)) some none (omega arith)
    (omega arith) in
    (parts.cuts, record { adjoin = parts.adjoin; parts = parts.parts; alone = λ empty. absurd (omega arith) })
