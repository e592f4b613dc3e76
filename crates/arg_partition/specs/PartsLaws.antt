-- Laws of parts: there is only one list of them, and it has each name once.
use Rattle.std.specs.Prelude.{◌≡◌, ℕ, ◌+◌, ◌-◌, ◌<◌, ◌≤◌, ◌&&◌, Bool, true, false, nat_le, List, [], ◌∷◌, ◌++◌, length, drop, slice_range, All, refl}
use Rattle.std.specs.List.{flat_map}
use Rattle.std.proofs.Common.{◌∙◌, inl, inr, ap, sym, subst, arith}
use Rattle.std.proofs.lemmas.Bool.{cases_order}
use Rattle.std.proofs.lemmas.Bool.Decides.{nat_tests}
use Rattle.std.proofs.lemmas.List.{append_assoc, take-append-drop, take-take}
use Rattle.std.proofs.Math.ListN.{drop_of_length-le}
use Rattle.std.proofs.lemmas.List.Elements.{All-head, All-tail}
use Rattle.std.proofs.lemmas.List.Concat.{flat_map-cons}
use Rattle.std.proofs.lemmas.List.Folds.{drop_split}
use Rattle.std.proofs.lemmas.List.Sums.{sum_by-append}
use Rattle.arg_partition.specs.declared.cut.Cut.{Cut}
use Rattle.arg_partition.specs.Parts.{Adjoin, AreParts, IsPart, can_be_part, command_length, fits, names_of}

-- ---- names that fit also fit without the last of them

length-front : (front more : List (List ℕ)) → command_length front ≤ command_length (front ++ more)
length-front [] more = omega arith
length-front (word ∷ words) more = omega (arith, sum_by-append (λ (other : List ℕ). 1 + length other) words more)

fits-front : (words front more : List (List ℕ)) (limit : ℕ) → fits words limit (front ++ more) ≡ true
    → fits words limit front ≡ true
fits-front words front more limit fit =
    let shorter = length-front (words ++ front) more in
    let same = ap command_length (append_assoc words front more) in
    grind (arith, nat_tests)

range-front : (names : List (List ℕ)) (start end later : ℕ) → end ≤ later
    → slice_range names start end ++ drop (end - start) (slice_range names start later) ≡ slice_range names start later
range-front names start end later within =
    let fewer : end - start ≤ later - start = omega arith in
    ap (λ front. front ++ drop (end - start) (slice_range names start later))
    (sym (take-take (end - start) (later - start) (drop start names) fewer))
    ∙ take-append-drop (end - start) (slice_range names start later)

and_first : (a b : Bool) → (a && b) ≡ true → a ≡ true
and_first true b e = refl
and_first false b e = e

and_second : (a b : Bool) → (a && b) ≡ true → b ≡ true
and_second true b e = e
and_second false b e = cc

few_fewer : (most start end later : ℕ) → end ≤ later → nat_le (later - start) most ≡ true
    → nat_le (end - start) most ≡ true
few_fewer most start end later within few = grind (arith, nat_tests)

can_be-front : (words names : List (List ℕ)) (limit most start end later : ℕ) → end ≤ later
    → can_be_part (fits words limit) most names start later ≡ true
    → can_be_part (fits words limit) most names start end ≡ true
can_be-front words names limit most start end later within can =
    let few = and_first (nat_le (later - start) most) (fits words limit (slice_range names start later)) can in
    let all = and_second (nat_le (later - start) most) (fits words limit (slice_range names start later)) can in
    let fit =
    fits-front words (slice_range names start end) (drop (end - start) (slice_range names start later)) limit
    (subst (λ range. fits words limit range ≡ true) (sym (range-front names start end later within)) all) in
    let fewer : nat_le (end - start) most ≡ true = few_fewer most start end later within few in
    rw (fewer, fit) refl

-- ---- there is one list of parts

adjoin-le : (fits : List (List ℕ) → Bool) (most : ℕ) (names : List (List ℕ)) (start end : ℕ) (cuts : List Cut)
    → 0 < length names → Adjoin start cuts end → All (IsPart fits most names) cuts → start ≤ end
adjoin-le fits most names start end [] some adjoin parts = omega arith
adjoin-le fits most names start end (cut ∷ cuts) some adjoin parts =
    let named = (All-head (IsPart fits most names) cut cuts parts).named some in
    let rest =
    adjoin-le fits most names cut.end end cuts some adjoin.1 (All-tail (IsPart fits most names) cut cuts parts) in
    let begins = adjoin.0 in
    omega arith

-- no part ends before another that begins at the same name
no_sooner : (words names : List (List ℕ)) (limit most : ℕ) (cut other : Cut) → IsPart (fits words limit) most names cut
    → IsPart (fits words limit) most names other → cut.start ≡ other.start → cut.end < other.end
    → other.end ≤ length names → ⊥
no_sooner words names limit most cut other part more begins sooner within =
    let full = part.full (omega arith) in
    let can = can_be-front words names limit most other.start (cut.end + 1) other.end (omega arith) more.can_be in
    let can_here : can_be_part (fits words limit) most names cut.start (cut.end + 1) ≡ true = rw begins can in
    cc

same_cut : (words names : List (List ℕ)) (limit most : ℕ) (cut other : Cut) → IsPart (fits words limit) most names cut
    → IsPart (fits words limit) most names other → cut.start ≡ other.start → cut.end ≤ length names
    → other.end ≤ length names → cut.end ≡ other.end
same_cut words names limit most cut other part more begins within also =
    elim (cases_order cut.end other.end) [
      | inl same ↦ same
      | inr order ↦ elim order [
        | inl sooner ↦ absurd (no_sooner words names limit most cut other part more begins sooner also)
        | inr later ↦ absurd (no_sooner words names limit most other cut more part (sym begins) later within)
      ]
    ]

abbrev made : ℕ → ℕ → Cut
made start end = record { start = start; end = end }

cut_list : (cut other : Cut) (cuts others : List Cut) → cut.start ≡ other.start → cut.end ≡ other.end → cuts ≡ others
    → (cut ∷ cuts) ≡ (other ∷ others)
cut_list cut other cuts others begins ends rest =
    let same : cut ≡ other = ap (λ start. made start cut.end) begins ∙ ap (made other.start) ends in
    cc

unique_from : (words names : List (List ℕ)) (limit most start : ℕ) (cuts others : List Cut) → 0 < length names
    → Adjoin start cuts (length names) → All (IsPart (fits words limit) most names) cuts
    → Adjoin start others (length names) → All (IsPart (fits words limit) most names) others → cuts ≡ others
unique_from words names limit most start [] [] some adjoin parts also more = refl
unique_from words names limit most start [] (other ∷ others) some adjoin parts also more =
    let P = IsPart (fits words limit) most names in
    let named = (All-head P other others more).named some in
    let rest =
    adjoin-le (fits words limit) most names other.end (length names) others some also.1
    (All-tail P other others more) in
    let begins = also.0 in
    absurd (omega arith)
unique_from words names limit most start (cut ∷ cuts) [] some adjoin parts also more =
    let P = IsPart (fits words limit) most names in
    let named = (All-head P cut cuts parts).named some in
    let rest =
    adjoin-le (fits words limit) most names cut.end (length names) cuts some adjoin.1 (All-tail P cut cuts parts) in
    let begins = adjoin.0 in
    absurd (omega arith)
unique_from words names limit most start (cut ∷ cuts) (other ∷ others) some adjoin parts also more =
    let P = IsPart (fits words limit) most names in
    let within =
    adjoin-le (fits words limit) most names cut.end (length names) cuts some adjoin.1 (All-tail P cut cuts parts) in
    let within_also =
    adjoin-le (fits words limit) most names other.end (length names) others some also.1
    (All-tail P other others more) in
    let begins = adjoin.0 ∙ sym also.0 in
    let ends =
    same_cut words names limit most cut other (All-head P cut cuts parts) (All-head P other others more) begins
    within within_also in
    let rest =
    unique_from words names limit most cut.end cuts others some adjoin.1 (All-tail P cut cuts parts)
    (subst (λ at. Adjoin at others (length names)) (sym ends) also.1) (All-tail P other others more) in
    cut_list cut other cuts others begins ends rest

pub parts-unique : (words names : List (List ℕ)) (limit most : ℕ) (cuts others : List Cut)
    → AreParts (fits words limit) most names cuts → AreParts (fits words limit) most names others → cuts ≡ others
parts-unique words [] limit most cuts others parts more = parts.alone refl ∙ sym (more.alone refl)
parts-unique words (name ∷ names) limit most cuts others parts more =
    unique_from words (name ∷ names) limit most 0 cuts others (omega arith) parts.adjoin parts.parts more.adjoin
    more.parts

-- ---- the names of the parts are all names

joined_from : (fits : List (List ℕ) → Bool) (most : ℕ) (names : List (List ℕ)) (start : ℕ) (cuts : List Cut)
    → 0 < length names → Adjoin start cuts (length names) → All (IsPart fits most names) cuts
    → flat_map (names_of names) cuts ≡ drop start names
joined_from fits most names start [] some adjoin parts = sym (drop_of_length-le names (omega arith))
joined_from fits most names start (cut ∷ cuts) some adjoin parts =
    let named = (All-head (IsPart fits most names) cut cuts parts).named some in
    let rest =
    joined_from fits most names cut.end cuts some adjoin.1 (All-tail (IsPart fits most names) cut cuts parts) in
    let forward : cut.start ≤ cut.end = omega arith in
    flat_map-cons (names_of names) cut cuts
    ∙ (ap (λ more. names_of names cut ++ more) rest
    ∙ (sym (drop_split names cut.start cut.end forward) ∙ ap (λ at. drop at names) adjoin.0))

pub parts-joined : (words names : List (List ℕ)) (limit most : ℕ) (cuts : List Cut)
    → AreParts (fits words limit) most names cuts → flat_map (names_of names) cuts ≡ names
parts-joined words [] limit most cuts parts = rw (parts.alone refl) refl
parts-joined words (name ∷ names) limit most cuts parts =
    joined_from (fits words limit) most (name ∷ names) 0 cuts (omega arith) parts.adjoin parts.parts
