use Rattle.std.proofs.Common.{◌≡◌, ℕ, ◌+◌, ◌-◌, ◌≤◌, List, length, take, drop, Option, Some, None, refl, sym, ◌∙◌, ap, arith, get_or-take, length-take}
use Rattle.std.proofs.lemmas.List.{take_all, take-take, ext_get_or, drop-take}
use Rattle.sqlite_disk.specs.Disk.{Holds, Cut}
use Rattle.lazy_disk.specs.DueCut.{shown_bytes, EndsWithin, MayLeaveDue}

-- below the length the file stays, whatever else is left of it
pub take-Cut : (n : ℕ) (xs ys : List ℕ) → n ≤ length xs → Cut n xs ys → take n ys ≡ take n xs
take-Cut n xs ys long cut =
    let a = length-take n xs in
    let b = length-take n ys in
    let longer = cut.no_shorter in
    ext_get_or 0 (take n ys) (take n xs) (omega arith) (λ i low.
    get_or-take n ys i 0 (omega arith) ∙ cut.below i (omega arith) (omega arith) ∙ sym (get_or-take n xs i 0 (omega arith)))

-- and where it has that length, it is the part below
pub whole-Cut : (n : ℕ) (xs ys : List ℕ) → n ≤ length xs → Cut n xs ys → length ys ≡ n → ys ≡ take n xs
whole-Cut n xs ys long cut len = sym (take_all n ys (omega arith)) ∙ take-Cut n xs ys long cut

pub length-shown_bytes-le : (cut : Option ℕ) (file : List ℕ) → length (shown_bytes cut file) ≤ length file
length-shown_bytes-le None file = omega arith
length-shown_bytes-le (Some n) file = omega (arith, length-take n file)

-- a part within the cut is that of the whole file
pub part-shown_bytes : (cut : Option ℕ) (file : List ℕ) (at n : ℕ) → EndsWithin cut (at + n) → take n (drop at (shown_bytes cut file)) ≡ take n (drop at file)
part-shown_bytes None file at n low = refl
part-shown_bytes (Some end) file at n low =
    let whole : end ≡ at + (end - at) = omega arith in
    let cut : drop at (take end file) ≡ take (end - at) (drop at file) = ap (λ k. drop at (take k file)) whole ∙ drop-take at (end - at) file in
    ap (take n) cut ∙ take-take n (end - at) (drop at file) (omega arith)

pub Holds-shown_bytes : (cut : Option ℕ) (file : List ℕ) (at : ℕ) (bytes : List ℕ) → EndsWithin cut (at + length bytes) → Holds file at bytes → Holds (shown_bytes cut file) at bytes
Holds-shown_bytes None file at bytes low holds = holds
Holds-shown_bytes (Some end) file at bytes low holds =
    let len = length-take end file in
    let long = holds.within in
    record { within = omega arith; each = λ i l. get_or-take end file (at + i) 0 (omega arith) ∙ holds.each i l }

Cut-itself : (n : ℕ) (file : List ℕ) → Cut n file file
Cut-itself n file = record { no_shorter = omega arith; no_longer = omega arith; below = λ i _ _. refl }

-- a cut that is put off may be lost
pub left_below : (cut : Option ℕ) (outcomes : List ℕ → Type 0) (left : List ℕ) → outcomes left → MayLeaveDue cut outcomes left
left_below None outcomes left here = here
left_below (Some n) outcomes left here = (left, here, Cut-itself n left)
