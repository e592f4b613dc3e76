-- Lists in a walk by index, and results.
use Rattle.std.proofs.Common.{◌≡◌, ◌∙◌, ℕ, zero, suc, ◌<◌, List, [], ◌∷◌, ◌++◌, drop, length, Bool, true, false, Some, Result, Ok, Err, OnOk, OnErr, ap, sym, subst, refl, arith, not, true≢false}
use Rattle.std.specs.Prelude.{slice_get}
use Rattle.std.specs.Bool.{Decides}

pub empty_list : {X : Type 0} → (xs : List X) → length xs ≡ 0 → xs ≡ []
empty_list [] none = refl
empty_list (x ∷ xs) none = absurd (omega arith)

pub next_drop : {X : Type 0} → (xs : List X) (k n : ℕ) (x : X) → n ≡ suc k → slice_get xs k ≡ Some x → drop k xs ≡ x ∷ drop n xs
next_drop [] k n x is at = absurd (cc)
next_drop (first ∷ xs) zero n x is at =
    let same : first ≡ x = cc in
    subst (λ (m : ℕ). first ∷ xs ≡ x ∷ drop m (first ∷ xs)) (sym is) (ap (λ y. y ∷ xs) same)
next_drop (first ∷ xs) (suc k) n x is at =
    subst (λ (m : ℕ). drop k xs ≡ x ∷ drop m (first ∷ xs)) (sym is) (next_drop xs k (suc k) x refl at)

append_step : {X : Type 0} → (done made rest : List X) → (done ++ made) ++ rest ≡ done ++ (made ++ rest)
append_step [] made rest = refl
append_step (y ∷ done) made rest = ap (λ xs. y ∷ xs) (append_step done made rest)

-- a step of a walk: what it makes of the next item goes over to what is done
pub walk_step : {X : Type 0} → (done more made rest left whole : List X) → more ≡ done ++ made → left ≡ made ++ rest → done ++ left ≡ whole → more ++ rest ≡ whole
walk_step done more made rest left whole more_is left_is before =
    ap (λ xs. xs ++ rest) more_is ∙ (append_step done made rest ∙ (ap (λ xs. done ++ xs) (sym left_is) ∙ before))

pub same_items : {X : Type 0} → (xs ys : List X) → length xs ≡ length ys → ((k : ℕ) → k < length xs → slice_get xs k ≡ slice_get ys k) → xs ≡ ys
same_items [] [] count same = refl
same_items [] (y ∷ ys) count same = absurd (omega arith)
same_items (x ∷ xs) [] count same = absurd (omega arith)
same_items (x ∷ xs) (y ∷ ys) count same =
    let first : Some x ≡ Some y = same 0 (omega arith) in
    let rest = same_items xs ys (omega arith) (λ k within. same (suc k) (omega arith)) in
    cc

pub where_ok : {X E : Type 0} {P Q : Type 0} → (result : Result X E) → OnOk result P → (P → Q) → OnOk result Q
where_ok (Ok done) held gives = gives held
where_ok (Err refused) held gives = held

pub by_result : {X E : Type 0} {P Q R : Type 0} → (result : Result X E) → OnOk result P → OnErr result Q → (P → R) → (Q → R) → R
by_result (Ok done) ok err first second = first ok
by_result (Err refused) ok err first second = second err

pub true_from : {P : Type 0} → (b : Bool) → Decides b P → P → true ≡ b
true_from b decides holds = sym (decides.1 holds)

pub false_from : {P : Type 0} → (b : Bool) → Decides b P → (P → ⊥) → false ≡ b
false_from true decides fails = absurd (fails (decides.0 refl))
false_from false decides fails = refl

pub differ : (b : Bool) → b ≡ true → not b ≡ true → ⊥
differ true held denied = absurd (true≢false (sym denied))
differ false held denied = absurd (true≢false (sym held))
