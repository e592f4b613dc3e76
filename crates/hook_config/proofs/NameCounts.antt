-- The number of names that a word writes is the one that `parse` reads.
use Rattle.std.proofs.Common.{◌≡◌, ◌∙◌, ap, refl, subst, sym, arith, ◌^◌, ℕ, ◌<◌, ◌≤◌, Bool, true, false, List, [], ◌∷◌, Option, None, Some, Result, Ok, Err}
use Rattle.std.proofs.lemmas.Bool.{false_from_ne_true, leb-true, lt-ltb, ltb-true}
use Rattle.std.specs.Prelude.{nat_le, nat_lt, ◌&&◌, if◌then◌else◌}
use Rattle.std.specs.Char.{digit_value}
use Rattle.std.specs.List.{list_all}
use Rattle.std.specs.Str.Parse.{AllDigits, IsNumeral, ParsesUnsigned, digits_value, without_leading_plus}
use Rattle.hook_config.specs.Kinds.{is_numeral, name_count, name_count_of_word}
use Rattle.hook_config.specs.Limits.{most_names}

both : (a b : Bool) → (a && b) ≡ true → (a ≡ true) × (b ≡ true)
both true b e = (refl, e)
both false b e = absurd (let never : false ≡ true = e in cc)

digits-from : (ds : List ℕ) → list_all (λ c. nat_lt (digit_value c) 10) ds ≡ true → AllDigits 10 ds
digits-from [] e = tt
digits-from (d ∷ ds) e =
    let parts = both _ _ e in
    (ltb-true _ _ parts.0, digits-from ds parts.1)

digits-back : (ds : List ℕ) → AllDigits 10 ds → list_all (λ c. nat_lt (digit_value c) 10) ds ≡ true
digits-back [] h = refl
digits-back (d ∷ ds) h = rw (lt-ltb (digit_value d) 10 h.0) (digits-back ds h.1)

numeral-from : (ds : List ℕ) → is_numeral ds ≡ true → IsNumeral 10 ds
numeral-from ds e =
    let parts = both _ _ e in
    (ltb-true _ _ parts.0, digits-from ds parts.1)

numeral-back : (ds : List ℕ) → IsNumeral 10 ds → is_numeral ds ≡ true
numeral-back ds h = rw (lt-ltb _ _ h.0, digits-back ds h.1) refl

pub counted : (word : List ℕ) {E : Type 0} (parsed : Result ℕ E) (number : ℕ) (count : Option ℕ) → ParsesUnsigned 64 10 word parsed → parsed ≡ Ok number
    → count ≡ name_count number → count ≡ name_count_of_word word
counted word {E} parsed number count reads is same =
    let ok : ParsesUnsigned {E = E} 64 10 word (Ok number) = subst (ParsesUnsigned {E = E} 64 10 word) is reads in
    rw (numeral-back (without_leading_plus word) ok.0.0) (same ∙ ap name_count ok.1)

-- no child gets as many names as no word of a machine counts
too-many : (n : ℕ) → ¬ (n < 2 ^ 64) → name_count n ≡ None
too-many n many =
    let fails : (nat_le 1 n && nat_le n most_names) ≡ false = false_from_ne_true _ (λ e.
    let most = leb-true n most_names (both _ _ e).1 in
    many (omega (arith, most))) in
    rw fails refl

none-by : (b : Bool) (n : ℕ) → (b ≡ true → ¬ (n < 2 ^ 64)) → None ≡ (if b then name_count n else None)
none-by true n many = sym (too-many n (many refl))
none-by false n many = refl

pub uncounted : (word : List ℕ) {E : Type 0} (parsed : Result ℕ E) (refused : E) → ParsesUnsigned 64 10 word parsed → parsed ≡ Err refused
    → None ≡ name_count_of_word word
uncounted word {E} parsed refused reads is =
    let none : ParsesUnsigned {E = E} 64 10 word (Err refused) = subst (ParsesUnsigned {E = E} 64 10 word) is reads in
    none-by (is_numeral (without_leading_plus word)) (digits_value 10 (without_leading_plus word))
    (λ e few. none (numeral-from (without_leading_plus word) e, few))
