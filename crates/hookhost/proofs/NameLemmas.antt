-- Names with an empty one at their end.
use Rattle.std.proofs.Common.{◌≡◌, ap, refl, ℕ, List, [], ◌∷◌, ◌++◌}
use Rattle.hookhost.specs.Names.{with_last, without_empty_end}

pub empty-end : (names : List (List ℕ)) → without_empty_end (names ++ [] ∷ []) ≡ names
empty-end [] = refl
empty-end (name ∷ []) = refl
empty-end (name ∷ next ∷ names) = ap (λ (more : List (List ℕ)). name ∷ more) (empty-end (next ∷ names))

pub full-end : (names : List (List ℕ)) (byte : ℕ) (bytes : List ℕ)
    → without_empty_end (names ++ (byte ∷ bytes) ∷ []) ≡ names ++ (byte ∷ bytes) ∷ []
full-end [] byte bytes = refl
full-end (name ∷ []) byte bytes = refl
full-end (name ∷ next ∷ names) byte bytes =
    ap (λ (more : List (List ℕ)). name ∷ more) (full-end (next ∷ names) byte bytes)

pub end-kept : (names : List (List ℕ)) (last : List ℕ) → without_empty_end (names ++ last ∷ []) ≡ with_last names last
end-kept names [] = empty-end names
end-kept names (byte ∷ bytes) = full-end names byte bytes
