-- What holds of a list, of as many of it as a limit leaves.
use Rattle.std.proofs.Common.{◌≡◌, ℕ, zero, suc, ◌≤◌, List, [], ◌∷◌, length, take, refl, ap, arith}
use Rattle.std.specs.List.{AllByRecursion}
use Rattle.sqlite_trees.specs.Tree.{IsAscending}

pub all_taken : {X : Type 0} (P : X → Type 0) (n : ℕ) (xs : List X) → AllByRecursion P xs → AllByRecursion P (take n xs)
all_taken P zero [] all = tt
all_taken P zero (x ∷ xs) all = tt
all_taken P (suc n) [] all = tt
all_taken P (suc n) (x ∷ xs) all = (all.0, all_taken P n xs all.1)

pub ascending_taken : {X : Type 0} (R : X → X → Type 0) (n : ℕ) (xs : List X) → IsAscending R xs → IsAscending R (take n xs)
ascending_taken R zero [] up = tt
ascending_taken R zero (x ∷ xs) up = tt
ascending_taken R (suc n) [] up = tt
ascending_taken R (suc n) (x ∷ xs) up = (all_taken (R x) n xs up.0, ascending_taken R n xs up.1)

pub few_taken : {X : Type 0} (n : ℕ) (xs : List X) → length (take n xs) ≤ n
few_taken zero [] = omega arith
few_taken zero (x ∷ xs) = omega arith
few_taken (suc n) [] = omega arith
few_taken (suc n) (x ∷ xs) = let rest = few_taken n xs in omega arith

pub all_stay : {X : Type 0} (n : ℕ) (xs : List X) → length xs ≤ n → take n xs ≡ xs
all_stay zero [] few = refl
all_stay zero (x ∷ xs) few = absurd (omega arith)
all_stay (suc n) [] few = refl
all_stay {X} (suc n) (x ∷ xs) few = ap (λ (l : List X). x ∷ l) (all_stay n xs (omega arith))
