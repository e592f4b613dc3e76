-- What is read of each part in turn, with what was read before in front.
use Rattle.std.proofs.Common.{◌≡◌, List, [], ◌∷◌, ◌++◌, Option, Some, None, option_map, refl, sym, ap, append_assoc, append-nil}
use Rattle.yaml_profile.specs.Blocks.{all_of}

-- xs in front of what is given, where something is
abbrev pub prepend : {A : Type 0} → List A → Option (List A) → Option (List A)
prepend xs o = option_map (λ ys. xs ++ ys) o

pub none_before : {A : Type 0} (o : Option (List A)) → o ≡ prepend [] o
none_before None = refl
none_before (Some xs) = refl

after_one : {A : Type 0} (xs : List A) (y : A) (o : Option (List A)) → prepend xs (option_map (λ ys. y ∷ ys) o) ≡ prepend (xs ++ y ∷ []) o
after_one xs y None = refl
after_one xs y (Some ys) = ap (λ zs. Some zs) (sym (append_assoc xs (y ∷ []) ys))

-- one element more
pub one_more : {A B : Type 0} (f : A → Option B) (xs : List B) (a : A) (rest : List A) (y : B) → f a ≡ Some y → prepend xs (all_of f (a ∷ rest)) ≡ prepend (xs ++ y ∷ []) (all_of f rest)
unfolding all_of
one_more f xs a rest y e = rw e (after_one xs y (all_of f rest))

-- an element of which nothing is given
pub refused : {A B : Type 0} (f : A → Option B) (xs : List B) (a : A) (rest : List A) → f a ≡ None → prepend xs (all_of f (a ∷ rest)) ≡ None
unfolding all_of
refused f xs a rest e = rw e

pub all_read : {A B : Type 0} (f : A → Option B) (xs : List B) → prepend xs (all_of f []) ≡ Some xs
unfolding all_of
all_read f xs = ap (λ ys. Some ys) (append-nil xs)
