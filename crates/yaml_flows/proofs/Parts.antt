-- What is read of each part in turn, with what was read before in front.
use Rattle.std.proofs.Common.{◌≡◌, ℕ, zero, suc, ◌+◌, ◌-◌, ◌<◌, ◌≤◌, Bool, true, false, cond, List, [], ◌∷◌, ◌++◌, drop, map, Option, Some, None, option_map, option_and_then, refl, sym, ap, ◌∙◌, arith, append_assoc}
use Rattle.std.proofs.lemmas.List.{append-nil, map-append}
use Rattle.yaml_lines.specs.Characters.{begins_with}
use Rattle.yaml_flows.specs.Flows.{Found, mapped, part, parts_within}

-- xs in front of what is given, where something is
abbrev pub prepend : {A : Type 0} → List A → Option (Found (List A)) → Option (Found (List A))
prepend xs o = option_map (mapped (λ ys. xs ++ ys)) o

pub none_before : {A : Type 0} (o : Option (Found (List A))) → o ≡ prepend [] o
none_before None = refl
none_before (Some found) = refl

-- a part in front of those after it
abbrev pub in_front : {A : Type 0} → A → Option (Found (List A)) → Option (Found (List A))
in_front x o = option_map (mapped (λ more. x ∷ more)) o

after_one : {A : Type 0} (xs : List A) (y : A) (o : Option (Found (List A))) → prepend xs (in_front y o) ≡ prepend (xs ++ y ∷ []) o
after_one xs y None = refl
after_one {A} xs y (Some found) =
    let f : List A → Option (Found (List A)) = λ zs. Some (record { value = zs; rest = found.rest }) in
    ap f (sym (append_assoc xs (y ∷ []) found.value))

module _ {A : Type 0} (close : ℕ) (read : List ℕ → Option (Found A)) where
  abbrev pub behind_part : ℕ → Found A → Option (Found (List A))
  behind_part most found = in_front found.value (parts_within close read most found.rest)

  within_step : (most : ℕ) (cs : List ℕ) → parts_within close read (suc most) cs
      ≡ cond (begins_with close cs) (Some (record { value = []; rest = drop 1 cs })) (option_and_then (behind_part most) (part close read cs))
  unfolding parts_within
  within_step most cs = refl

  within_none : (cs : List ℕ) → parts_within close read zero cs ≡ None
  unfolding parts_within
  within_none cs = refl

  fueled : (n i : ℕ) (cs : List ℕ) → i < n → parts_within close read (n - i) cs ≡ parts_within close read (suc (n - (i + 1))) cs
  fueled n i cs within =
      let fuel : n - i ≡ suc (n - (i + 1)) = omega arith in ap (λ (m : ℕ). parts_within close read m cs) fuel

  one_step : (n i : ℕ) (cs : List ℕ) (b : Bool) (o : Option (Found A)) → i < n → begins_with close cs ≡ b → part close read cs ≡ o
      → parts_within close read (n - i) cs ≡ cond b (Some (record { value = []; rest = drop 1 cs })) (option_and_then (behind_part (n - (i + 1))) o)
  one_step n i cs b o within h e =
      let end : Option (Found (List A)) = Some (record { value = []; rest = drop 1 cs }) in
      fueled n i cs within
      ∙ (within_step (n - (i + 1)) cs
      ∙ (ap (λ (b : Bool). cond b end (option_and_then (behind_part (n - (i + 1))) (part close read cs))) h
      ∙ ap (λ (o : Option (Found A)). cond b end (option_and_then (behind_part (n - (i + 1))) o)) e))

  pub part_closed : (n i : ℕ) (cs : List ℕ) (xs : List A) → i < n → begins_with close cs ≡ true → prepend xs (parts_within close read (n - i) cs) ≡ Some (record { value = xs; rest = drop 1 cs })
  part_closed n i cs xs within h =
      let f : List A → Option (Found (List A)) = λ ys. Some (record { value = ys; rest = drop 1 cs }) in
      ap (prepend xs) (one_step n i cs true (part close read cs) within h refl) ∙ ap f (append-nil xs)

  -- the parts from this one on
  pub part_then : (n i : ℕ) (cs : List ℕ) (found : Found A) → i < n → begins_with close cs ≡ false → part close read cs ≡ Some found
      → parts_within close read (n - i) cs ≡ in_front found.value (parts_within close read (n - (i + 1)) found.rest)
  part_then n i cs found within h e = one_step n i cs false (Some found) within h e

  pub part_read : (n i : ℕ) (cs : List ℕ) (xs : List A) (found : Found A) → i < n → begins_with close cs ≡ false → part close read cs ≡ Some found
      → prepend xs (parts_within close read (n - i) cs) ≡ prepend (xs ++ found.value ∷ []) (parts_within close read (n - (i + 1)) found.rest)
  part_read n i cs xs found within h e =
      ap (prepend xs) (part_then n i cs found within h e) ∙ after_one xs found.value (parts_within close read (n - (i + 1)) found.rest)

  pub part_refused : (n i : ℕ) (cs : List ℕ) (xs : List A) → i < n → begins_with close cs ≡ false → part close read cs ≡ None → prepend xs (parts_within close read (n - i) cs) ≡ None
  part_refused n i cs xs within h e = ap (prepend xs) (one_step n i cs false None within h e)

  pub no_more : (n i : ℕ) (cs : List ℕ) (xs : List A) → n ≤ i → prepend xs (parts_within close read (n - i) cs) ≡ None
  no_more n i cs xs past =
      let fuel : n - i ≡ 0 = omega arith in
      ap (λ (m : ℕ). prepend xs (parts_within close read m cs)) fuel ∙ ap (prepend xs) (within_none cs)

pub map_push : {A B : Type 0} (f : A → B) (before after : List A) (x : A) → after ≡ before ++ x ∷ [] → map f after ≡ map f before ++ f x ∷ []
map_push f before after x e = ap (map f) e ∙ map-append f before (x ∷ [])
