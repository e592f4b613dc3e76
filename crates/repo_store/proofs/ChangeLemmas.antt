-- Changes that are too large or collide, among others.
use Rattle.std.proofs.Common.{◌≡◌, ℕ, ◌+◌, ◌<◌, List, [], ◌∷◌, ◌++◌, length, take, drop, get_or, MatchOption, true, is_some, refl, sym, ap, subst, ◌∙◌, inl, inr, arith, length-append, append_assoc}
use Rattle.std.proofs.lemmas.Bool.{cases_lt}
use Rattle.std.proofs.lemmas.Option.{slice_get_read, slice_get_within, get_or_from_slice_get}
use Rattle.std.proofs.lemmas.List.{take-append-drop}
use Rattle.std.proofs.lemmas.List.Elements.{filter-append}
use lib.Seq.{get_or-append_seam, take-append_seam, take-append-le}
use lib.ListN.{get_or-append}
use Rattle.hook_base.specs.declared.file.File.{File}
use Rattle.hook_base.specs.declared.change.Change.{Change}
use Rattle.hook_base.specs.Trees.{entry_of}
use Rattle.repo_store.specs.Contents.{Collides, with_changes}
use Rattle.repo_store.specs.Kept.{FixCollides, HasLarge}
use Rattle.store_faults.specs.Limits.{IsSmall}
use Rattle.repo_store.specs.Repository.{staged_changes}
use Rattle.repo_store.proofs.FixLemmas.{one_staged}

abbrev pub IsLarge : Change → Type 0
IsLarge change = MatchOption change.now ⊥ (λ bytes. ¬ IsSmall bytes)

-- the change's contents collide with these
abbrev pub CollidesIn : Change → List (List ℕ) → Type 0
CollidesIn change contents = MatchOption change.now ⊥ (λ bytes. Collides bytes contents)

-- the staged changes, around one of them
pub staged_around : (changes : List Change) (staged : List File) (i : ℕ) (change : Change) → i < length changes → change ≡ get_or changes i change → is_some (entry_of change.path staged) ≡ true
    → staged_changes changes staged ≡ staged_changes (take i changes) staged ++ change ∷ staged_changes (drop (i + 1) changes) staged
staged_around changes staged i change within is there =
    let rest = staged_changes (drop (i + 1) changes) staged in
    ap (λ (l : List Change). staged_changes l staged) (sym (take-append-drop (i + 1) changes))
    ∙ filter-append (λ (c : Change). is_some (entry_of c.path staged)) (take (i + 1) changes) (drop (i + 1) changes)
    ∙ ap (λ (l : List Change). l ++ rest) (one_staged changes staged i change within is there) ∙ append_assoc (staged_changes (take i changes) staged) (change ∷ []) rest

module _ (front : List Change) (change : Change) where
  pub large_among : (rest all : List Change) → all ≡ front ++ change ∷ rest → IsLarge change → HasLarge all
  large_among rest all is large =
      subst HasLarge (sym is) (length front, change, omega (arith, length-append front (change ∷ rest)), get_or-append_seam front change rest change, large)

  pub none_large : (all : List Change) → all ≡ front ++ change ∷ [] → ¬ HasLarge front → ¬ IsLarge change → ¬ HasLarge all
  none_large all is before here some =
      let any : HasLarge (front ++ change ∷ []) = subst HasLarge is some in
      let k = any.0 in
      let x = any.1 in
      let within : k < length (front ++ change ∷ []) = any.2 in
      elim (cases_lt k (length front)) [
        | inl lt ↦ before (k, x, lt, sym (get_or-append front (change ∷ []) x k lt) ∙ any.3, any.4)
        | inr ge ↦
            let same : length front ≡ k = omega (arith, length-append front (change ∷ [])) in
            let it : change ≡ x = sym (get_or-append_seam front change [] x) ∙ ap (λ (j : ℕ). get_or (front ++ change ∷ []) j x) same ∙ any.3 in
            here (subst IsLarge (sym it) any.4)
      ]

  module _ (contents : List (List ℕ)) where
    pub collides_among : (rest all : List Change) → all ≡ front ++ change ∷ rest → CollidesIn change (with_changes front contents) → FixCollides all contents
    collides_among rest all is collides = subst (λ (l : List Change). FixCollides l contents) (sym is) (record {
      at = length front;
      change = change;
      is =
          slice_get_read (front ++ change ∷ rest) (length (front ++ change ∷ rest)) (length front) change refl (omega (arith, length-append front (change ∷ rest)))
          (sym (get_or-append_seam front change rest change));
      collides = subst (λ (l : List Change). CollidesIn change (with_changes l contents)) (sym (take-append_seam front (change ∷ rest))) collides;
    })

    pub none_collide : (all : List Change) → all ≡ front ++ change ∷ [] → ¬ FixCollides front contents → ¬ CollidesIn change (with_changes front contents) → ¬ FixCollides all contents
    none_collide all is before here some =
        let any : FixCollides (front ++ change ∷ []) contents = subst (λ (l : List Change). FixCollides l contents) is some in
        let k = any.at in
        let x = any.change in
        let within : k < length (front ++ change ∷ []) = slice_get_within (front ++ change ∷ []) k x any.is in
        let read : get_or (front ++ change ∷ []) k x ≡ x = get_or_from_slice_get (front ++ change ∷ []) k x x any.is in
        elim (cases_lt k (length front)) [
          | inl lt ↦ before (record {
            at = k;
            change = x;
            is = slice_get_read front (length front) k x refl lt (sym read ∙ get_or-append front (change ∷ []) x k lt);
            collides = subst (λ (l : List Change). CollidesIn x (with_changes l contents)) (take-append-le k front (change ∷ []) (omega arith)) any.collides;
          })
          | inr ge ↦
              let same : length front ≡ k = omega (arith, length-append front (change ∷ [])) in
              let it : x ≡ change = sym read ∙ ap (λ (j : ℕ). get_or (front ++ change ∷ []) j x) (sym same) ∙ get_or-append_seam front change [] x in
              let obeys : take k (front ++ change ∷ []) ≡ front = ap (λ (j : ℕ). take j (front ++ change ∷ [])) (sym same) ∙ take-append_seam front (change ∷ []) in
              here (subst (λ (l : List Change). CollidesIn change (with_changes l contents)) obeys
              (subst (λ (c : Change). CollidesIn c (with_changes (take k (front ++ change ∷ [])) contents)) it any.collides))
        ]
