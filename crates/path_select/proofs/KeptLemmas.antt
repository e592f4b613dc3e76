-- Lemmas: what a loop over references has kept of their paths.
use Rattle.std.proofs.Common.{◌≡◌, ℕ, ◌+◌, ◌<◌, Bool, true, false, if◌then◌else◌, List, [], ◌∷◌, ◌++◌, length, get_or, take, filter, refl, ap, sym, ◌∙◌}
use Rattle.std.proofs.lemmas.List.{take_more, append-nil}
use Rattle.std.proofs.lemmas.List.Elements.{filter-append}
use Rattle.path_select.specs.Candidates.{paths_of}
use denote.Ref.{Bor}

pub paths_of_append : (first second : List (Bor (List ℕ))) → paths_of (first ++ second) ≡ paths_of first ++ paths_of second
paths_of_append [] second = refl
paths_of_append (path ∷ first) second = ap (λ rest. path.now ∷ rest) (paths_of_append first second)

module _ (test : List ℕ → Bool) (paths : List (Bor (List ℕ))) (k : ℕ) (path : Bor (List ℕ)) (within : k < length paths) (at : path ≡ get_or paths k path) where
  abbrev kept_so_far : List (List ℕ)
  kept_so_far = filter test (paths_of (take k paths))

  kept_next : filter test (paths_of (take (k + 1) paths)) ≡ kept_so_far ++ (if test path.now then path.now ∷ [] else [])
  kept_next =
      ap (λ some. filter test (paths_of some)) (take_more paths k path within)
      ∙ ap (filter test) (paths_of_append (take k paths) _)
      ∙ filter-append test _ _
      ∙ ap (λ (next : Bor (List ℕ)). kept_so_far ++ (if test next.now then next.now ∷ [] else [])) (sym at)

  pub kept_more : test path.now ≡ true → filter test (paths_of (take (k + 1) paths)) ≡ kept_so_far ++ path.now ∷ []
  kept_more kept = kept_next ∙ rw kept refl

  pub kept_same : test path.now ≡ false → filter test (paths_of (take (k + 1) paths)) ≡ kept_so_far
  kept_same left = kept_next ∙ rw left (append-nil _)
