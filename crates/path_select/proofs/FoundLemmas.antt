-- What a loop over the files of a tree has found of a pattern.
use Rattle.std.proofs.Common.{◌≡◌, ◌∙◌, add-one, append_assoc, ap, sym, refl, ℕ, zero, suc, ◌+◌, ◌≤◌, Bool, true, false, if◌then◌else◌, List, [], ◌∷◌, ◌++◌, drop, drop-cons, length, map, filter, Some, slice_get, arith}
use Rattle.std.proofs.lemmas.List.{append-nil}
use Rattle.std.proofs.lemmas.Option.{get_or_from_slice_get, slice_get_within}
use Rattle.hook_base.specs.declared.file.File.{File}
use Rattle.hook_base.specs.Trees.{path_of}
use Rattle.path_select.specs.Patterns.{is_found}
use Rattle.path_select.specs.Selection.{found_in}

at_row : (tree : List File) (index : ℕ) (row : File) → slice_get tree index ≡ Some row → drop index tree ≡ row ∷ drop (index + 1) tree
at_row tree index row held =
    rw (add-one, drop-cons tree index row (slice_get_within tree index row held), get_or_from_slice_get tree index row row held) refl

nothing_left : (rows : List File) (n : ℕ) → length rows ≤ n → drop n rows ≡ []
nothing_left [] zero past = refl
nothing_left [] (suc n) past = refl
nothing_left (row ∷ rows) zero past = absurd (omega arith)
nothing_left (row ∷ rows) (suc n) past = nothing_left rows n (omega arith)

module _ (pattern : List ℕ) (made : List (List ℕ)) (tree : List File) (index : ℕ) where
  -- what is found, once these are and the rest of the tree is gone through
  abbrev pub AreFound : Type 0
  AreFound = made ++ found_in pattern (drop index tree) ≡ found_in pattern tree

  pub all_found : length tree ≤ index → AreFound → made ≡ found_in pattern tree
  all_found past so_far = sym (append-nil made) ∙ ap (λ (rows : List File). made ++ found_in pattern rows) (sym (nothing_left tree index past)) ∙ so_far

  module _ (row : File) (held : slice_get tree index ≡ Some row) where
    abbrev rest : List File
    rest = drop (index + 1) tree

    split : (b : Bool) → is_found pattern row.path ≡ b → found_in pattern (drop index tree)
        ≡ map path_of (if b then row ∷ filter (λ (one : File). is_found pattern one.path) rest else filter (λ (one : File). is_found pattern one.path) rest)
    split b is =
        ap (found_in pattern) (at_row tree index row held)
        ∙ ap (λ (found : Bool). map path_of (if found then row ∷ filter (λ (one : File). is_found pattern one.path) rest else filter (λ (one : File). is_found pattern one.path) rest)) is

    pub found_more : is_found pattern row.path ≡ true → AreFound → (made ++ row.path ∷ []) ++ found_in pattern rest ≡ found_in pattern tree
    found_more is so_far =
        append_assoc made (row.path ∷ []) (found_in pattern rest)
        ∙ ap (λ (more : List (List ℕ)). made ++ more) (sym (split true is))
        ∙ so_far

    pub found_same : is_found pattern row.path ≡ false → AreFound → made ++ found_in pattern rest ≡ found_in pattern tree
    found_same is so_far = ap (λ (more : List (List ℕ)). made ++ more) (sym (split false is)) ∙ so_far
