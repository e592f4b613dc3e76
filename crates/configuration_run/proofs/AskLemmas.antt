-- The paths of a tree's files, from the first on.
use Rattle.std.proofs.Common.{◌≡◌, ◌∙◌, ap, sym, ℕ, ◌+◌, List, [], ◌∷◌, ◌++◌, ◌<◌, length, map, take}
use Rattle.std.specs.Prelude.{Some, slice_get}
use Rattle.std.proofs.lemmas.List.{map-append, take_more}
use Rattle.std.proofs.lemmas.Option.{get_or_from_slice_get}
use Rattle.hook_base.specs.declared.file.File.{File}

abbrev pub paths_in : List File → List (List ℕ)
paths_in = map (λ row. row.path)

pub paths-more : (paths after : List (List ℕ)) (path : List ℕ) (tree : List File) (place : ℕ) (row : File) → place < length tree
    → paths ≡ paths_in (take place tree) → slice_get tree place ≡ Some row → path ≡ row.path
    → after ≡ paths ++ path ∷ [] → after ≡ paths_in (take (place + 1) tree)
paths-more paths after path tree place row within so_far here is made =
    let taken : take (place + 1) tree ≡ take place tree ++ row ∷ [] =
    take_more tree place row within ∙ ap (λ last. take place tree ++ last ∷ []) (get_or_from_slice_get tree place row row here) in
    made ∙ ap (λ names. names ++ path ∷ []) so_far ∙ ap (λ name. paths_in (take place tree) ++ name ∷ []) is
    ∙ sym (map-append (λ (row : File). row.path) (take place tree) (row ∷ [])) ∙ ap paths_in (sym taken)
