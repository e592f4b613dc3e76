-- The names of links so far, and one more.
use Rattle.std.proofs.Common.{◌≡◌, ◌∙◌, ap, sym, refl, ℕ, Bool, true, false, List, [], ◌∷◌, ◌++◌, map}
use Rattle.std.specs.Prelude.{◌&&◌}
use Rattle.std.specs.List.{list_all}
use Rattle.std.proofs.lemmas.List.{map-append}
use Rattle.std.proofs.lemmas.List.Folds.{list_all-append}
use denote.Ref.{Bor}
use Rattle.named_files.specs.NamedPaths.{with_path, with_paths}
use Rattle.hookhost.specs.LinkedPlaces.{is_link_name, place_in_top}
use Rattle.hookhost.proofs.UnstagedWordLemmas.{with_paths-append}

abbrev pub texts_of : List (Bor (List ℕ)) → List (List ℕ)
texts_of pieces = map (λ (piece : Bor (List ℕ)). piece.now) pieces

texts-more : (pieces : List (Bor (List ℕ))) (piece : Bor (List ℕ)) → texts_of (pieces ++ piece ∷ []) ≡ texts_of pieces ++ piece.now ∷ []
texts-more pieces piece = map-append (λ (one : Bor (List ℕ)). one.now) pieces (piece ∷ [])

and-true : (b : Bool) → (b && true) ≡ b
and-true true = refl
and-true false = refl

pub names-more : (pieces : List (Bor (List ℕ))) (piece : Bor (List ℕ)) (are is : Bool)
    → are ≡ list_all is_link_name (texts_of pieces) → is ≡ is_link_name piece.now
    → (are && is) ≡ list_all is_link_name (texts_of (pieces ++ piece ∷ []))
names-more pieces piece are is all one =
    ap (λ (b : Bool). b && is) all ∙ ap (λ (b : Bool). list_all is_link_name (texts_of pieces) && b) (one ∙ sym (and-true (is_link_name piece.now)))
    ∙ sym (ap (list_all is_link_name) (texts-more pieces piece) ∙ list_all-append is_link_name (texts_of pieces) (piece.now ∷ []))

pub places-more : (top : List ℕ) (pieces : List (Bor (List ℕ))) (piece : Bor (List ℕ)) (old new : List (List ℕ)) (place : List ℕ)
    → old ≡ with_paths [] (map (place_in_top top) (texts_of pieces)) → place ≡ place_in_top top piece.now → new ≡ with_path old place
    → new ≡ with_paths [] (map (place_in_top top) (texts_of (pieces ++ piece ∷ [])))
places-more top pieces piece old new place before is more =
    more ∙ ap (λ (paths : List (List ℕ)). with_path paths place) before
    ∙ ap (with_path (with_paths [] (map (place_in_top top) (texts_of pieces)))) is
    ∙ with_paths-append [] (map (place_in_top top) (texts_of pieces)) (place_in_top top piece.now ∷ [])
    ∙ ap (with_paths []) (sym (ap (map (place_in_top top)) (texts-more pieces piece) ∙ map-append (place_in_top top) (texts_of pieces) (piece.now ∷ [])))
