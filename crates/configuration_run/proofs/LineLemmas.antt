-- Texts that are written one after another.
use Rattle.std.proofs.Common.{◌≡◌, ◌∙◌, ap, sym, add-one, append_assoc, ℕ, suc, ◌+◌, ◌<◌, List, ◌∷◌, ◌++◌, length, drop, get_or}
use Rattle.std.proofs.Math.Seq.{drop-cons}
use Rattle.std.specs.List.{flat_map}

-- the text of the item at an index is written, and those of the items after it are left
pub written-more : {X : Type 0} (text_of : X → List ℕ) (whole before after : List ℕ) (items : List X) (place : ℕ) (item : X) → place < length items
    → item ≡ get_or items place item → whole ≡ before ++ flat_map text_of (drop place items) → after ≡ before ++ text_of item
    → whole ≡ after ++ flat_map text_of (drop (place + 1) items)
written-more text_of whole before after items place item within is so_far made =
    let here : drop place items ≡ item ∷ drop (place + 1) items =
    drop-cons items place item within ∙ ap (λ i. i ∷ drop (suc place) items) (sym is) ∙ ap (λ n. item ∷ drop n items) (sym (add-one place)) in
    so_far ∙ ap (λ left. before ++ flat_map text_of left) here ∙ sym (append_assoc before (text_of item) (flat_map text_of (drop (place + 1) items)))
    ∙ ap (λ text. text ++ flat_map text_of (drop (place + 1) items)) (sym made)
