-- One turn of the loops over a list's or a table's parts.
use Rattle.std.proofs.Common.{◌≡◌, ℕ, ◌-◌, ◌≤◌, Bool, List, [], ◌∷◌, ◌++◌, map, length, get_or, take, drop, Option, option_and_then, refl, sym, ap, ap₂, ◌∙◌, arith}
use Rattle.std.proofs.lemmas.List.{map-append}
use Rattle.std.proofs.Math.Seq.{take-length}
use Rattle.yaml_lines.specs.Entries.{ContentLine}
use Rattle.yaml_lines.specs.Meaning.{Meaning}
use Rattle.yaml_profile.specs.Blocks.{BlockPart, cut, parts, all_of, is_deeper, is_below_key, item, items, entry, rows, distinct}
use Rattle.yaml_profile.proofs.Lists.{prepend, none_before}
use Rattle.yaml_profile.proofs.Tables.{rows_with}

-- the part that the first of the lines begins, and the parts after it
pub begun : (t : ContentLine → Bool) (lines others below after : List ContentLine) (head : ContentLine) → lines ≡ head ∷ others → below ≡ (cut t others).before
    → parts t after ≡ (cut t others).parts → parts t lines ≡ record { head = head; below = below } ∷ parts t after
begun t lines others below after head e b p =
    let part : List ContentLine → List BlockPart → List BlockPart = λ ls ps. record { head = head; below = ls } ∷ ps in
    ap (parts t) e ∙ ap₂ part (sym b) (sym p)

-- a list that isn't empty, by its first element and the others
pub first_and_others : {A : Type 0} (xs : List A) (x : A) → x ≡ get_or xs 0 x → 1 ≤ length xs → xs ≡ x ∷ take (length xs - 1) (drop 1 xs)
first_and_others [] x e some = absurd (omega arith)
first_and_others (y ∷ ys) x e some =
    let fewer : length ys ≡ length (y ∷ ys) - 1 = omega arith in
    ap₂ (λ z zs. z ∷ zs) (sym e) (sym (take-length ys) ∙ ap (λ n. take n ys) fewer)

pub none_left : {A : Type 0} (xs : List A) → length xs ≡ 0 → xs ≡ []
none_left [] e = refl
none_left (x ∷ xs) e = absurd (omega arith)

pub map_push : {A B : Type 0} (f : A → B) (before after : List A) (x : A) → after ≡ before ++ x ∷ [] → map f after ≡ map f before ++ f x ∷ []
map_push f before after x e = ap (map f) e ∙ map-append f before (x ∷ [])

-- at the start nothing was read
pub items_at : (node : List ContentLine → Option Meaning) (first : ContentLine) (later : List ContentLine) (indent : ℕ) → indent ≡ first.indent
    → items node first later ≡ prepend [] (all_of (item node indent) (parts (is_deeper indent) (first ∷ later)))
items_at node first later indent e =
    none_before (items node first later)
    ∙ ap (λ i. prepend [] (all_of (item node i) (parts (is_deeper i) (first ∷ later)))) (sym e)

pub rows_at : (node : List ContentLine → Option Meaning) (line : ContentLine → List ContentLine → Option Meaning) (first : ContentLine) (later : List ContentLine) (indent : ℕ) → indent ≡ first.indent
    → rows node line first later ≡ rows_with (entry node line indent) [] (parts (is_below_key indent) (first ∷ later))
rows_at node line first later indent e =
    ap (option_and_then distinct) (none_before (all_of (entry node line first.indent) (parts (is_below_key first.indent) (first ∷ later))))
    ∙ ap (λ i. rows_with (entry node line i) [] (parts (is_below_key i) (first ∷ later))) (sym e)
